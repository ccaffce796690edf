-- Each answer for a file is returned as one .sol file, or has one first dual that is too wide.
use Rattle.std.proofs.Common.{below_more, ◌≡◌, ◌⊎◌, inl, inr, ◌∙◌, ℕ, zero, suc, ◌<◌, ◌≤◌, ◌^◌, ℤ, pos, ◌*ℤ◌, Bool}
use Rattle.std.proofs.Common.{true, false, ltb, List, [], ◌∷◌, ◌++◌, length, map, get_or, IsTrue, Option, Some, None}
use Rattle.std.proofs.Common.{is_some, refl, sym, ap, subst, arith}
use Rattle.std.specs.Prelude.{slice_get, unsigned_abs, MatchOption}
use Rattle.std.specs.List.{list_any}
use Rattle.std.proofs.lemmas.Bool.{both_ways, lt-ltb, ltb-true}
use Rattle.std.proofs.lemmas.List.{length-append, ext_get_or}
use Rattle.std.proofs.lemmas.Option.{slice_get-get_or}
use Rattle.exact_numbers.specs.Rational.{ℚ, whole, zero_ℚ, ◌*ℚ◌}
use Rattle.exact_numbers.proofs.RationalLaws.{whole-*ℚ}
use Rattle.exact_numbers.specs.declared.dec.Dec.{Dec}
use Rattle.exact_numbers.specs.Numbers.{dec_from}
use Rattle.exact_numbers.specs.Values.{dec_value, fits_dec, IsInReach}
use Rattle.exact_numbers.proofs.Bridge.{zero_decimal}
use Rattle.exact_numbers.proofs.NumberLemmas.{dec_from-some, dec_from-fits}
use Rattle.exact_numbers.proofs.Spelling.{fits_dec_in, fits_dec_out}
use Rattle.scaled_program.specs.Fits.{factor_of_row}
use Rattle.scaled_program.specs.Program.{is_exported}
use Rattle.linear_program.specs.Linear.{row_at}
use Rattle.scaled_program.specs.Return.{dual_of}
use Rattle.nl_model.specs.File.{File}
use Rattle.answer_file.specs.Grammar.{AnswerValue}
use Rattle.sol_files.specs.Sol.{Sol}
use Rattle.dual_return.proofs.DualLemmas.{each-push}
use Rattle.dual_return.specs.Return.{given, objno_of, suffix_for, linear_for, sign_of, multiplier_of, IsDualAt, Reaches, AreDuals, AreDualsIf, IsReturn, IsTooWideAt, HasReturnFault, HasOneReturn}
use Rattle.dual_return.specs.declared.fault.ReturnFault.{ReturnFault}
use Rattle.dual_return.specs.declared.fault.ReturnFault.TheVariants.{DualTooWide}

-- ---- numbers

dec_same : (c d : Dec) → dec_value c ≡ dec_value d → c ≡ d
dec_same c d e = let some : Some c ≡ Some d = sym (dec_from-some c) ∙ ap dec_from e ∙ dec_from-some d in cc

zero_dec : Dec
zero_dec = record { m = pos 0; e = pos 0; spelled = record { mantissa = omega arith; exponent = omega arith; shortest = λ z. (refl, refl) } }

zero_is : dec_value zero_dec ≡ zero_ℚ
unfolding zero_dec
zero_is = zero_decimal (pos 0)

dec_for : (x : ℚ) → fits_dec x ≡ true → (d : Dec) × (dec_value d ≡ x)
dec_for x e = by (dec_from x) (dec_from-fits x)
  where
    by : (o : Option Dec) → MatchOption o (fits_dec x ≡ false) (λ d. (fits_dec x ≡ true) × (dec_value d ≡ x)) → (d : Dec) × (dec_value d ≡ x)
    by None f = absurd (both_ways (fits_dec x) f e)
    by (Some d) h = (d, h.1)

reach_decided : (w : Dec) (k : ℤ) → IsInReach w k ⊎ (IsInReach w k → ⊥)
reach_decided w k = by (ltb (unsigned_abs (w.m *ℤ k)) (2 ^ 127)) refl (fits_dec (dec_value w *ℚ whole k)) refl
  where
    by : (b : Bool) → ltb (unsigned_abs (w.m *ℤ k)) (2 ^ 127) ≡ b → (c : Bool) → fits_dec (dec_value w *ℚ whole k) ≡ c → IsInReach w k ⊎ (IsInReach w k → ⊥)
    by false e c f = inr (λ h. both_ways _ e (lt-ltb (unsigned_abs (w.m *ℤ k)) (2 ^ 127) h.size))
    by true e false f = inr (λ h. both_ways _ f (fits_dec_in (dec_value w *ℚ whole k) h.dec))
    by true e true f = inl (record { size = ltb-true (unsigned_abs (w.m *ℤ k)) (2 ^ 127) e; dec = fits_dec_out (dec_value w *ℚ whole k) f })

-- ---- one row

-- the row is not exported, or has no value
abbrev IsOther : File → AnswerValue → ℕ → Type 0
IsOther f a i = (IsTrue (is_exported (row_at (linear_for f a) i)) → ⊥) ⊎ (get_or a.rows i None ≡ None)

row_case : (f : File) (a : AnswerValue) (i : ℕ) → IsOther f a i ⊎ (IsTrue (is_exported (row_at (linear_for f a) i)) × (w : Dec) × (get_or a.rows i None ≡ Some w))
row_case f a i = by (is_exported (row_at (linear_for f a) i)) refl (get_or a.rows i None) refl
  where
    by : (b : Bool) → is_exported (row_at (linear_for f a) i) ≡ b → (o : Option Dec) → get_or a.rows i None ≡ o
        → IsOther f a i ⊎ (IsTrue (is_exported (row_at (linear_for f a) i)) × (w : Dec) × (get_or a.rows i None ≡ Some w))
    by false e o g = inl (inl (both_ways _ e))
    by true e None g = inl (inr g)
    by true e (Some w) g = inr (e, w, g)

not_given : (f : File) (a : AnswerValue) (i : ℕ) (w : Dec) → IsOther f a i → IsTrue (is_exported (row_at (linear_for f a) i)) → get_or a.rows i None ≡ Some w → ⊥
not_given f a i w (inl ne) t is = ne t
not_given f a i w (inr none) t is = absurd cc

row_decided : (f : File) (a : AnswerValue) (i : ℕ) → i < f.counts.n_con → ((k : ℕ) → k < i → Reaches f a k) → Reaches f a i ⊎ IsTooWideAt f a i
row_decided f a i h before = elim (row_case f a i) [
  | inl other ↦ inl (λ t w is. absurd (not_given f a i w other t is))
  | inr (t, v, g) ↦ elim (reach_decided v (multiplier_of f a i)) [
    | inl reach ↦ inl (λ t w is. let same : v ≡ w = cc in subst (λ (d : Dec). IsInReach d (multiplier_of f a i)) same reach)
    | inr wide ↦ inr (record { within = h; before = before; exported = t; value = v; given_for = g; wide = wide })
  ]
]

-- the first that is too wide, or all reach
rows_decided : (f : File) (a : AnswerValue) (n : ℕ) → n ≤ f.counts.n_con → ((k : ℕ) → k < n → Reaches f a k) ⊎ ((i : ℕ) × IsTooWideAt f a i)
rows_decided f a zero h = inl (λ k less. absurd (omega arith))
rows_decided f a (suc n) h = elim (rows_decided f a n (omega arith)) [
  | inr wide ↦ inr wide
  | inl before ↦ elim (row_decided f a n h before) [
    | inr wide ↦ inr (n, wide)
    | inl r ↦ inl (λ k less. below_more (Reaches f a) n before r k (omega (arith, less)))
  ]
]

-- ---- duals

dual_in : (f : File) (a : AnswerValue) (i : ℕ) → Reaches f a i → (d : Dec) × IsDualAt f a i d
dual_in f a i r = elim (row_case f a i) [
  | inl other ↦ (zero_dec, record { reach = r; exported = λ t w is. absurd (not_given f a i w other t is); other = λ none. zero_is })
  | inr (e, v, g) ↦
      let m = multiplier_of f a i in
      let d = dec_for (dec_value v *ℚ whole m) (fits_dec_in (dec_value v *ℚ whole m) (r e v g).dec) in
      let factor = factor_of_row (linear_for f a) i in
      let is_dual : dec_value d.0 ≡ dual_of (whole (sign_of f a)) (dec_value v) factor = d.1 ∙ ap (λ q. dec_value v *ℚ q) (sym (whole-*ℚ (sign_of f a) (pos factor))) in (
        d.0,
        record {
          reach = r;
          exported = λ t w is. let same : v ≡ w = cc in subst (λ (x : Dec). dec_value d.0 ≡ dual_of (whole (sign_of f a)) (dec_value x) factor) same is_dual;
          other = λ none. absurd (not_given f a i v none e g);
        },
      )
]

record AreFirst (f : File) (a : AnswerValue) (duals : List Dec) (n : ℕ) : Type 0 where
  count : length duals ≡ n
  each : (i : ℕ) (d : Dec) → slice_get duals i ≡ Some d → IsDualAt f a i d

first_duals : (f : File) (a : AnswerValue) (n : ℕ) → ((k : ℕ) → k < n → Reaches f a k) → (duals : List Dec) × AreFirst f a duals n
first_duals f a zero reach = ([], record { count = refl; each = λ i d is. absurd (cc) })
first_duals f a (suc n) reach =
    let before = first_duals f a n (λ k less. reach k (omega arith)) in
    let next = dual_in f a n (reach n (omega arith)) in (
      before.0 ++ next.0 ∷ [],
      record {
        count = omega (arith, before.1.count, length-append before.0 (next.0 ∷ []));
        each = each-push (IsDualAt f a) before.0 next.0 before.1.each (subst (λ (k : ℕ). IsDualAt f a k next.0) (sym before.1.count) next.1);
      },
    )

one_dual : (f : File) (a : AnswerValue) (i : ℕ) (c d : Dec) → IsDualAt f a i c → IsDualAt f a i d → c ≡ d
one_dual f a i c d x y = elim (row_case f a i) [
  | inl other ↦ dec_same c d (x.other other ∙ sym (y.other other))
  | inr (e, v, g) ↦ dec_same c d (x.exported e v g ∙ sym (y.exported e v g))
]

one_duals : (b : Bool) (f : File) (a : AnswerValue) (xs ys : List Dec) → AreDualsIf b f a xs → AreDualsIf b f a ys → xs ≡ ys
one_duals false f a xs ys p q = p ∙ sym q
one_duals true f a xs ys p q =
    ext_get_or zero_dec xs ys (p.count ∙ sym q.count) (λ i h. one_dual f a i _ _
    (p.each i _ (slice_get-get_or xs i zero_dec h)) (q.each i _
    (slice_get-get_or ys i zero_dec (omega (arith, h, p.count, q.count)))))

-- ---- all of it

returned : (f : File) (a : AnswerValue) (duals : List Dec) → AreDualsIf (list_any is_some a.rows) f a duals → (s : Sol) × IsReturn f a s
returned f a duals h = (
  record {
    message = a.message;
    options = f.options;
    n_con = f.counts.n_con;
    duals = duals;
    n_var = f.counts.n_var;
    primals = given a.columns;
    objno = objno_of a;
    suffixes = map suffix_for a.suffixes;
  },
  record { message = refl; options = refl; constraints = refl; duals = h; variables = refl; primals = refl; objno = refl; suffixes = refl },
)

some_return : (f : File) (a : AnswerValue) → ((s : Sol) × IsReturn f a s) ⊎ ((fault : ReturnFault) × HasReturnFault f a fault)
some_return f a = by (list_any is_some a.rows) refl
  where
    by : (b : Bool) → list_any is_some a.rows ≡ b → ((s : Sol) × IsReturn f a s) ⊎ ((fault : ReturnFault) × HasReturnFault f a fault)
    by false e = inl (returned f a [] (subst (λ (b : Bool). AreDualsIf b f a []) (sym e) refl))
    by true e = elim (rows_decided f a f.counts.n_con (omega arith)) [
      | inr wide ↦ inr (DualTooWide wide.0, wide.1)
      | inl reach ↦
          let all = first_duals f a f.counts.n_con reach in
          inl (returned f a all.0 (subst (λ (b : Bool). AreDualsIf b f a all.0) (sym e) (record { count = all.1.count; each = all.1.each })))
    ]

some_row : (rows : List (Option Dec)) (i : ℕ) (d : Dec) → get_or rows i None ≡ Some d → list_any is_some rows ≡ true
some_row [] i d e = absurd (let n : None ≡ Some d = e in cc)
some_row (r ∷ rows) zero d e = rw e refl
some_row (None ∷ rows) (suc i) d e = some_row rows i d e
some_row (Some x ∷ rows) (suc i) d e = refl

not_both : (f : File) (a : AnswerValue) (s : Sol) (fault : ReturnFault) → IsReturn f a s → HasReturnFault f a fault → ⊥
not_both f a s (DualTooWide i) h w =
    let all : AreDuals f a s.duals = subst (λ (b : Bool). AreDualsIf b f a s.duals) (some_row a.rows i w.value w.given_for) h.duals in
    let at = slice_get-get_or s.duals i zero_dec (omega (arith, w.within, all.count)) in
    w.wide ((all.each i _ at).reach w.exported w.value w.given_for)

one_sol : (f : File) (a : AnswerValue) (s t : Sol) → IsReturn f a s → IsReturn f a t → s ≡ t
one_sol f a s t x y =
    let duals = one_duals (list_any is_some a.rows) f a s.duals t.duals x.duals y.duals in
    λ i. record {
      message = (x.message ∙ sym y.message) i;
      options = (x.options ∙ sym y.options) i;
      n_con = (x.constraints ∙ sym y.constraints) i;
      duals = duals i;
      n_var = (x.variables ∙ sym y.variables) i;
      primals = (x.primals ∙ sym y.primals) i;
      objno = (x.objno ∙ sym y.objno) i;
      suffixes = (x.suffixes ∙ sym y.suffixes) i;
    }

not_later : (f : File) (a : AnswerValue) (i j : ℕ) → IsTooWideAt f a i → IsTooWideAt f a j → i < j → ⊥
not_later f a i j x y less = x.wide (y.before i less x.exported x.value x.given_for)

one_fault : (f : File) (a : AnswerValue) (x y : ReturnFault) → HasReturnFault f a x → HasReturnFault f a y → x ≡ y
one_fault f a (DualTooWide i) (DualTooWide j) h k =
    let one : i < j → ⊥ = not_later f a i j h k in
    let other : j < i → ⊥ = not_later f a j i k h in
    let same : i ≡ j = omega arith in
    ap DualTooWide same

pub one-return : (f : File) (a : AnswerValue) → HasOneReturn f a
one-return f a = record { some = some_return f a; not_both = not_both f a; one_sol = one_sol f a; one_fault = one_fault f a }
