use Rattle.std.proofs.Common.{◌≡◌, ◌≢◌, ℕ, zero, suc, ◌<◌, ◌≤◌, ◌∙◌, sym, ap, refl, subst, arith, ⊎_elim, List, [], ◌∷◌}
use Rattle.std.proofs.Common.{◌++◌, All, pos, length-append, length, append_assoc, append-nil, ◌^◌, ap₂, Option, Some}
use Rattle.std.proofs.Common.{None, IsTrue, ℤ, unsigned_abs}
use Rattle.std.specs.Prelude.{is_some, ◌||◌, Bool}
use Rattle.std.proofs.Math.ListN.{get_or-append}
use Rattle.std.proofs.lemmas.Bool.{cases_eq, cases_lt}
use Rattle.std.proofs.lemmas.List.Elements.{All-nil, All-cons, All-head, All-tail, All-push, All-append}
use Rattle.std.proofs.lemmas.Nat.Gcd.{dvd_antisymm, dvd_refl}
use Rattle.exact_numbers.specs.Rational.{ℚ, zero_ℚ, whole, ◌*ℚ◌, ◌+ℚ◌, ◌-ℚ◌}
use Rattle.exact_numbers.proofs.RationalLaws.{*ℚ_zero, +ℚ_zero, zero-*ℚ, *ℚ_comm, *ℚ_cancel, same_whole}
use Rattle.scaled_program.specs.Factor.{IsFinite, least_factor, coefficients_below, side_less}
use Rattle.scaled_program.proofs.Factor.{factor_multiples, factor_above}
use Rattle.exact_numbers.specs.Values.{frac_value, dec_value, FitsDec}
use Rattle.linear_program.specs.Coefs.{Term, coef_in, value_or_zero, AreAscending, AreBelow}
use Rattle.linear_program.proofs.CoefLemmas.{found_same, found_apart}
use Rattle.row_scaling.specs.Fitting.{coefficients_in, NumberFits, AreTermsTimes, listed, less_side, times_side, LessFits, AreSidesFit}
use Rattle.row_scaling.proofs.SharedLemmas.{zero_decimal, nothing_in, first_in, later_in, zero_fits}
use Rattle.linear_program.specs.Decimals.{coefficient_of}
use Rattle.exact_numbers.specs.declared.dec.Dec.{Dec}
use Rattle.row_scaling.specs.Rows.{TermOf, IsSparse, IsBelow, side_value, RowValue, IsScaledRow}
use Rattle.linear_program.specs.Linear.{Row}
use Rattle.scaled_program.specs.Fits.{RowFits, ScaledFits, SideFits, IfSide, IfBoth, RangeFits}
use Rattle.scaled_program.specs.Program.{scaled_side, range_of, scaled_row}
use Rattle.linear_program.specs.declared.interval.Interval.{Interval}
use Rattle.exact_numbers.proofs.Zeros.{fits_zero}
use Rattle.exact_numbers.specs.Fits.{fits}
use Rattle.linear_program.specs.declared.form.Form.{Form}
use Rattle.linear_program.specs.Forms.{form_line, form_terms}
use Rattle.row_scaling.specs.Factored.{row_for, factor_for, IsFactored}
use Rattle.std.proofs.lemmas.Int.{ints}
use Rattle.exact_numbers.specs.declared.frac.Frac.{Frac}
use Rattle.linear_program.specs.Names.{row_name}
use Rattle.linear_program.specs.declared.too_wide.Wide.{Wide}
use Rattle.text_base.specs.Stopped.{IfFault}
use Rattle.text_base.specs.declared.stop.Stop.{Stop}
use Rattle.text_base.specs.declared.stop.Stop.TheVariants.{Fault, Memory}
use Rattle.row_scaling.specs.Exported.{scaled_row_of}

-- What holds of the numbers of a form, by its coefficients and by its terms.

pub all_left : (P : ℚ → Type 0) (xs ys : List ℚ) → All P (xs ++ ys) → All P xs
all_left P xs ys h = λ k d l. subst P (get_or-append xs ys d k l) (h k d (omega (arith, length-append xs ys)))

pub all_right : (P : ℚ → Type 0) (xs ys : List ℚ) → All P (xs ++ ys) → All P ys
all_right P [] ys h = h
all_right P (x ∷ xs) ys h = all_right P xs ys (All-tail P x (xs ++ ys) h)

module _ (P : ℚ → Type 0) where
  below_of : (c : ℕ → ℚ) (n : ℕ) → ((j : ℕ) → j < n → P (c j)) → All P (coefficients_below c n)
  below_of c zero h = All-nil P
  below_of c (suc n) h = All-push P (coefficients_below c n) (c n) (below_of c n (λ j l. h j (omega (arith, l)))) (h n (omega arith))

  of_below : (c : ℕ → ℚ) (n : ℕ) → All P (coefficients_below c n) → (j : ℕ) → j < n → P (c j)
  of_below c zero h j l = absurd (omega (arith, l))
  of_below c (suc n) h j l =
      ⊎_elim
      (λ (e : j < n). of_below c n (all_left P (coefficients_below c n) (c n ∷ []) h) j e)
      (λ (e : n ≤ j). let same : n ≡ j = omega (arith, e, l) in subst (λ i. P (c i)) same (All-head P (c n) [] (all_right P (coefficients_below c n) (c n ∷ []) h)))
      (cases_lt j n)

  of_terms : P zero_ℚ → (ts : List Term) → All P (coefficients_in ts) → (j : ℕ) → P (coef_in ts j)
  of_terms z [] h j = z
  of_terms z (t ∷ ts) h j =
      ⊎_elim
      (λ (e : j ≡ t.0). subst P (sym (ap value_or_zero (found_same t ts j e))) (All-head P (frac_value t.1) (coefficients_in ts) h))
      (λ (e : j ≢ t.0). subst P (sym (ap value_or_zero (found_apart t ts j e))) (of_terms z ts (All-tail P (frac_value t.1) (coefficients_in ts) h) j))
      (cases_eq j t.0)

  terms_of : (n m : ℕ) (ts : List Term) → AreAscending m ts → AreBelow n ts → ((j : ℕ) → m ≤ j → j < n → P (coef_in ts j)) → All P (coefficients_in ts)
  terms_of n m [] a b h = All-nil P
  terms_of n m (t ∷ ts) a b h =
      All-cons P (frac_value t.1) (coefficients_in ts) (subst P (ap value_or_zero (found_same t ts t.0 refl)) (h t.0 a.0 b.0))
      (terms_of n (suc t.0) ts a.2 b.1 (λ j l k. subst P (ap value_or_zero (found_apart t ts j (λ e. omega (arith, e, l)))) (h j (omega (arith, a.0, l)) k)))

-- the numbers of terms of n variables, by their coefficients and by the terms
module _ (n : ℕ) (ts : List Term) (up : AreAscending 0 ts) (below : AreBelow n ts) where
  pub to_terms : (P : ℚ → Type 0) → All P (coefficients_below (coef_in ts) n) → All P (coefficients_in ts)
  to_terms P h = terms_of P n 0 ts up below (λ j l m. of_below P (coef_in ts) n h j m)

  pub from_terms : (P : ℚ → Type 0) → P zero_ℚ → All P (coefficients_in ts) → All P (coefficients_below (coef_in ts) n)
  from_terms P z h = below_of P (coef_in ts) n (λ j l. of_terms P z ts h j)

-- ---- equal factors
abbrev pub Finite : ℕ → ℚ → Type 0
Finite k x = IsFinite (whole (pos k) *ℚ x)

pub zero_finite : (k : ℕ) → Finite k zero_ℚ
zero_finite k = record { m = pos 0; e = pos 0; same = *ℚ_zero (whole (pos k)) ∙ sym zero_decimal }

pub same_factor : (xs ys : List ℚ) → ((k : ℕ) → All (Finite k) xs → All (Finite k) ys) → ((k : ℕ) → All (Finite k) ys → All (Finite k) xs) → least_factor xs ≡ least_factor ys
same_factor xs ys there back =
    dvd_antisymm
    ((factor_multiples xs (least_factor ys)).0 (back (least_factor ys) ((factor_multiples ys (least_factor ys)).1 (dvd_refl (least_factor ys)))))
    ((factor_multiples ys (least_factor xs)).0 (there (least_factor xs) ((factor_multiples xs (least_factor xs)).1 (dvd_refl (least_factor xs)))))

-- Terms times a factor.

module _ (q : ℚ) (all : List Term) (t : Term) (rest more : List Term) (is : rest ≡ t ∷ more) where
  pub first_fits : All (NumberFits q) (coefficients_in rest) → NumberFits q (frac_value t.1)
  first_fits h = All-head (NumberFits q) (frac_value t.1) (coefficients_in more) (subst (λ ts. All (NumberFits q) (coefficients_in ts)) is h)

  pub others_fit : All (NumberFits q) (coefficients_in rest) → All (NumberFits q) (coefficients_in more)
  others_fit h = All-tail (NumberFits q) (frac_value t.1) (coefficients_in more) (subst (λ ts. All (NumberFits q) (coefficients_in ts)) is h)

  pub one_added : (done new us : List TermOf) (d : Dec) → new ≡ done ++ (t.0, d) ∷ [] → NumberFits q (frac_value t.1) → dec_value d ≡ q *ℚ frac_value t.1 →
      ((us : List TermOf) → AreTermsTimes q rest us → AreTermsTimes q all (done ++ us)) → AreTermsTimes q more us → AreTermsTimes q all (new ++ us)
  one_added done new us d e fits value keeps h =
      let both : AreTermsTimes q (t ∷ more) ((t.0, d) ∷ us) = (record { variable = refl; fits = fits; value = value }, h) in
      subst (AreTermsTimes q all) (sym (ap (λ xs. xs ++ us) e ∙ append_assoc done ((t.0, d) ∷ []) us)) (keeps ((t.0, d) ∷ us) (subst (λ ts. AreTermsTimes q ts ((t.0, d) ∷ us)) (sym is) both))

pub all_added : (q : ℚ) (all rest : List Term) (done : List TermOf) → rest ≡ [] → ((us : List TermOf) → AreTermsTimes q rest us → AreTermsTimes q all (done ++ us)) → AreTermsTimes q all done
all_added q all rest done none keeps = subst (AreTermsTimes q all) (append-nil done) (keeps [] (subst (λ ts. AreTermsTimes q ts []) (sym none) tt))

-- ---- what follows for the terms times q
pub times_length : (q : ℚ) (ts : List Term) (us : List TermOf) → AreTermsTimes q ts us → length us ≡ length ts
times_length q [] [] h = refl
times_length q (t ∷ ts) (u ∷ us) h = ap suc (times_length q ts us h.1)
times_length q ts us h = absurd h

pub times_fit : (q : ℚ) (ts : List Term) (us : List TermOf) → AreTermsTimes q ts us → All (NumberFits q) (coefficients_in ts)
times_fit q [] us h = All-nil (NumberFits q)
times_fit q (t ∷ ts) [] h = absurd h
times_fit q (t ∷ ts) (u ∷ us) h = All-cons (NumberFits q) (frac_value t.1) (coefficients_in ts) h.0.fits (times_fit q ts us h.1)

pub times_below : (q : ℚ) (n : ℕ) (ts : List Term) (us : List TermOf) → AreTermsTimes q ts us → AreBelow n ts → IsBelow n us
times_below q n ts [] h b = All-nil (λ t. t.0 < n)
times_below q n [] (u ∷ us) h b = absurd h
times_below q n (t ∷ ts) (u ∷ us) h b = All-cons (λ t. t.0 < n) u us (subst (λ j. j < n) (sym h.0.variable) b.0) (times_below q n ts us h.1 b.1)

not_zero : (q x : ℚ) → q ≢ zero_ℚ → x ≢ zero_ℚ → q *ℚ x ≢ zero_ℚ
not_zero q x some other e = other (*ℚ_cancel x zero_ℚ q some (*ℚ_comm x q ∙ e ∙ sym (zero-*ℚ q)))

pub times_sparse : (q : ℚ) → q ≢ zero_ℚ → (m : ℕ) (ts : List Term) (us : List TermOf) → AreTermsTimes q ts us → AreAscending m ts → IsSparse m us
times_sparse q some m ts [] h a = tt
times_sparse q some m [] (u ∷ us) h a = absurd h
times_sparse q some m (t ∷ ts) (u ∷ us) h a = (
  subst (λ j. m ≤ j) (sym h.0.variable) a.0,
  λ e. not_zero q (frac_value t.1) some a.1 (sym h.0.value ∙ e),
  times_sparse q some (suc u.0) ts us h.1 (subst (λ j. AreAscending (suc j) ts) (sym h.0.variable) a.2),
)

times_before : (q : ℚ) (m j : ℕ) (ts : List Term) (us : List TermOf) → AreTermsTimes q ts us → AreAscending m ts → j < m → coefficient_of us j ≡ zero_ℚ
times_before q m j ts [] h a l = nothing_in j
times_before q m j [] (u ∷ us) h a l = absurd h
times_before q m j (t ∷ ts) (u ∷ us) h a l =
    later_in u us j (λ e. omega (arith, e, h.0.variable, a.0, l)) ∙ times_before q (suc t.0) j ts us h.1 a.2 (omega (arith, a.0, l))

pub times_coefficient : (q : ℚ) (m : ℕ) (ts : List Term) (us : List TermOf) → AreTermsTimes q ts us → AreAscending m ts → (j : ℕ) → coefficient_of us j ≡ q *ℚ coef_in ts j
times_coefficient q m [] [] h a j = nothing_in j ∙ sym (*ℚ_zero q)
times_coefficient q m (t ∷ ts) (u ∷ us) h a j =
    ⊎_elim
    (λ (e : j ≡ t.0).
    first_in u us j (h.0.variable ∙ sym e)
    ∙ ap (λ x. dec_value u.1 +ℚ x) (times_before q (suc t.0) j ts us h.1 a.2 (omega (arith, e)))
    ∙ +ℚ_zero (dec_value u.1)
    ∙ h.0.value
    ∙ ap (λ o. q *ℚ value_or_zero o) (sym (found_same t ts j e)))
    (λ (e : j ≢ t.0).
    later_in u us j (λ f. e (sym f ∙ h.0.variable))
    ∙ times_coefficient q (suc t.0) ts us h.1 a.2 j
    ∙ ap (λ o. q *ℚ value_or_zero o) (sym (found_apart t ts j e)))
    (cases_eq j t.0)
times_coefficient q m ts us h a j = absurd h

-- Which numbers of a row fit, by its terms and its sides.

pub zero_number : (q : ℚ) → NumberFits q zero_ℚ
zero_number q =
    record {
      frac = ap fits (*ℚ_zero q) ∙ fits_zero;
      dec = subst FitsDec (zero_decimal ∙ sym (*ℚ_zero q)) zero_fits;
    }

pub number_of : (k : ℕ) (x : ℚ) → ScaledFits k x → NumberFits (whole (pos k)) x
number_of k x h = record { frac = h.frac; dec = h.dec }

pub scaled_of : (k : ℕ) (x : ℚ) → NumberFits (whole (pos k)) x → ScaledFits k x
scaled_of k x h = record { frac = h.frac; dec = h.dec }

pub all_map : {P Q : ℚ → Type 0} (xs : List ℚ) → ((x : ℚ) → P x → Q x) → All P xs → All Q xs
all_map xs f h = λ k d l. f _ (h k d l)

-- ---- sides

side_of_less : (P Q : ℚ → Type 0) (c : ℚ) (o : Option ℚ) → ((x : ℚ) → P x → Q (x -ℚ c)) → IfSide P o → IfSide Q (less_side c o)
side_of_less P Q c None f h = tt
side_of_less P Q c (Some x) f h = f x h

side_fits : (k : ℕ) (c : ℚ) (o : Option ℚ) → IfSide (LessFits c) o → IfSide (NumberFits (whole (pos k))) (less_side c o) → IfSide (SideFits k c) o
side_fits k c None h g = tt
side_fits k c (Some x) h g = record { side = h.side; less = h.less; scaled = record { frac = g.frac; dec = g.dec } }

pub times_less : (q c : ℚ) (o : Option ℚ) → times_side q (less_side c o) ≡ scaled_side q c o
times_less q c None = refl
times_less q c (Some x) = refl

listed_less : (c : ℚ) (o : Option ℚ) → side_less c o ≡ listed (less_side c o)
listed_less c None = refl
listed_less c (Some x) = refl

module _ (n i : ℕ) (b : Form) (s : Interval) (up : AreAscending 0 (form_terms b)) (below : AreBelow n (form_terms b)) where
  abbrev row : Row
  row = row_for i b s

  abbrev numbers : Option ℚ → Option ℚ → List ℚ
  numbers lo hi = coefficients_in (form_terms b) ++ listed lo ++ listed hi

  abbrev c : ℚ
  c = (form_line b).constant

  abbrev l : Option ℚ
  l = side_value s.lo

  abbrev u : Option ℚ
  u = side_value s.hi

  pub same_number : factor_for n row ≡ least_factor (numbers (less_side c l) (less_side c u))
  same_number =
      let xs = coefficients_below (form_line b).coef n in
      let ts = coefficients_in (form_terms b) in
      let lo = listed (less_side c l) in
      let hi = listed (less_side c u) in
      ap₂ (λ p q. least_factor (xs ++ p ++ q)) (listed_less c l) (listed_less c u)
      ∙ same_factor (xs ++ lo ++ hi) (ts ++ lo ++ hi)
      (λ k h. let first = all_left (Finite k) (xs ++ lo) hi h in
      All-append (Finite k) (ts ++ lo) hi (All-append (Finite k) ts lo
      (to_terms n (form_terms b) up below (Finite k) (all_left (Finite k) xs lo first))
      (all_right (Finite k) xs lo first)) (all_right (Finite k) (xs ++ lo) hi h))
      (λ k h. let first = all_left (Finite k) (ts ++ lo) hi h in
      All-append (Finite k) (xs ++ lo) hi (All-append (Finite k) xs lo
      (from_terms n (form_terms b) up below (Finite k) (zero_finite k) (all_left (Finite k) ts lo first))
      (all_right (Finite k) ts lo first)) (all_right (Finite k) (ts ++ lo) hi h))

  module _ (lo hi : Option ℚ) (e : lo ≡ less_side c l) (f : hi ≡ less_side c u) where
    pub same_numbers : factor_for n row ≡ least_factor (numbers lo hi)
    same_numbers = same_number ∙ ap₂ (λ p q. least_factor (numbers p q)) (sym e) (sym f)

    pub no_factor_fits : 2 ^ 127 ≤ least_factor (numbers lo hi) → ¬ RowFits n row (factor_for n row)
    no_factor_fits wide h = let small = h.factor in omega (arith, wide, small, same_numbers)

    module _ (q : ℚ) (g : q ≡ whole (pos (least_factor (numbers lo hi)))) where
      pub same_multiplier : q ≡ whole (pos (factor_for n row))
      same_multiplier = g ∙ ap (λ k. whole (pos k)) (sym same_numbers)

      sides_of : RowFits n row (factor_for n row) → AreSidesFit (whole (pos (factor_for n row))) (less_side c l) (less_side c u)
      sides_of h =
          let k = factor_for n row in
          let w = whole (pos k) in
          record {
            lower = side_of_less (SideFits k c) (NumberFits w) c l (λ x r. number_of k (x -ℚ c) r.scaled) h.lower;
            upper = side_of_less (SideFits k c) (NumberFits w) c u (λ x r. number_of k (x -ℚ c) r.scaled) h.upper;
            range = subst (λ p. IfBoth RangeFits p (times_side w (less_side c u))) (sym (times_less w c l)) (subst (IfBoth RangeFits (scaled_side w c l)) (sym (times_less w c u)) h.range);
          }

      pub no_scaled_fit : ¬ AreSidesFit q lo hi → ¬ RowFits n row (factor_for n row)
      no_scaled_fit bad h =
          bad (subst (λ r. AreSidesFit r lo hi) (sym same_multiplier)
          (subst (λ p. AreSidesFit (whole (pos (factor_for n row))) p hi) (sym e)
          (subst (AreSidesFit (whole (pos (factor_for n row))) (less_side c l)) (sym f) (sides_of h))))

      pub no_terms_fit : ¬ All (NumberFits q) (coefficients_in (form_terms b)) → ¬ RowFits n row (factor_for n row)
      no_terms_fit bad h =
          bad (subst (λ r. All (NumberFits r) (coefficients_in (form_terms b))) (sym same_multiplier)
          (to_terms n (form_terms b) up below (NumberFits (whole (pos (factor_for n row))))
          (all_map (coefficients_below (form_line b).coef n) (number_of (factor_for n row)) h.coefficients)))

      pub all_fit : IfSide (LessFits c) l → IfSide (LessFits c) u → least_factor (numbers lo hi) < 2 ^ 127
          → AreSidesFit q lo hi → All (NumberFits q) (coefficients_in (form_terms b)) → RowFits n row (factor_for n row)
      all_fit first second small sides terms =
          let k = factor_for n row in
          let w = whole (pos k) in
          let both : AreSidesFit w (less_side c l) (less_side c u) =
          subst (λ r. AreSidesFit r (less_side c l) (less_side c u)) same_multiplier
          (subst (λ p. AreSidesFit q p (less_side c u)) e (subst (AreSidesFit q lo) f sides)) in
          let under : k < 2 ^ 127 = omega (arith, small, same_numbers) in
          record {
            factor = under;
            coefficients = all_map (coefficients_below (form_line b).coef n) (scaled_of k)
                (from_terms n (form_terms b) up below (NumberFits w) (zero_number w)
                (subst (λ r. All (NumberFits r) (coefficients_in (form_terms b))) same_multiplier terms));
            lower = side_fits k c l first both.lower;
            upper = side_fits k c u second both.upper;
            range = subst (λ p. IfBoth RangeFits p (scaled_side w c u)) (times_less w c l) (subst (IfBoth RangeFits (times_side w (less_side c l))) (times_less w c u) both.range);
          }

-- A row times its least factor.

pub multiplier_some : (q : ℚ) (xs : List ℚ) → q ≡ whole (pos (least_factor xs)) → q ≢ zero_ℚ
multiplier_some q xs e z =
    let none : pos (least_factor xs) ≡ pos 0 = same_whole (pos (least_factor xs)) (pos 0) (sym e ∙ z) in
    let some = factor_above xs in
    omega (arith, ints, none, some)

pub fraction_small : (x : Frac) (k : ℕ) → frac_value x ≡ whole (pos k) → k < 2 ^ 127
unfolding whole
fraction_small x k e = let top : unsigned_abs x.num ≡ k = ap (λ y. unsigned_abs y.top) e in subst (λ m. m < 2 ^ 127) top x.spelled.size

abbrev either_there : Option ℚ → Option ℚ → Bool
either_there l u = is_some l || is_some u

sided_times : (q c : ℚ) (l u : Option ℚ) → either_there (times_side q (less_side c l)) (times_side q (less_side c u)) ≡ either_there l u
sided_times q c None None = refl
sided_times q c None (Some u) = refl
sided_times q c (Some l) u = refl

pub is_scaled : (q c : ℚ) (l u lo hi : Option ℚ) (b : Form) (us : List TermOf) (d : Interval) (m : Option Dec)
    → lo ≡ less_side c l → hi ≡ less_side c u → q ≢ zero_ℚ → AreAscending 0 (form_terms b) → IsTrue (either_there l u) →
    AreTermsTimes q (form_terms b) us → side_value d.lo ≡ times_side q lo → side_value d.hi ≡ times_side q hi
    → side_value m ≡ range_of (side_value d.lo) (side_value d.hi)
    → IsScaledRow (record { terms = us; side = d; range = m })
is_scaled q c l u lo hi b us d m e f some up sided times first second range =
    record {
      sparse = times_sparse q some 0 (form_terms b) us times up;
      sided = ap₂ either_there (first ∙ ap (times_side q) e) (second ∙ ap (times_side q) f) ∙ sided_times q c l u ∙ sided;
      range = range;
    }

module _ (n i : ℕ) (b : Form) (s : Interval) (up : AreAscending 0 (form_terms b)) (below : AreBelow n (form_terms b)) (lo hi : Option ℚ)
    (e : lo ≡ less_side (form_line b).constant (side_value s.lo)) (f : hi ≡ less_side (form_line b).constant (side_value s.hi))
    (q : ℚ) (g : q ≡ whole (pos (least_factor (coefficients_in (form_terms b) ++ listed lo ++ listed hi)))) where
  same_row : (v : RowValue) → AreTermsTimes q (form_terms b) v.terms → side_value v.side.lo ≡ times_side q lo
      → side_value v.side.hi ≡ times_side q hi → scaled_row_of i v
      ≡ scaled_row (factor_for n (row_for i b s)) (row_for i b s)
  same_row v times first second =
      let c = (form_line b).constant in
      let k = factor_for n (row_for i b s) in
      let w = whole (pos k) in
      let same = same_multiplier n i b s up below lo hi e f q g in
      let coefficient : (j : ℕ) → coefficient_of v.terms j ≡ w *ℚ (form_line b).coef j =
      λ j. times_coefficient q 0 (form_terms b) v.terms times up j ∙ ap (λ x. x *ℚ (form_line b).coef j) same in
      let lower : side_value v.side.lo ≡ scaled_side w c (side_value s.lo) = first ∙ ap₂ times_side same e ∙ times_less w c (side_value s.lo) in
      let upper : side_value v.side.hi ≡ scaled_side w c (side_value s.hi) = second ∙ ap₂ times_side same f ∙ times_less w c (side_value s.hi) in
      λ t. record { name = row_name i; coefficient = λ j. coefficient j t; side = record { lower = lower t; upper = upper t } }

  pub factored : (z : ℤ) (x : Frac) (v : RowValue) → frac_value x ≡ q → z ≡ pos (least_factor (coefficients_in (form_terms b) ++ listed lo ++ listed hi)) →
      IfSide (LessFits (form_line b).constant) (side_value s.lo) → IfSide (LessFits (form_line b).constant) (side_value s.hi) → AreSidesFit q lo hi → IsScaledRow v →
      AreTermsTimes q (form_terms b) v.terms → side_value v.side.lo ≡ times_side q lo → side_value v.side.hi ≡ times_side q hi →
      IsFactored n i (row_for i b s) (record { factor = z; row = v })
  factored z x v is factor less_lo less_hi sides scaled times first second =
      let xs = coefficients_in (form_terms b) ++ listed lo ++ listed hi in
      record {
        fits = all_fit n i b s up below lo hi e f q g less_lo less_hi (fraction_small x (least_factor xs) (is ∙ g)) sides (times_fit q (form_terms b) v.terms times);
        factor = factor ∙ ap pos (sym (same_numbers n i b s up below lo hi e f));
        scaled = same_row v times first second;
        over = record { row = scaled; below = times_below q n (form_terms b) v.terms times below };
      }

pub fault_map : {P Q : Type 0} (stop : Stop Wide) → (P → Q) → IfFault stop (λ w. P) → IfFault stop (λ w. Q)
fault_map (Fault w) f h = f h
fault_map Memory f h = tt
