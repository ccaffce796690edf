-- The dual of a row, from the answer's value and the factor.
use Rattle.std.proofs.Common.{◌≡◌, inl, inr, ◌∙◌, ℕ, zero, suc, below_more, ◌+◌, ◌<◌, ℤ, pos, ◌*ℤ◌, Bool, true, false}
use Rattle.std.proofs.Common.{◌&&◌, List, [], ◌∷◌, ◌++◌, length, get_or, IsTrue, Option, Some, None, refl, sym, ap}
use Rattle.std.proofs.Common.{subst, arith}
use Rattle.std.specs.Prelude.{slice_get}
use Rattle.std.proofs.lemmas.Bool.{both_ways}
use Rattle.std.proofs.lemmas.List.{length-append}
use Rattle.exact_numbers.specs.Rational.{whole, zero_ℚ, ◌*ℚ◌}
use Rattle.exact_numbers.proofs.RationalLaws.{whole-*ℚ}
use Rattle.exact_numbers.specs.declared.dec.Dec.{Dec}
use Rattle.exact_numbers.specs.Values.{dec_value, IsInReach}
use Rattle.linear_program.specs.Linear.{Linear, row_at}
use Rattle.nl_model.specs.File.{File}
use Rattle.nl_model.specs.Expressions.{maximises}
use Rattle.nl_model.specs.LinearFile.{linear_of}
use Rattle.scaled_program.specs.Fits.{factor_of_row}
use Rattle.scaled_program.specs.Program.{is_exported}
use Rattle.row_scaling.specs.Exported.{scaled_as}
use Rattle.row_scaling.specs.Scaled.{ScaledValue}
use Rattle.row_scaling.specs.Scaling.{IsScaledOf, factor_at}
use Rattle.answer_file.specs.Grammar.{AnswerValue}
use Rattle.dual_return.specs.Return.{sign_by, sign_of, multiplier_of, linear_for, IsDualAt, Reaches, IsTooWideAt, AreDuals, DualBy}

-- ---- the sense

stable : (b c : Bool) → ((b ≡ c → ⊥) → ⊥) → b ≡ c
stable true true h = refl
stable false false h = refl
stable true false h = absurd (h (λ e. absurd cc))
stable false true h = absurd (h (λ e. absurd cc))

-- the sign by the scaled program is that of the file
same-sign : (f : File) (a : AnswerValue) (s : ScaledValue) → IsScaledOf (linear_for f a) s → sign_by (a.min_sign && s.maximise) ≡ sign_of f a
unfolding linear_of scaled_as
same-sign f a s h = ap (λ b. sign_by (a.min_sign && b)) (stable s.maximise (maximises f a.objective)
    (λ ne. ne (ap (λ p. p.maximise) (h.program.tied (λ decimal. ne (ap (λ p. p.maximise) (h.program.plain decimal)))))))

-- ---- factors

exported-by : (f : Linear) (s : ScaledValue) (i : ℕ) (g : ℤ) (b : Bool) → is_exported (row_at f i) ≡ b → IsScaledOf f s
    → factor_at s i ≡ Some g → IsTrue (is_exported (row_at f i)) × (g ≡ pos (factor_of_row f i))
exported-by f s i g true e h is = (e, let same = sym is ∙ h.factors.exported i e in cc)
exported-by f s i g false e h is = absurd (let none = h.factors.others i (both_ways _ e) in cc)

-- ---- one dual

by-value : (value : Option Dec) (factor : Option ℤ) (sign : ℤ) (d w : Dec) (g : ℤ) → DualBy value factor sign (Some d)
    → value ≡ Some w → factor ≡ Some g → IsInReach w (sign *ℤ g) × (dec_value d ≡ dec_value w *ℚ whole (sign *ℤ g))
by-value value factor sign d w g h e is = rw (e, is) at h

by-other : (value : Option Dec) (factor : Option ℤ) (sign : ℤ) (d : Dec) → DualBy value factor sign (Some d) → factor ≡ None → dec_value d ≡ zero_ℚ
by-other value factor sign d h is = rw is at h

by-missing : (value : Option Dec) (factor : Option ℤ) (sign : ℤ) (d : Dec) → DualBy value factor sign (Some d) → value ≡ None → dec_value d ≡ zero_ℚ
by-missing None None sign d h e = h
by-missing None (Some g) sign d h e = h
by-missing (Some w) factor sign d h e = absurd cc

-- why there is none
record IsNone (value : Option Dec) (factor : Option ℤ) (sign : ℤ) : Type 0 where
  w : Dec
  g : ℤ
  given : value ≡ Some w
  has : factor ≡ Some g
  wide : IsInReach w (sign *ℤ g) → ⊥

by-none : (value : Option Dec) (factor : Option ℤ) (sign : ℤ) → DualBy value factor sign None → IsNone value factor sign
by-none value None sign h = absurd h
by-none None (Some g) sign h = absurd h
by-none (Some w) (Some g) sign h = record { w = w; g = g; given = refl; has = refl; wide = h }

pub dual-at : (f : File) (a : AnswerValue) (s : ScaledValue) (i : ℕ) (value : Option Dec) (factor : Option ℤ) (d : Dec)
    → IsScaledOf (linear_for f a) s → value ≡ get_or a.rows i None → factor ≡ factor_at s i
    → DualBy value factor (sign_by (a.min_sign && s.maximise)) (Some d) → IsDualAt f a i d
dual-at f a s i value factor d h v g by =
    let l = linear_for f a in
    let sign = same-sign f a s h in
    let signed : DualBy value factor (sign_of f a) (Some d) = subst (λ (z : ℤ). DualBy value factor z (Some d)) sign by in
    let found : (e : IsTrue (is_exported (row_at l i))) (w : Dec) → get_or a.rows i None ≡ Some w → IsInReach w (multiplier_of f a i) × (dec_value d ≡ dec_value w *ℚ whole (multiplier_of f a i))
    = λ e w is. by-value value factor (sign_of f a) d w (pos (factor_of_row l i)) signed (v ∙ is) (g ∙ h.factors.exported i e) in
    record {
      reach = λ e w is. (found e w is).0;
      exported = λ e w is. (found e w is).1 ∙ ap (λ q. dec_value w *ℚ q) (sym (whole-*ℚ (sign_of f a) (pos (factor_of_row l i))));
      other = λ o. elim o [
        | inl ne ↦ by-other value factor (sign_of f a) d signed (g ∙ h.factors.others i ne)
        | inr none ↦ by-missing value factor (sign_of f a) d signed (v ∙ none)
      ];
    }

-- ---- all duals

-- the duals of the first n rows
pub record AreFirst (a : AnswerValue) (s : ScaledValue) (duals : List Dec) (n : ℕ) : Type 0 where
  pub count : length duals ≡ n
  pub each : (f : File) → IsScaledOf (linear_for f a) s → (i : ℕ) (d : Dec) → slice_get duals i ≡ Some d → IsDualAt f a i d
  pub reach : (f : File) → IsScaledOf (linear_for f a) s → (k : ℕ) → k < n → Reaches f a k

pub each-push : {A : Type 0} (P : ℕ → A → Type 0) (xs : List A) (y : A)
    → ((i : ℕ) (x : A) → slice_get xs i ≡ Some x → P i x) → P (length xs) y → (i : ℕ) (x : A)
    → slice_get (xs ++ y ∷ []) i ≡ Some x → P i x
each-push P [] y all last zero x e = let same : y ≡ x = cc in subst (P 0) same last
each-push P [] y all last (suc i) x e = absurd (cc)
each-push P (z ∷ xs) y all last zero x e = all 0 x e
each-push P (z ∷ xs) y all last (suc i) x e = each-push (λ k. P (suc k)) xs y (λ k. all (suc k)) last i x e

pub first-more : (a : AnswerValue) (s : ScaledValue) (duals next : List Dec) (n : ℕ) (value : Option Dec)
    (factor : Option ℤ) (d : Dec) → AreFirst a s duals n → value ≡ get_or a.rows n None → factor ≡ factor_at s n
    → DualBy value factor (sign_by (a.min_sign && s.maximise)) (Some d) → next ≡ duals ++ d ∷ [] → AreFirst a s next (n + 1)
first-more a s duals next n value factor d h v g by pushed =
    subst (λ (ds : List Dec). AreFirst a s ds (n + 1)) (sym pushed)
    (record {
      count = omega (arith, h.count, length-append duals (d ∷ []));
      each = λ f scaled. each-push (IsDualAt f a) duals d (h.each f scaled) (subst (λ (k : ℕ). IsDualAt f a k d) (sym h.count) (dual-at f a s n value factor d scaled v g by));
      reach = λ f scaled. below_more (Reaches f a) n (h.reach f scaled) (dual-at f a s n value factor d scaled v g by).reach;
    })

pub all-duals : (a : AnswerValue) (s : ScaledValue) (duals : List Dec) (n : ℕ) → AreFirst a s duals n → (f : File) → n ≡ f.counts.n_con → IsScaledOf (linear_for f a) s → AreDuals f a duals
all-duals a s duals n h f same scaled = record { count = h.count ∙ same; each = h.each f scaled }

pub first-wide : (a : AnswerValue) (s : ScaledValue) (duals : List Dec) (n : ℕ) (value : Option Dec) (factor : Option ℤ) → AreFirst a s duals n → value ≡ get_or a.rows n None → factor ≡ factor_at s n
    → DualBy value factor (sign_by (a.min_sign && s.maximise)) None → (f : File) → IsScaledOf (linear_for f a) s → n < f.counts.n_con → IsTooWideAt f a n
first-wide a s duals n value factor h v g by f scaled within =
    let none = by-none value factor (sign_of f a) (subst (λ (z : ℤ). DualBy value factor z None) (same-sign f a s scaled) by) in
    let known = exported-by (linear_for f a) s n none.g (is_exported (row_at (linear_for f a) n)) refl scaled (sym g ∙ none.has) in
    record {
      within = within;
      before = h.reach f scaled;
      exported = known.0;
      value = none.w;
      given_for = sym v ∙ none.given;
      wide = λ reach. none.wide (subst (λ (z : ℤ). IsInReach none.w (sign_of f a *ℤ z)) (sym known.1) reach);
    }
