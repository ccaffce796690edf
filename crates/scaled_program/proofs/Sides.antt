-- The difference of two sides.
use Rattle.std.proofs.Common.{◌≡◌, if◌then◌else◌, ◌∙◌, sym, ap, refl, Bool, true, false, Some, None, ◌⊎◌}
use Rattle.exact_numbers.specs.Rational.{ℚ, zero_ℚ, ◌+ℚ◌, ◌-ℚ◌, neg_ℚ, is_zero}
use Rattle.exact_numbers.proofs.RationalLaws.{+ℚ_comm, +ℚ_assoc, +ℚ_zero, +ℚ-neg, -ℚ_lem, is_zero-true}
use Rattle.scaled_program.specs.Program.{nonzero}

-- l + (u - l) = u
pub there_and_back : (l u : ℚ) → l +ℚ (u -ℚ l) ≡ u
there_and_back l u = ap (λ v. l +ℚ v) (-ℚ_lem u l) ∙ +ℚ_comm l (u +ℚ neg_ℚ l) ∙ +ℚ_assoc u (neg_ℚ l) l ∙ ap (λ v. u +ℚ v) (+ℚ_comm (neg_ℚ l) l ∙ +ℚ-neg l) ∙ +ℚ_zero u

pub difference_zero : (l u : ℚ) → u -ℚ l ≡ zero_ℚ → l ≡ u
difference_zero l u e = sym (+ℚ_zero l) ∙ ap (λ v. l +ℚ v) (sym e) ∙ there_and_back l u

-- the two cases of a number that is left out where it is 0
pub nonzero_cases : (x : ℚ) → ((nonzero x ≡ None) × (x ≡ zero_ℚ)) ⊎ (nonzero x ≡ Some x)
nonzero_cases x = by (is_zero x) refl
  where
    by : (b : Bool) → is_zero x ≡ b → (((if b then None else Some x) ≡ None) × (x ≡ zero_ℚ)) ⊎ ((if b then None else Some x) ≡ Some x)
    by true e = ◌⊎◌.inl (refl, is_zero-true x e)
    by false e = ◌⊎◌.inr refl
