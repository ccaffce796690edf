-- The numbers of an instance are not negative.
use Rattle.std.proofs.Common.{◌≡◌, ℕ, pos, inl, inr, ◌⊎◌, sym, subst, arith, Option, Some, None}
use Rattle.std.specs.Prelude.{MatchOption, true, false}
use Rattle.std.proofs.lemmas.Int.{ints}
use Rattle.exact_numbers.specs.Rational.{whole, ◌≤ℚ◌}
use Rattle.exact_numbers.proofs.RationalLaws.{whole-≤ℚ}
use Rattle.exact_numbers.specs.declared.dec.Dec.{Dec}
use Rattle.exact_numbers.specs.Numbers.{dec_from}
use Rattle.exact_numbers.specs.Values.{dec_value, fits_dec}
use Rattle.exact_numbers.proofs.Bridge.{zero_decimal}
use Rattle.exact_numbers.proofs.NumberLemmas.{dec_from-fits}
use Rattle.bridge_tool.specs.Instance.{or_zero, whole_dec}

-- the number itself, or 0
whole_value : (n : ℕ) → (dec_value (whole_dec n) ≡ whole (pos n)) ⊎ (dec_value (whole_dec n) ≡ whole (pos 0))
unfolding whole_dec
whole_value n = by (dec_from (whole (pos n))) (dec_from-fits (whole (pos n)))
  where
    by : (d : Option Dec) → MatchOption d (fits_dec (whole (pos n)) ≡ false) (λ d. (fits_dec (whole (pos n)) ≡ true) × (dec_value d ≡ whole (pos n)))
        → (dec_value (or_zero d) ≡ whole (pos n)) ⊎ (dec_value (or_zero d) ≡ whole (pos 0))
    by None h = inr (zero_decimal (pos 0))
    by (Some d) h = inl h.1

no_number : (n : ℕ) → whole (pos 0) ≤ℚ whole (pos n)
no_number n = (whole-≤ℚ (pos 0) (pos n)).1 (omega (arith, ints))

zero_is : dec_value (whole_dec 0) ≡ whole (pos 0)
zero_is = elim (whole_value 0) [
  | inl e ↦ e
  | inr e ↦ e
]

pub above_zero : (n : ℕ) → dec_value (whole_dec 0) ≤ℚ dec_value (whole_dec n)
above_zero n = subst (λ x. x ≤ℚ dec_value (whole_dec n)) (sym zero_is) (by (whole_value n))
  where
    by : (dec_value (whole_dec n) ≡ whole (pos n)) ⊎ (dec_value (whole_dec n) ≡ whole (pos 0)) → whole (pos 0) ≤ℚ dec_value (whole_dec n)
    by (inl e) = subst (λ x. whole (pos 0) ≤ℚ x) (sym e) (no_number n)
    by (inr e) = subst (λ x. whole (pos 0) ≤ℚ x) (sym e) (no_number 0)
