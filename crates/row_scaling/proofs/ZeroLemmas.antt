use Rattle.std.proofs.Common.{◌≡◌, ◌^◌, ◌∙◌, sym, ap, arith, subst, ⊎_elim, ℤ, pos, ◌*ℤ◌, Some, None, mul-one}
use Rattle.std.proofs.lemmas.Int.{ints}
use Rattle.exact_numbers.specs.Rational.{zero_ℚ, decimal_value, above_zero, below_zero}
use Rattle.exact_numbers.proofs.IntegerLaws.{times_cancel, times_twice}
use Rattle.exact_numbers.proofs.Values.{HasValue, equal_tops, whole_value}
use Rattle.exact_numbers.proofs.RationalLaws.{decimal_value_lem}
use Rattle.scaled_program.specs.Program.{nonzero}
use Rattle.scaled_program.proofs.Sides.{nonzero_cases}
use Rattle.exact_numbers.specs.declared.dec.Dec.{Dec}
use Rattle.exact_numbers.specs.Values.{dec_value}
use Rattle.exact_numbers.proofs.Tens.{ten-pos}
use Rattle.exact_numbers.proofs.Bridge.{decimal_zero}
use Rattle.row_scaling.proofs.SharedLemmas.{zero_left_out, zero_decimal}

zero_times : (k : ℤ) → pos 0 *ℤ k ≡ pos 0
zero_times k = omega (arith, ints)

pub value_of_zero : (m e : ℤ) → m ≡ pos 0 → decimal_value m e ≡ zero_ℚ
value_of_zero m e h = sym (decimal_zero m e (pos 0) h) ∙ zero_decimal

pub zero_of_value : (m e : ℤ) → decimal_value m e ≡ zero_ℚ → m ≡ pos 0
zero_of_value m e h =
    let tops : m *ℤ pos (10 ^ above_zero e) *ℤ pos 1 ≡ pos 0 *ℤ pos (10 ^ below_zero e) =
    equal_tops (subst (λ z. HasValue z (m *ℤ pos (10 ^ above_zero e)) (10 ^ below_zero e)) h (decimal_value_lem m e)) (whole_value (pos 0)) in
    times_cancel m (pos 0) (10 ^ above_zero e) (ten-pos (above_zero e))
    (ap (λ k. m *ℤ pos k) (sym (mul-one (10 ^ above_zero e))) ∙ sym (times_twice m (10 ^ above_zero e) 1) ∙ tops
    ∙ zero_times (pos (10 ^ below_zero e)) ∙ sym (zero_times (pos (10 ^ above_zero e))))

-- the number itself, where it is not 0
pub none_at_zero : (d : Dec) → d.m ≡ pos 0 → None ≡ nonzero (dec_value d)
none_at_zero d h = sym (ap nonzero (value_of_zero d.m d.e h) ∙ zero_left_out)

pub some_at_other : (d : Dec) → (d.m ≡ pos 0 → ⊥) → Some (dec_value d) ≡ nonzero (dec_value d)
some_at_other d h =
    ⊎_elim (λ (z : (nonzero (dec_value d) ≡ None) × (dec_value d ≡ zero_ℚ)). absurd (h (zero_of_value d.m d.e z.1))) (λ s. sym s) (nonzero_cases (dec_value d))
