-- Zero and negative numbers, by their parts.
use Rattle.std.proofs.Common.{◌≡◌, ℕ, ◌^◌, ◌↔◌, ◌∙◌, sym, ap, subst, Bool, true, false, ℤ, pos, neg_ℤ, ◌*ℤ◌, ◌<ℤ◌}
use Rattle.std.proofs.Math.IntN.{zero-*ℤ, *ℤ-one}
use borrow.Author.Differences.{up, down}
use Rattle.exact_numbers.specs.Rational.{ℚ, whole, zero_ℚ, ◌<ℚ◌, decimal_value}
use Rattle.exact_numbers.proofs.IntegerLaws.{times_lt, times_lt_cancel, times_cancel}
use Rattle.exact_numbers.proofs.Values.{HasValue, own_value, whole_value, same_value, equal_tops, lt_value, value_lt}
use Rattle.exact_numbers.proofs.RationalLaws.{zero_value}
use Rattle.exact_numbers.specs.Decimal.{signed}
use Rattle.exact_numbers.specs.Values.{frac_value}
use Rattle.exact_numbers.specs.declared.frac.Frac.{Frac}
use Rattle.exact_numbers.proofs.Tens.{ten-pos}
use Rattle.exact_numbers.proofs.Bridge.{decimal_is, zero_decimal}

pub signed_zero : (s : Bool) (n : ℕ) (e : ℤ) → n ≡ 0 → decimal_value (signed s n) e ≡ zero_ℚ
signed_zero true n e h = ap (λ k. decimal_value (neg_ℤ (pos k)) e) h ∙ zero_decimal e
signed_zero false n e h = ap (λ k. decimal_value (pos k) e) h ∙ zero_decimal e

-- a value is below 0 where its numerator is
below_link : (x : ℚ) (p : ℤ) (q : ℕ) → HasValue x p q → (p <ℤ pos 0) ↔ (x <ℚ zero_ℚ)
below_link x p q h = ((λ l. value_lt h (zero_value q h.above) l), (λ l. lt_value h (zero_value q h.above) l))

pub frac_below : (f : Frac) → (f.num <ℤ pos 0) ↔ (frac_value f <ℚ zero_ℚ)
frac_below f = below_link (frac_value f) f.num f.den (own_value (frac_value f))

pub dec_below : (m e : ℤ) → (m <ℤ pos 0) ↔ (decimal_value m e <ℚ zero_ℚ)
dec_below m e = (
  (λ l. link.0 (subst (λ z. (m *ℤ pos (10 ^ up e)) <ℤ z) (zero-*ℤ (pos (10 ^ up e))) (times_lt m (pos 0) (10 ^ up e) (ten-pos (up e)) l))),
  (λ l. times_lt_cancel m (pos 0) (10 ^ up e) (subst (λ z. (m *ℤ pos (10 ^ up e)) <ℤ z) (sym (zero-*ℤ (pos (10 ^ up e)))) (link.1 l))),
)
  where
    link : ((m *ℤ pos (10 ^ up e)) <ℤ pos 0) ↔ (decimal_value m e <ℚ zero_ℚ)
    link = below_link (decimal_value m e) (m *ℤ pos (10 ^ up e)) (10 ^ down e) (decimal_is m e)

pub dec_zero : (m e : ℤ) → (m ≡ pos 0) ↔ (decimal_value m e ≡ zero_ℚ)
unfolding lib.IntN.one
dec_zero m e = ((λ z. ap (λ n. decimal_value n e) z ∙ zero_decimal e), out)
  where
    out : decimal_value m e ≡ zero_ℚ → m ≡ pos 0
    out z =
        let a = m *ℤ pos (10 ^ up e) in
        let tops : a *ℤ pos 1 ≡ pos 0 *ℤ pos (10 ^ down e) = equal_tops (subst (λ x. HasValue x a (10 ^ down e)) z (decimal_is m e)) (whole_value (pos 0)) in
        times_cancel m (pos 0) (10 ^ up e) (ten-pos (up e)) (sym (*ℤ-one a) ∙ tops ∙ zero-*ℤ (pos (10 ^ down e)) ∙ sym (zero-*ℤ (pos (10 ^ up e))))

pub decimal_whole : (n : ℤ) → decimal_value n (pos 0) ≡ whole n
unfolding lib.IntN.one
decimal_whole n = same_value (decimal_is n (pos 0)) (whole_value n) (*ℤ-one (n *ℤ pos (10 ^ up (pos 0))))

-- a fraction of denominator 1
pub frac_whole : (f : Frac) → f.den ≡ 1 → decimal_value f.num (pos 0) ≡ frac_value f
unfolding lib.IntN.one
frac_whole f one =
    let n = f.num *ℤ pos (10 ^ up (pos 0)) in
    same_value (decimal_is f.num (pos 0)) (own_value (frac_value f)) (ap (λ d. n *ℤ pos d) one ∙ *ℤ-one n)
