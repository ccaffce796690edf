-- Decimals of few digits and places have a fraction.
use Rattle.std.proofs.Common.{arith, ◌≡◌, ◌<◌, ◌≤◌, ◌*◌, ◌^◌, true, ℤ, pos, neg_ℤ, ◌≤ℤ◌, unsigned_abs, subst, sym}
use Rattle.std.proofs.lemmas.Int.{ints, unsigned_abs-mul}
use borrow.Author.Differences.{up, down}
use Rattle.exact_numbers.specs.Rational.{decimal_value}
use Rattle.exact_numbers.specs.Values.{fits}
use Rattle.exact_numbers.proofs.Pairs.{HasFrac, pair, scaled}
use Rattle.exact_numbers.proofs.Tens.{ten-pos}
use Rattle.exact_numbers.proofs.Decimals.{abs_is}
use Rattle.exact_numbers.proofs.Fractions.{in_range_fits, signed_self}
use Rattle.exact_numbers.proofs.OfDec.{grown_le}
use Rattle.exact_numbers.proofs.Bridge.{in_range, decimal_is}

pub few_fit : (m e : ℤ) → unsigned_abs m < 2 ^ 63 → neg_ℤ (pos 38) ≤ℤ e → e ≤ℤ pos 19 → fits (decimal_value m e) ≡ true
few_fit m e size low high =
    let y = scaled m e in
    let parts = abs_is e in
    let above : up e ≤ 19 = omega (arith, ints) in
    let below : down e ≤ 38 = omega (arith, ints) in
    let grown : unsigned_abs m * 10 ^ up e ≤ unsigned_abs m * 10 ^ 19 = grown_le (unsigned_abs m) 10 (up e) 19 (omega arith) above in
    let divided : 1 * 10 ^ down e ≤ 1 * 10 ^ 38 = grown_le 1 10 (down e) 38 (omega arith) below in
    let top : unsigned_abs y.top < 2 ^ 127 = subst (λ n. n < 2 ^ 127) (sym (unsigned_abs-mul m (pos (10 ^ up e)))) (omega (arith, grown, size)) in
    let bottom : y.bottom < 2 ^ 127 = omega (arith, divided) in
    in_range _ _ (decimal_is m e) (subst (λ z. HasFrac (pair z y.bottom)) (signed_self y.top) (in_range_fits _ _ _ (ten-pos (down e)) top bottom))
