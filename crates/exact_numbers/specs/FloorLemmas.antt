-- There is a whole number z with z ≤ x < z + 1.
use Rattle.std.proofs.Common.{◌≡◌, ℕ, zero, suc, ◌+◌, ◌*◌, ◌/◌, ◌<◌, sym, refl, subst, arith, ℤ, pos, negsuc, ◌+ℤ◌, ◌*ℤ◌, ◌≤ℤ◌, ◌<ℤ◌, neg_ℤ}
use Rattle.std.specs.Int.{int_div_euclid}
use Rattle.std.proofs.lemmas.Int.{ints}
use Rattle.std.proofs.lemmas.Nat.{div-add-mod'}
use Rattle.std.proofs.Math.Nat.{mod-lt}
use Rattle.exact_numbers.specs.LowestLemmas.{negative_times}
use Rattle.exact_numbers.specs.Rational.{ℚ, whole, ◌≤ℚ◌, ◌<ℚ◌}

floor_below_ℤ : (z : ℤ) (b : ℕ) → 0 < b → (int_div_euclid z (pos b) *ℤ pos b) ≤ℤ z
floor_below_ℤ (pos a) b some = let split = div-add-mod' a b in let h : pos (a / b * b) ≤ℤ pos a = omega (arith, ints) in h
floor_below_ℤ (negsuc a) b some =
    let split = div-add-mod' a b in let small = mod-lt a some in
    let q = a / b in
    omega (arith, ints)

floor_near_ℤ : (z : ℤ) (b : ℕ) → 0 < b → z <ℤ ((int_div_euclid z (pos b) +ℤ pos 1) *ℤ pos b)
floor_near_ℤ (pos a) b some = let split = div-add-mod' a b in let small = mod-lt a some in let h : pos a <ℤ pos ((a / b + 1) * b) = omega (arith, ints) in h
floor_near_ℤ (negsuc a) b some =
    let q = a / b in
    let split = div-add-mod' a b in
    let below : negsuc a <ℤ neg_ℤ (pos (q * b)) = omega (arith, ints, split) in
    subst (λ z. negsuc a <ℤ (z *ℤ pos b)) (sym (one_more q)) (subst (λ z. negsuc a <ℤ z) (sym (negative_times q b)) below)
  where
    one_more : (q : ℕ) → negsuc q +ℤ pos 1 ≡ neg_ℤ (pos q)
    one_more zero = refl
    one_more (suc q) = omega (arith, ints)

times_one : (z : ℤ) → z *ℤ pos 1 ≡ z
times_one z = omega (arith, ints)

pub floor_below : (x : ℚ) → whole (int_div_euclid x.top (pos x.bottom)) ≤ℚ x
unfolding whole
floor_below x = record { crosswise = subst (λ z. (int_div_euclid x.top (pos x.bottom) *ℤ pos x.bottom) ≤ℤ z) (sym (times_one x.top)) (floor_below_ℤ x.top x.bottom x.above) }

pub floor_near : (x : ℚ) → x <ℚ whole (int_div_euclid x.top (pos x.bottom) +ℤ pos 1)
unfolding whole
floor_near x = record { crosswise = subst (λ z. z <ℤ ((int_div_euclid x.top (pos x.bottom) +ℤ pos 1) *ℤ pos x.bottom)) (sym (times_one x.top)) (floor_near_ℤ x.top x.bottom x.above) }

abbrev pub a_floor : (x : ℚ) → (z : ℤ) × (whole z ≤ℚ x) × (x <ℚ whole (z +ℤ pos 1))
a_floor x = (int_div_euclid x.top (pos x.bottom), floor_below x, floor_near x)
