-- A side that does not fit: where it is whole it is large, and then its sign decides.
use Rattle.std.proofs.Common.{◌≡◌, ℕ, zero, suc, ◌*◌, ◌<◌, ◌≤◌, ◌^◌, ◌⊎◌, inl, inr, ◌∙◌, sym, ap, subst, refl, arith}
use Rattle.std.proofs.Common.{⊎_elim, one-mul, mul-one, Bool, true, false, ℤ, pos, negsuc, ◌*ℤ◌, ◌≤ℤ◌, neg_ℤ}
use Rattle.std.proofs.Common.{unsigned_abs}
use Rattle.std.specs.Prelude.{if◌then◌else◌, Option, Some, None, IsTrue, ◌↔◌, ◌||◌, ◌&&◌, not}
use Rattle.std.proofs.lemmas.Int.{ints, unsigned_abs-mul}
use Rattle.std.proofs.lemmas.Bool.{cases_lt, false_from_ne_true, or_right, or_left}
use Rattle.exact_numbers.specs.Fits.{fits, is_small}
use Rattle.exact_numbers.specs.Rational.{ℚ, IsWhole, decimal_value, whole, zero_ℚ, neg_ℚ, ◌<ℚ◌}
use Rattle.exact_numbers.proofs.RationalLaws.{decimal_value_lem, not_both, whole-neg, whole-≤ℚ, whole_of, ≤ℚ_of_<ℚ}
use Rattle.exact_numbers.proofs.Values.{HasValue, le_value, neg_value, scaled_value, whole_value}
use Rattle.certificates.specs.Certificate.{can_compare, is_large, large}
use Rattle.certificates.specs.Checked.{is_at_most}
use Rattle.certificates.specs.Verdict.{is_not_above, is_not_below}
use Rattle.certificates.proofs.Checks.{at_most_of, at_most_yes}
use Rattle.certificates.proofs.Large.{large_above, large_below}
use Rattle.exact_numbers.specs.declared.dec.Dec.{Dec}
use Rattle.exact_numbers.specs.Values.{dec_value}
use Rattle.exact_numbers.proofs.Bridge.{decimal_is, small_of, whole_is}
use Rattle.exact_numbers.proofs.Decimals.{whole_above}
use Rattle.exact_numbers.proofs.Zeros.{fits_zero}
use Rattle.exact_checks.specs.Terms.{side_value}

-- ---- the sign of a large number
or_cases : (a b : Bool) → a || b ≡ true → (a ≡ true) ⊎ (b ≡ true)
or_cases true b h = inl refl
or_cases false b h = inr h

neither : (a b : Bool) → (a ≡ true → ⊥) → (b ≡ true → ⊥) → a || b ≡ false
neither true b h k = absurd (h refl)
neither false true h k = absurd (k refl)
neither false false h k = refl

at_most_false : (x y : ℚ) → y <ℚ x → is_at_most x y ≡ false
at_most_false x y h = false_from_ne_true (is_at_most x y) (λ e. not_both x y (at_most_yes x y e) h)

module _ (x s : ℚ) (negative : Bool) (fit : fits x ≡ true) (sign : IsTrue negative ↔ (s <ℚ zero_ℚ)) where
  above_all : is_at_most large s ≡ true → negative ≡ false
  above_all h = false_from_ne_true negative (λ n. not_both s zero_ℚ (≤ℚ_of_<ℚ s zero_ℚ (sign.0 n)) (large_above zero_ℚ s fits_zero h))

  below_all : is_at_most s (neg_ℚ large) ≡ true → negative ≡ true
  below_all h = sign.1 (large_below zero_ℚ s fits_zero h)

  pub large_least : is_large s ≡ true → negative ≡ is_at_most s x
  large_least h =
      ⊎_elim
      (λ a. above_all a ∙ sym (at_most_false s x (large_above x s fit a)))
      (λ b. below_all b ∙ sym (at_most_of s x (≤ℚ_of_<ℚ s x (large_below x s fit b))))
      (or_cases (is_at_most large s) (is_at_most s (neg_ℚ large)) h)

  pub large_most : is_large s ≡ true → not negative ≡ is_at_most x s
  large_most h =
      ⊎_elim
      (λ a. ap not (above_all a) ∙ sym (at_most_of x s (≤ℚ_of_<ℚ x s (large_above x s fit a))))
      (λ b. ap not (below_all b) ∙ sym (at_most_false x s (large_below x s fit b)))
      (or_cases (is_at_most large s) (is_at_most s (neg_ℚ large)) h)

-- ---- sides that do not fit and are large
module _ (d : Dec) (x : ℚ) (negative large_here : Bool) (side : Option Dec) (is : side ≡ Some d) (fit : fits x ≡ true)
    (sign : IsTrue negative ↔ (dec_value d <ℚ zero_ℚ)) (here : large_here ≡ true)
    (test : large_here ≡ is_large (dec_value d)) where
  can : can_compare (side_value side) ≡ true
  can = ap (λ o. can_compare (side_value o)) is ∙ or_right (fits (dec_value d)) (is_large (dec_value d)) (sym test ∙ here)

  pub least_decides : Some negative ≡ (if can_compare (side_value side) then Some (is_not_below (side_value side) x) else None)
  least_decides =
      ap Some (large_least x (dec_value d) negative fit sign (sym test ∙ here))
      ∙ ap (λ o. Some (is_not_below (side_value o) x)) (sym is)
      ∙ sym (ap (λ b. if b then Some (is_not_below (side_value side) x) else None) can)

  pub most_decides : Some (not negative) ≡ (if can_compare (side_value side) then Some (is_not_above (side_value side) x) else None)
  most_decides =
      ap Some (large_most x (dec_value d) negative fit sign (sym test ∙ here))
      ∙ ap (λ o. Some (is_not_above (side_value o) x)) (sym is)
      ∙ sym (ap (λ b. if b then Some (is_not_above (side_value side) x) else None) can)

-- ---- whole numbers that do not fit are large
whole_large : (z : ℤ) → fits (whole z) ≡ false → is_large (whole z) ≡ true
unfolding whole
whole_large z h = ⊎_elim (λ (l : unsigned_abs z < 2 ^ 127). absurd (small l)) (λ (l : 2 ^ 127 ≤ unsigned_abs z). by z l) (cases_lt (unsigned_abs z) (2 ^ 127))
  where
    small : unsigned_abs z < 2 ^ 127 → ⊥
    small l = (let a : is_small (unsigned_abs z) ≡ true = small_of (unsigned_abs z) l in
        let b : is_small 1 ≡ true = small_of 1 (omega arith) in
        let both : is_small (unsigned_abs z) && is_small 1 ≡ true = ap (λ t. t && is_small 1) a ∙ b in
        let e : is_small (unsigned_abs z) && is_small 1 ≡ false = h in cc)

    by : (y : ℤ) → 2 ^ 127 ≤ unsigned_abs y → is_large (whole y) ≡ true
    by (pos n) l =
        or_left (is_at_most large (whole (pos n))) (is_at_most (whole (pos n)) (neg_ℚ large))
        (at_most_of large (whole (pos n)) ((whole-≤ℚ (pos (2 ^ 127)) (pos n)).1 (omega (arith, ints, l))))
    by (negsuc n) l =
        or_right (is_at_most large (whole (negsuc n))) (is_at_most (whole (negsuc n)) (neg_ℚ large))
        (ap (is_at_most (whole (negsuc n))) (whole-neg (pos (2 ^ 127)))
        ∙ at_most_of (whole (negsuc n)) (whole (neg_ℤ (pos (2 ^ 127)))) ((whole-≤ℚ (negsuc n) (neg_ℤ (pos (2 ^ 127)))).1 (omega (arith, ints, l))))

-- ---- and parts of a whole number within 128 bits are not
grow : (r t : ℕ) → 0 < t → r ≤ r * t
grow r zero h = absurd (omega arith)
grow r (suc t) h = omega arith

over_part : (n q : ℕ) → 0 < q → HasValue (whole (pos n)) (pos (n * q)) q
over_part n q h = subst (λ k. HasValue (whole (pos n)) (pos (n * q)) k) (one-mul q) (scaled_value q h (whole_value (pos n)))

too_far : (m : ℤ) (n k : ℕ) → unsigned_abs m < n → n ≤ k → pos k ≤ℤ m → ⊥
too_far (pos a) n k h l e = omega (arith, ints, h, l, e)
too_far (negsuc a) n k h l e = omega (arith, ints, h, l, e)

too_low : (m : ℤ) (n k : ℕ) → unsigned_abs m < n → n ≤ k → m ≤ℤ neg_ℤ (pos k) → ⊥
too_low (pos a) n k h l e = omega (arith, ints, h, l, e)
too_low (negsuc a) n k h l e = omega (arith, ints, h, l, e)

part_not_large : (s : ℚ) (m : ℤ) (q : ℕ) → HasValue s m q → unsigned_abs m < 2 ^ 127 → is_large s ≡ false
part_not_large s m q h small =
    let far = grow (2 ^ 127) q h.above in
    neither (is_at_most large s) (is_at_most s (neg_ℚ large))
    (λ a. too_far m (2 ^ 127) (2 ^ 127 * q) small far (le_value (over_part (2 ^ 127) q h.above) h (at_most_yes large s a)))
    (λ b. too_low m (2 ^ 127) (2 ^ 127 * q) small far (le_value h (neg_value (over_part (2 ^ 127) q h.above)) (at_most_yes s (neg_ℚ large) b)))

pub large_is : (d : Dec) (b : Bool) → fits (dec_value d) ≡ false → IsTrue b ↔ IsWhole (dec_value d) → b ≡ is_large (dec_value d)
large_is d true wide w = let z = whole_of (dec_value d) (w.0 refl) in sym (ap is_large z.1 ∙ whole_large z.0 (ap fits (sym z.1) ∙ wide))
large_is d false wide w = by d.e refl
  where
    by : (e : ℤ) → d.e ≡ e → false ≡ is_large (dec_value d)
    by (pos k) is = absurd (let e : false ≡ true = w.1 ((whole_is _ _ (decimal_is d.m d.e)).1 (whole_above d.m d.e (subst (λ x. pos 0 ≤ℤ x) (sym is) (omega (arith, ints))))) in cc)
    by (negsuc k) is =
        let value : HasValue (dec_value d) (d.m *ℤ pos (10 ^ 0)) (10 ^ suc k) =
        subst (λ x. HasValue (decimal_value d.m x) (d.m *ℤ pos (10 ^ 0)) (10 ^ suc k)) (sym is)
        (decimal_value_lem d.m (negsuc k)) in
        let size : unsigned_abs (d.m *ℤ pos (10 ^ 0)) ≡ unsigned_abs d.m = unsigned_abs-mul d.m (pos 1) ∙ mul-one (unsigned_abs d.m) in
        sym (part_not_large (dec_value d) (d.m *ℤ pos (10 ^ 0)) (10 ^ suc k) value (subst (λ n. n < 2 ^ 127) (sym size) d.spelled.mantissa))
