-- At least as good, for both senses, and the side that a number's sign needs.
use Rattle.std.proofs.Common.{◌≡◌, ℕ, ◌∙◌, ap, subst, subst₂, refl, arith, Bool, true, false, Option, Some, None, ℤ, pos, negsuc}
use Rattle.std.proofs.lemmas.Int.{ints}
use Rattle.exact_numbers.specs.Rational.{ℚ, zero_ℚ, ◌+ℚ◌, ◌*ℚ◌, neg_ℚ, ◌≤ℚ◌}
use Rattle.exact_numbers.proofs.RationalLaws.{*ℚ_comm, *ℚ-neg, neg-≤ℚ, neg-neg, neg_zero, ≤ℚ_refl, ≤ℚ_trans, +ℚ-≤ℚ, +ℚ-≤ℚ_both, *ℚ-≤ℚ, not_both, zero_value}
use Rattle.exact_numbers.proofs.Values.{value_le, own_value}
use Rattle.linear_program.specs.Linear.{Interval, IsInside}
use Rattle.linear_program.proofs.Sides.{AtLeast, AtMost}
use Rattle.certificates.specs.Points.{IsAsGood, IsBetter}
use Rattle.certificates.specs.Verdict.{needed_side}

pub good_refl : (max : Bool) (x : ℚ) → IsAsGood max x x
good_refl true x = ≤ℚ_refl x
good_refl false x = ≤ℚ_refl x

pub good_trans : (max : Bool) (x y z : ℚ) → IsAsGood max x y → IsAsGood max y z → IsAsGood max x z
good_trans true x y z h k = ≤ℚ_trans z y x k h
good_trans false x y z h k = ≤ℚ_trans x y z h k

pub good_sum : (max : Bool) (x y u v : ℚ) → IsAsGood max x y → IsAsGood max u v → IsAsGood max (x +ℚ u) (y +ℚ v)
good_sum true x y u v h k = +ℚ-≤ℚ_both y x v u h k
good_sum false x y u v h k = +ℚ-≤ℚ_both x y u v h k

pub good_not_better : (max : Bool) (x y : ℚ) → IsAsGood max x y → IsBetter max y x → ⊥
good_not_better true x y h k = not_both y x h k
good_not_better false x y h k = not_both x y h k

-- on the side that a number with the numerator t needs, s is the side and v the value inside
abbrev pub IsTurned : Bool → ℤ → ℚ → ℚ → Type 0
IsTurned false (pos n) s v = s ≤ℚ v
IsTurned false (negsuc n) s v = v ≤ℚ s
IsTurned true (pos n) s v = v ≤ℚ s
IsTurned true (negsuc n) s v = s ≤ℚ v

at_least : (o : Option ℚ) (s v : ℚ) → o ≡ Some s → AtLeast o v → s ≤ℚ v
at_least None s v h k = absurd (cc)
at_least (Some r) s v h k = let e : r ≡ s = cc in subst (λ z. z ≤ℚ v) e k

at_most : (o : Option ℚ) (s v : ℚ) → o ≡ Some s → AtMost o v → v ≤ℚ s
at_most None s v h k = absurd (cc)
at_most (Some r) s v h k = let e : r ≡ s = cc in subst (λ z. v ≤ℚ z) e k

pub needed_turned : (max : Bool) (t : ℤ) (i : Interval) (s v : ℚ) → needed_side max t i ≡ Some s → IsInside i v → IsTurned max t s v
needed_turned false (pos n) i s v h inside = at_least i.lower s v h inside.above
needed_turned false (negsuc n) i s v h inside = at_most i.upper s v h inside.below
needed_turned true (pos n) i s v h inside = at_most i.upper s v h inside.below
needed_turned true (negsuc n) i s v h inside = at_least i.lower s v h inside.above

pub turned_sum : (max : Bool) (t : ℤ) (s v k : ℚ) → IsTurned max t s v → IsTurned max t (s +ℚ k) (v +ℚ k)
turned_sum false (pos n) s v k h = +ℚ-≤ℚ s v k h
turned_sum false (negsuc n) s v k h = +ℚ-≤ℚ v s k h
turned_sum true (pos n) s v k h = +ℚ-≤ℚ v s k h
turned_sum true (negsuc n) s v k h = +ℚ-≤ℚ s v k h

not_negative : (y : ℚ) (n : ℕ) → y.top ≡ pos n → zero_ℚ ≤ℚ y
not_negative y n e = value_le (zero_value y.bottom y.above) (own_value y) (omega (arith, ints, e))

not_positive : (y : ℚ) (n : ℕ) → y.top ≡ negsuc n → zero_ℚ ≤ℚ neg_ℚ y
not_positive y n e = subst (λ z. z ≤ℚ neg_ℚ y) neg_zero (neg-≤ℚ y zero_ℚ (value_le (own_value y) (zero_value y.bottom y.above) (omega (arith, ints, e))))

times_up : (y s v : ℚ) → zero_ℚ ≤ℚ y → s ≤ℚ v → (y *ℚ s) ≤ℚ (y *ℚ v)
times_up y s v p h = subst₂ (λ a b. a ≤ℚ b) (*ℚ_comm s y) (*ℚ_comm v y) (*ℚ-≤ℚ s v y p h)

times_down : (y s v : ℚ) → zero_ℚ ≤ℚ neg_ℚ y → s ≤ℚ v → (y *ℚ v) ≤ℚ (y *ℚ s)
times_down y s v p h = subst₂ (λ a b. a ≤ℚ b) (back v) (back s) (neg-≤ℚ (s *ℚ neg_ℚ y) (v *ℚ neg_ℚ y) (*ℚ-≤ℚ s v (neg_ℚ y) p h))
  where
    back : (z : ℚ) → neg_ℚ (z *ℚ neg_ℚ y) ≡ y *ℚ z
    back z = ap neg_ℚ (*ℚ-neg z y) ∙ neg-neg (z *ℚ y) ∙ *ℚ_comm z y

pub turned_product : (max : Bool) (y s v : ℚ) → IsTurned max y.top s v → IsAsGood max (y *ℚ s) (y *ℚ v)
turned_product max y s v h = by max y.top refl h
  where
    by : (m : Bool) (t : ℤ) → y.top ≡ t → IsTurned m t s v → IsAsGood m (y *ℚ s) (y *ℚ v)
    by false (pos n) e h = times_up y s v (not_negative y n e) h
    by false (negsuc n) e h = times_down y v s (not_positive y n e) h
    by true (pos n) e h = times_up y v s (not_negative y n e) h
    by true (negsuc n) e h = times_down y s v (not_positive y n e) h
