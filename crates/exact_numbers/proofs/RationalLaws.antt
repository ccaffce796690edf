-- The laws of exact fractions.
use Prim.Native.Nat.{◌∣◌}
use Rattle.std.proofs.Common.{◌^◌, lit<, unsigned_abs, ◌≡◌, ◌≢◌, ℕ, zero, suc, ◌*◌, ◌<◌, ◌⊎◌, ◌↔◌, inl, inr, ⊎_elim}
use Rattle.std.proofs.Common.{◌∙◌, sym, ap, ap₂, arith, refl, subst, subst₂, one-mul, mul_comm, mul_assoc, ℤ, pos}
use Rattle.std.proofs.Common.{negsuc, ◌+ℤ◌, ◌*ℤ◌, neg_ℤ, ◌≤ℤ◌, ◌<ℤ◌, Bool, true, false, ◌==◌, min, Some, None}
use Rattle.std.proofs.lemmas.Int.{ints, by_lt_z}
use Rattle.std.specs.Int.Signed.{≤ℤ_refl}
use Rattle.std.proofs.lemmas.Nat.Gcd.{dvd_refl}
use Rattle.std.proofs.lemmas.Bool.{eqb-true}
use Rattle.std.specs.Int.{int_signum}
use Rattle.std.proofs.Math.Nat.{one-dvd, one-le-pow}
use lib.IntN.{+ℤ_assoc, +ℤ_comm, +ℤ_idr, +ℤ_invr, *ℤ_comm, zero-*ℤ, neg_ℤ-+ℤ, neg_ℤ-neg_ℤ}
use Rattle.exact_numbers.specs.Divisors.{AreCoprime}
use Rattle.exact_numbers.specs.Rational.{decimal_value, above_zero, below_zero, ℚ, over, whole, zero_ℚ, one_ℚ, ◌+ℚ◌, ◌*ℚ◌, ◌-ℚ◌, neg_ℚ, ◌≤ℚ◌, ◌<ℚ◌, is_zero, inverse_of, quotient_of, IsWhole}
use Rattle.exact_numbers.proofs.IntegerLaws.{*ℤ_assoc, *ℤ-+ℤ, neg-*ℤ, times_le_by}
use Rattle.exact_numbers.proofs.Values.{HasValue, own_value, same_value, same_over, scaled_value, equal_tops}
use Rattle.exact_numbers.proofs.Values.{over_value, whole_value, sum_value, product_value, neg_value, le_value}
use Rattle.exact_numbers.proofs.Values.{value_le, lt_value, value_lt, together, all_together}

-- ---- sums
pub +ℚ_comm : (x y : ℚ) → x +ℚ y ≡ y +ℚ x
+ℚ_comm x y = let w = together x y in same_over (sum_value w.first w.second) (sum_value w.second w.first) (+ℤ_comm w.p w.r)

pub +ℚ_assoc : (x y z : ℚ) → x +ℚ y +ℚ z ≡ x +ℚ (y +ℚ z)
+ℚ_assoc x y z =
    let w = all_together x y z in
    same_over (sum_value (sum_value w.first w.second) w.third) (sum_value w.first (sum_value w.second w.third)) (+ℤ_assoc w.p w.r w.t)

-- zero over any denominator
pub zero_value : (d : ℕ) → 0 < d → HasValue zero_ℚ (pos 0) d
zero_value d some = subst₂ (λ z n. HasValue zero_ℚ z n) (zero-*ℤ (pos d)) (one-mul d) (scaled_value d some (whole_value (pos 0)))

pub +ℚ_zero : (x : ℚ) → x +ℚ zero_ℚ ≡ x
+ℚ_zero x = same_over (sum_value (own_value x) (zero_value x.bottom x.above)) (own_value x) (+ℤ_idr x.top)

pub zero-+ℚ : (x : ℚ) → zero_ℚ +ℚ x ≡ x
zero-+ℚ x = +ℚ_comm zero_ℚ x ∙ +ℚ_zero x

pub +ℚ-neg : (x : ℚ) → x +ℚ neg_ℚ x ≡ zero_ℚ
+ℚ-neg x = same_over (sum_value (own_value x) (neg_value (own_value x))) (zero_value x.bottom x.above) (+ℤ_invr x.top)

pub neg-+ℚ : (x y : ℚ) → neg_ℚ (x +ℚ y) ≡ neg_ℚ x +ℚ neg_ℚ y
neg-+ℚ x y = let w = together x y in same_over (neg_value (sum_value w.first w.second)) (sum_value (neg_value w.first) (neg_value w.second)) (neg_ℤ-+ℤ w.p w.r)

pub neg-neg : (x : ℚ) → neg_ℚ (neg_ℚ x) ≡ x
neg-neg x = same_over (neg_value (neg_value (own_value x))) (own_value x) (neg_ℤ-neg_ℤ x.top)

pub -ℚ_lem : (x y : ℚ) → x -ℚ y ≡ x +ℚ neg_ℚ y
unfolding ◌-ℚ◌
-ℚ_lem x y = refl

-- ---- products
pub *ℚ_comm : (x y : ℚ) → x *ℚ y ≡ y *ℚ x
*ℚ_comm x y = let w = together x y in same_over (product_value w.first w.second) (product_value w.second w.first) (*ℤ_comm w.p w.r)

pub *ℚ_assoc : (x y z : ℚ) → x *ℚ y *ℚ z ≡ x *ℚ (y *ℚ z)
*ℚ_assoc x y z =
    let w = all_together x y z in
    same_value (product_value (product_value w.first w.second) w.third) (product_value w.first (product_value w.second w.third))
    (ap₂ (λ a n. a *ℤ pos n) (*ℤ_assoc w.p w.r w.t) (sym (mul_assoc w.d w.d w.d)))

pub *ℚ_one : (x : ℚ) → x *ℚ one_ℚ ≡ x
*ℚ_one x = same_value (product_value (own_value x) (whole_value (pos 1))) (own_value x) (*ℤ_assoc x.top (pos 1) (pos x.bottom) ∙ ap (λ n. x.top *ℤ pos n) (omega arith))

pub one-*ℚ : (x : ℚ) → one_ℚ *ℚ x ≡ x
one-*ℚ x = *ℚ_comm one_ℚ x ∙ *ℚ_one x

pub *ℚ_zero : (x : ℚ) → x *ℚ zero_ℚ ≡ zero_ℚ
*ℚ_zero x = same_over (product_value (own_value x) (whole_value (pos 0))) (zero_value (x.bottom * 1) (omega (arith, x.above))) (omega (arith, ints))

pub zero-*ℚ : (x : ℚ) → zero_ℚ *ℚ x ≡ zero_ℚ
zero-*ℚ x = *ℚ_comm zero_ℚ x ∙ *ℚ_zero x

pub +ℚ-*ℚ : (x y z : ℚ) → (x +ℚ y) *ℚ z ≡ x *ℚ z +ℚ y *ℚ z
+ℚ-*ℚ x y z =
    let w = all_together x y z in
    same_over (product_value (sum_value w.first w.second) w.third) (sum_value (product_value w.first w.third) (product_value w.second w.third)) (*ℤ-+ℤ w.p w.r w.t)

pub *ℚ-+ℚ : (x y z : ℚ) → x *ℚ (y +ℚ z) ≡ x *ℚ y +ℚ x *ℚ z
*ℚ-+ℚ x y z = *ℚ_comm x (y +ℚ z) ∙ +ℚ-*ℚ y z x ∙ ap₂ ◌+ℚ◌ (*ℚ_comm y x) (*ℚ_comm z x)

pub neg-*ℚ : (x y : ℚ) → neg_ℚ x *ℚ y ≡ neg_ℚ (x *ℚ y)
neg-*ℚ x y = let w = together x y in same_over (product_value (neg_value w.first) w.second) (neg_value (product_value w.first w.second)) (neg-*ℤ w.p w.r)

pub *ℚ-neg : (x y : ℚ) → x *ℚ neg_ℚ y ≡ neg_ℚ (x *ℚ y)
*ℚ-neg x y = *ℚ_comm x (neg_ℚ y) ∙ neg-*ℚ y x ∙ ap neg_ℚ (*ℚ_comm y x)

pub neg_zero : neg_ℚ zero_ℚ ≡ zero_ℚ
neg_zero = same_over (neg_value (whole_value (pos 0))) (whole_value (pos 0)) refl

-- ---- cancelling
pub +ℚ_cancel : (x y z : ℚ) → x +ℚ z ≡ y +ℚ z → x ≡ y
+ℚ_cancel x y z e = sym (back x) ∙ ap (λ v. v +ℚ neg_ℚ z) e ∙ back y
  where
    back : (v : ℚ) → v +ℚ z +ℚ neg_ℚ z ≡ v
    back v = +ℚ_assoc v z (neg_ℚ z) ∙ ap (λ u. v +ℚ u) (+ℚ-neg z) ∙ +ℚ_zero v

pub zero_top : (x : ℚ) → x.top ≡ pos 0 → x ≡ zero_ℚ
zero_top x e = same_over (own_value x) (zero_value x.bottom x.above) e

pub top_zero : (x : ℚ) → x ≡ zero_ℚ → x.top ≡ pos 0
unfolding whole
top_zero x e = ap (λ v. v.top) e

-- a natural number with the sign of another one
pub with_sign_above : (n b : ℕ) → int_signum (pos (suc n)) *ℤ pos b ≡ pos b
with_sign_above n b = ap (λ s. pos (s * b)) (least_one n) ∙ ap pos (one-mul b)
  where
    least_one : (n : ℕ) → min (suc n) 1 ≡ 1
    least_one n = omega arith

pub with_sign_below : (n b : ℕ) → int_signum (negsuc n) *ℤ pos b ≡ neg_ℤ (pos b)
with_sign_below n b = neg-*ℤ (pos 1) (pos b) ∙ ap (λ m. neg_ℤ (pos m)) (one-mul b)

turned_back : (x : ℚ) (t : ℤ) (b : ℕ) → HasValue x t b → t ≢ pos 0 → x *ℚ over (int_signum t *ℤ pos b) (unsigned_abs t) ≡ one_ℚ
turned_back x (pos zero) b h n = absurd (n refl)
turned_back x (pos (suc n)) b h some =
    subst (λ z. x *ℚ over z (suc n) ≡ one_ℚ) (sym (with_sign_above n b))
    (same_value (product_value h (over_value (pos b) (suc n) (omega arith))) (whole_value (pos 1)) (ap pos (omega arith)))
turned_back x (negsuc n) b h some =
    subst (λ z. x *ℚ over z (suc n) ≡ one_ℚ) (sym (with_sign_below n b))
    (same_value (product_value h (over_value (neg_ℤ (pos b)) (suc n) (omega arith))) (whole_value (pos 1))
    (ap (λ z. z *ℤ pos 1) (neg-*ℤ (pos (suc n)) (neg_ℤ (pos b))
    ∙ ap neg_ℤ (*ℤ_comm (pos (suc n)) (neg_ℤ (pos b)) ∙ neg-*ℤ (pos b) (pos (suc n)))
    ∙ neg_ℤ-neg_ℤ (pos (b * suc n))) ∙ ap pos (omega arith)))

pub *ℚ-inverse : (x : ℚ) → x ≢ zero_ℚ → x *ℚ inverse_of x ≡ one_ℚ
unfolding inverse_of
*ℚ-inverse x some = turned_back x x.top x.bottom (own_value x) (λ e. some (zero_top x e))

pub *ℚ_cancel : (x y z : ℚ) → z ≢ zero_ℚ → x *ℚ z ≡ y *ℚ z → x ≡ y
*ℚ_cancel x y z some e = sym (back x) ∙ ap (λ v. v *ℚ inverse_of z) e ∙ back y
  where
    back : (v : ℚ) → v *ℚ z *ℚ inverse_of z ≡ v
    back v = *ℚ_assoc v z (inverse_of z) ∙ ap (λ u. v *ℚ u) (*ℚ-inverse z some) ∙ *ℚ_one v

pub is_zero-true : (x : ℚ) → is_zero x ≡ true → x ≡ zero_ℚ
is_zero-true x e = zero_top x (size_zero x.top (eqb-true (unsigned_abs x.top) 0 e))
  where
    size_zero : (z : ℤ) → unsigned_abs z ≡ 0 → z ≡ pos 0
    size_zero (pos n) e = ap pos e
    size_zero (negsuc n) e = absurd (omega arith)

pub is_zero-false : (x : ℚ) → is_zero x ≡ false → x ≢ zero_ℚ
is_zero-false x e h = let f : true ≡ false = ap (λ z. unsigned_abs z == 0) (sym (top_zero x h)) ∙ e in cc

pub zero-is_zero : (x : ℚ) → x ≡ zero_ℚ → is_zero x ≡ true
zero-is_zero x e = ap (λ z. unsigned_abs z == 0) (top_zero x e)

pub not-is_zero : (x : ℚ) → x ≢ zero_ℚ → is_zero x ≡ false
not-is_zero x some = by (is_zero x) refl
  where
    by : (b : Bool) → is_zero x ≡ b → is_zero x ≡ false
    by false e = e
    by true e = absurd (some (is_zero-true x e))

pub quotient_some : (x y : ℚ) → y ≢ zero_ℚ → quotient_of x y ≡ Some (x *ℚ inverse_of y)
unfolding quotient_of
quotient_some x y some = rw (not-is_zero y some) refl

pub quotient_none : (x : ℚ) → quotient_of x zero_ℚ ≡ None
unfolding quotient_of whole
quotient_none x = refl

-- ---- order
pub ≤ℚ_refl : (x : ℚ) → x ≤ℚ x
≤ℚ_refl x = value_le (own_value x) (own_value x) (≤ℤ_refl x.top)

pub ≤ℚ_of_same : (x y : ℚ) → x ≡ y → x ≤ℚ y
≤ℚ_of_same x y e = subst (λ v. x ≤ℚ v) e (≤ℚ_refl x)

pub ≤ℚ_trans : (x y z : ℚ) → x ≤ℚ y → y ≤ℚ z → x ≤ℚ z
≤ℚ_trans x y z h k =
    let w = all_together x y z in
    let a : w.p ≤ℤ w.r = le_value w.first w.second h in
    let b : w.r ≤ℤ w.t = le_value w.second w.third k in
    value_le w.first w.third (omega (arith, ints))

pub ≤ℚ_antisymm : (x y : ℚ) → x ≤ℚ y → y ≤ℚ x → x ≡ y
≤ℚ_antisymm x y h k =
    let w = together x y in
    let a : w.p ≤ℤ w.r = le_value w.first w.second h in
    let b : w.r ≤ℤ w.p = le_value w.second w.first k in
    same_over w.first w.second (omega (arith, ints))

le_or_lt_ℤ : (a b : ℤ) → (a ≤ℤ b) ⊎ (b <ℤ a)
le_or_lt_ℤ a b = by_lt_z b a (λ h. inr h) (λ h. inl h)

pub le_or_lt : (x y : ℚ) → (x ≤ℚ y) ⊎ (y <ℚ x)
le_or_lt x y =
    let w = together x y in
    ⊎_elim (λ h. inl (value_le w.first w.second h)) (λ h. inr (value_lt w.second w.first h)) (le_or_lt_ℤ w.p w.r)

pub ≤ℚ_of_<ℚ : (x y : ℚ) → x <ℚ y → x ≤ℚ y
≤ℚ_of_<ℚ x y h =
    let w = together x y in
    let a : w.p <ℤ w.r = lt_value w.first w.second h in
    value_le w.first w.second (omega (arith, ints))

pub not_both : (x y : ℚ) → x ≤ℚ y → y <ℚ x → ⊥
not_both x y h k =
    let w = together x y in
    let a : w.p ≤ℤ w.r = le_value w.first w.second h in
    let b : w.r <ℤ w.p = lt_value w.second w.first k in
    omega (arith, ints)

pub ≤ℚ-<ℚ_trans : (x y z : ℚ) → x ≤ℚ y → y <ℚ z → x <ℚ z
≤ℚ-<ℚ_trans x y z h k = ⊎_elim (λ l. absurd (not_both z y (≤ℚ_trans z x y l h) k)) (λ l. l) (le_or_lt z x)

pub +ℚ-≤ℚ : (x y z : ℚ) → x ≤ℚ y → (x +ℚ z) ≤ℚ (y +ℚ z)
+ℚ-≤ℚ x y z h =
    let w = all_together x y z in
    let a : w.p ≤ℤ w.r = le_value w.first w.second h in
    value_le (sum_value w.first w.third) (sum_value w.second w.third) (omega (arith, ints))

pub +ℚ-≤ℚ_both : (x y u v : ℚ) → x ≤ℚ y → u ≤ℚ v → (x +ℚ u) ≤ℚ (y +ℚ v)
+ℚ-≤ℚ_both x y u v h k = ≤ℚ_trans (x +ℚ u) (y +ℚ u) (y +ℚ v) (+ℚ-≤ℚ x y u h) (subst₂ (λ a b. a ≤ℚ b) (+ℚ_comm u y) (+ℚ_comm v y) (+ℚ-≤ℚ u v y k))

pub *ℚ-≤ℚ : (x y z : ℚ) → zero_ℚ ≤ℚ z → x ≤ℚ y → (x *ℚ z) ≤ℚ (y *ℚ z)
*ℚ-≤ℚ x y z s h =
    let w = all_together x y z in
    let a : w.p ≤ℤ w.r = le_value w.first w.second h in
    let b : pos 0 ≤ℤ w.t = le_value (zero_value w.d w.first.above) w.third s in
    value_le (product_value w.first w.third) (product_value w.second w.third) (times_le_by w.p w.r w.t b a)

pub neg-≤ℚ : (x y : ℚ) → x ≤ℚ y → neg_ℚ y ≤ℚ neg_ℚ x
neg-≤ℚ x y h =
    let w = together x y in
    let a : w.p ≤ℤ w.r = le_value w.first w.second h in
    value_le (neg_value w.second) (neg_value w.first) (omega (arith, ints))

-- ---- pairs and whole numbers
pub value_is : {x : ℚ} {p : ℤ} {q : ℕ} → HasValue x p q → x ≡ over p q
value_is {p = p} {q = q} h = same_over h (over_value p q h.above) refl

-- the link to pairs: p / q and r / s are one number exactly where p * s = r * q
pub over_same : (p r : ℤ) (q s : ℕ) → 0 < q → 0 < s → (over p q ≡ over r s) ↔ (p *ℤ pos s ≡ r *ℤ pos q)
over_same p r q s a b = (
  (λ e. equal_tops (over_value p q a) (subst (λ v. HasValue v r s) (sym e) (over_value r s b))),
  (λ e. same_value (over_value p q a) (over_value r s b) e),
)

pub over_parts : (x : ℚ) → over x.top x.bottom ≡ x
over_parts x = sym (value_is (own_value x))

pub over_whole : (z : ℤ) → over z 1 ≡ whole z
unfolding whole
over_whole z = over_parts (whole z)

pub whole-+ℚ : (a b : ℤ) → whole a +ℚ whole b ≡ whole (a +ℤ b)
whole-+ℚ a b = same_over (sum_value (whole_value a) (whole_value b)) (whole_value (a +ℤ b)) refl

pub whole-*ℚ : (a b : ℤ) → whole a *ℚ whole b ≡ whole (a *ℤ b)
whole-*ℚ a b = same_over (product_value (whole_value a) (whole_value b)) (whole_value (a *ℤ b)) refl

pub whole-neg : (a : ℤ) → neg_ℚ (whole a) ≡ whole (neg_ℤ a)
whole-neg a = same_over (neg_value (whole_value a)) (whole_value (neg_ℤ a)) refl

pub same_whole : (a b : ℤ) → whole a ≡ whole b → a ≡ b
unfolding whole
same_whole a b e = ap (λ v. v.top) e

pub whole-≤ℚ : (a b : ℤ) → (whole a ≤ℚ whole b) ↔ (a ≤ℤ b)
whole-≤ℚ a b = ((λ h. le_value (whole_value a) (whole_value b) h), (λ h. value_le (whole_value a) (whole_value b) h))

pub IsWhole-whole : (a : ℤ) → IsWhole (whole a)
unfolding whole
IsWhole-whole a = refl

pub whole_of : (x : ℚ) → IsWhole x → (z : ℤ) × (x ≡ whole z)
whole_of x one = (x.top, same_over (own_value x) (subst (λ n. HasValue (whole x.top) x.top n) (sym one) (whole_value x.top)) refl)

-- a number is whole where the denominator divides the numerator
pub IsWhole-dvd : (x : ℚ) → IsWhole x ↔ (x.bottom ∣ unsigned_abs x.top)
IsWhole-dvd x = (
  (λ one. subst (λ k. k ∣ unsigned_abs x.top) (sym one) (one-dvd (unsigned_abs x.top))),
  (λ h. x.lowest x.bottom h (dvd_refl x.bottom)),
)

pub over-+ℚ : (p r : ℤ) (q s : ℕ) → 0 < q → 0 < s → over p q +ℚ over r s ≡ over (p *ℤ pos s +ℤ r *ℤ pos q) (q * s)
over-+ℚ p r q s a b =
    value_is
    (sum_value (scaled_value s b (over_value p q a))
    (subst (λ n. HasValue (over r s) (r *ℤ pos q) n) (mul_comm s q) (scaled_value q a (over_value r s b))))

pub over-*ℚ : (p r : ℤ) (q s : ℕ) → 0 < q → 0 < s → over p q *ℚ over r s ≡ over (p *ℤ r) (q * s)
over-*ℚ p r q s a b = value_is (product_value (over_value p q a) (over_value r s b))

pub over-neg : (p : ℤ) (q : ℕ) → 0 < q → neg_ℚ (over p q) ≡ over (neg_ℤ p) q
over-neg p q a = value_is (neg_value (over_value p q a))

pub over-≤ℚ : (p r : ℤ) (q s : ℕ) → 0 < q → 0 < s → (over p q ≤ℚ over r s) ↔ ((p *ℤ pos s) ≤ℤ (r *ℤ pos q))
over-≤ℚ p r q s a b =
    let first = scaled_value s b (over_value p q a) in
    let second = subst (λ n. HasValue (over r s) (r *ℤ pos q) n) (mul_comm s q) (scaled_value q a (over_value r s b)) in
    ((λ h. le_value first second h), (λ h. value_le first second h))

pub quotient_there : (x y : ℚ) → y ≢ zero_ℚ → (z : ℚ) × (quotient_of x y ≡ Some z) × (z *ℚ y ≡ x)
quotient_there x y some = (
  x *ℚ inverse_of y,
  quotient_some x y some,
  *ℚ_assoc x (inverse_of y) y ∙ ap (λ v. x *ℚ v) (*ℚ_comm (inverse_of y) y ∙ *ℚ-inverse y some) ∙ *ℚ_one x,
)

-- x ≤ y by a difference that is not below 0, and the other way
pub ≤ℚ_by : (x y d : ℚ) → zero_ℚ ≤ℚ d → y ≡ x +ℚ d → x ≤ℚ y
≤ℚ_by x y d h e = subst₂ (λ a b. a ≤ℚ b) (zero-+ℚ x) (+ℚ_comm d x ∙ sym e) (+ℚ-≤ℚ zero_ℚ d x h)

pub difference_above : (x y : ℚ) → x ≤ℚ y → zero_ℚ ≤ℚ (y -ℚ x)
difference_above x y h = subst₂ (λ a b. a ≤ℚ b) (+ℚ-neg x) (sym (-ℚ_lem y x)) (+ℚ-≤ℚ x y (neg_ℚ x) h)

pub product_above : (x y : ℚ) → zero_ℚ ≤ℚ x → zero_ℚ ≤ℚ y → zero_ℚ ≤ℚ (x *ℚ y)
product_above x y h k = subst (λ a. a ≤ℚ (x *ℚ y)) (zero-*ℚ y) (*ℚ-≤ℚ zero_ℚ x y k h)

-- a pair that is in lowest terms is kept as it is
pub over_lowest : (t : ℤ) (b : ℕ) → 0 < b → AreCoprime (unsigned_abs t) b → ((over t b).top ≡ t) × ((over t b).bottom ≡ b)
over_lowest t b some h =
    let x : ℚ = record { top = t; bottom = b; above = some; lowest = h } in
    let e : over t b ≡ x = over_parts x in
    (ap (λ y. y.top) e, ap (λ y. y.bottom) e)

pub decimal_value_lem : (m e : ℤ) → HasValue (decimal_value m e) (m *ℤ pos (10 ^ above_zero e)) (10 ^ below_zero e)
unfolding decimal_value
decimal_value_lem m e = over_value (m *ℤ pos (10 ^ above_zero e)) (10 ^ below_zero e) (one-le-pow (below_zero e) 10 (lit< tt))

pub neg_size : (z : ℤ) → unsigned_abs (neg_ℤ z) ≡ unsigned_abs z
neg_size z = omega (arith, ints)

pub neg_parts : (x : ℚ) → ((neg_ℚ x).top ≡ neg_ℤ x.top) × ((neg_ℚ x).bottom ≡ x.bottom)
unfolding neg_ℚ
neg_parts x = over_lowest (neg_ℤ x.top) x.bottom x.above (subst (λ n. AreCoprime n x.bottom) (sym (neg_size x.top)) x.lowest)
