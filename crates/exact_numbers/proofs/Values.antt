-- Numbers by pairs that have their value: x has the value p / q, in lowest terms or not.
use Rattle.std.proofs.Common.{◌≡◌, ℕ, zero, suc, ◌*◌, ◌<◌, ◌∙◌, sym, ap, ap₂, arith, refl, subst, subst₂, mul-pos, mul_comm, ℤ, pos, ◌+ℤ◌, ◌*ℤ◌, neg_ℤ, ◌≤ℤ◌, ◌<ℤ◌, unsigned_abs}
use Rattle.std.proofs.lemmas.Int.{unsigned_abs-mul}
use Rattle.std.proofs.Math.Bridge.{le_prop}
use native.Mathlib.Nat.{ℕ_set}
use Rattle.exact_numbers.specs.Divisors.{AreCoprime}
use Rattle.exact_numbers.specs.LowestLemmas.{same_reduced, lowest_terms}
use Rattle.exact_numbers.specs.Rational.{ℚ, over, whole, ◌+ℚ◌, ◌*ℚ◌, neg_ℚ, ◌≤ℚ◌, ◌<ℚ◌}
use Rattle.exact_numbers.proofs.IntegerLaws.{*ℤ-+ℤ, neg-*ℤ, times_twice, times_swap, times_cancel, times_le, times_le_cancel, times_lt, times_lt_cancel, times_four}

-- x = p / q
pub record HasValue (x : ℚ) (p : ℤ) (q : ℕ) : Type 0 where
  pub above : 0 < q
  pub equal : x.top *ℤ pos q ≡ p *ℤ pos x.bottom

pub own_value : (x : ℚ) → HasValue x x.top x.bottom
own_value x = record { above = x.above; equal = refl }

-- a number of this top and bottom
abbrev made : (t : ℤ) (b : ℕ) → 0 < b → AreCoprime (unsigned_abs t) b → ℚ
made t b p r = record { top = t; bottom = b; above = p; lowest = r }

coprime_prop : (a b : ℕ) → IsProp (AreCoprime a b)
coprime_prop a b = hlevel ℕ_set

made_same : (t u : ℤ) (b d : ℕ) → t ≡ u → b ≡ d → (p : 0 < b) (r : AreCoprime (unsigned_abs t) b) (q : 0 < d) (s : AreCoprime (unsigned_abs u) d) → made t b p r ≡ made u d q s
made_same t u b d e f =
    subst (λ v. (p : 0 < b) (r : AreCoprime (unsigned_abs t) b) (q : 0 < d) (s : AreCoprime (unsigned_abs v) d) → made t b p r ≡ made v d q s) e
    (subst (λ c. (p : 0 < b) (r : AreCoprime (unsigned_abs t) b) (q : 0 < c) (s : AreCoprime (unsigned_abs t) c) → made t b p r ≡ made t c q s) f
    (λ p r q s. ap₂ (made t b) (le_prop p q) (coprime_prop (unsigned_abs t) b r s)))

-- a number is its numerator and its denominator
pub same_parts : (x y : ℚ) → x.top ≡ y.top → x.bottom ≡ y.bottom → x ≡ y
same_parts x y e f = made_same x.top y.top x.bottom y.bottom e f x.above x.lowest y.above y.lowest

pub sizes_of : (a b : ℤ) (p q : ℕ) → a *ℤ pos p ≡ b *ℤ pos q → unsigned_abs a * p ≡ unsigned_abs b * q
sizes_of a b p q e = sym (unsigned_abs-mul a (pos p)) ∙ ap unsigned_abs e ∙ unsigned_abs-mul b (pos q)

-- equal crosswise: the same number
pub same_crosswise : (x y : ℚ) → x.top *ℤ pos y.bottom ≡ y.top *ℤ pos x.bottom → x ≡ y
same_crosswise x y e =
    let same = same_reduced (unsigned_abs x.top) x.bottom (unsigned_abs y.top) y.bottom x.above y.above x.lowest y.lowest (sizes_of x.top y.top y.bottom x.bottom e) in
    same_parts x y (times_cancel x.top y.top y.bottom y.above (e ∙ ap (λ n. y.top *ℤ pos n) same.1)) same.1

cross_trans : (a b c : ℤ) (p q r : ℕ) → 0 < q → a *ℤ pos q ≡ b *ℤ pos p → b *ℤ pos r ≡ c *ℤ pos q → a *ℤ pos r ≡ c *ℤ pos p
cross_trans a b c p q r some e f =
    times_cancel _ _ q some (times_swap a r q ∙ ap (λ z. z *ℤ pos r) e ∙ times_swap b p r ∙ ap (λ z. z *ℤ pos p) f ∙ times_swap c q p)

pub same_value : {x y : ℚ} {p r : ℤ} {q s : ℕ} → HasValue x p q → HasValue y r s → p *ℤ pos s ≡ r *ℤ pos q → x ≡ y
same_value {x} {y} {p} {r} {q} {s} h k e =
    same_crosswise x y
    (cross_trans x.top r y.top x.bottom s y.bottom k.above (cross_trans x.top p r x.bottom q s h.above h.equal e) (sym k.equal))

pub same_over : {x y : ℚ} {p r : ℤ} {q : ℕ} → HasValue x p q → HasValue y r q → p ≡ r → x ≡ y
same_over {q = q} h k e = same_value h k (ap (λ z. z *ℤ pos q) e)

pub equal_tops : {x : ℚ} {p r : ℤ} {q s : ℕ} → HasValue x p q → HasValue x r s → p *ℤ pos s ≡ r *ℤ pos q
equal_tops {x} {p} {r} {q} {s} h k = cross_trans p x.top r q x.bottom s x.above (sym h.equal) k.equal

pub scaled_value : {x : ℚ} {p : ℤ} {q : ℕ} (k : ℕ) → 0 < k → HasValue x p q → HasValue x (p *ℤ pos k) (q * k)
scaled_value {x} {p} {q} k some h =
    record {
      above = mul-pos h.above some;
      equal = sym (times_twice x.top q k) ∙ ap (λ z. z *ℤ pos k) h.equal ∙ times_swap p x.bottom k;
    }

-- over p q has the value p / q
pub over_value : (p : ℤ) (q : ℕ) → 0 < q → HasValue (over p q) p q
unfolding over
over_value p zero some = absurd (omega arith)
over_value p (suc q) some = record { above = some; equal = (lowest_terms p q).1 }

pub whole_value : (z : ℤ) → HasValue (whole z) z 1
unfolding whole
whole_value z = record { above = omega arith; equal = refl }

pub sum_value : {x y : ℚ} {p r : ℤ} {q : ℕ} → HasValue x p q → HasValue y r q → HasValue (x +ℚ y) (p +ℤ r) q
unfolding ◌+ℚ◌
sum_value {x} {y} {p} {r} {q} h k =
    let s = over_value (x.top *ℤ pos y.bottom +ℤ y.top *ℤ pos x.bottom) (x.bottom * y.bottom) (mul-pos x.above y.above) in
    record {
      above = h.above;
      equal = cross_trans (over _ _).top _ (p +ℤ r) _ (x.bottom * y.bottom) q (mul-pos x.above y.above) s.equal (crossed x y p r q h.equal k.equal);
    }
  where
    crossed : (x y : ℚ) (p r : ℤ) (q : ℕ) → x.top *ℤ pos q ≡ p *ℤ pos x.bottom → y.top *ℤ pos q ≡ r *ℤ pos y.bottom
        → (x.top *ℤ pos y.bottom +ℤ y.top *ℤ pos x.bottom) *ℤ pos q ≡ (p +ℤ r) *ℤ pos (x.bottom * y.bottom)
    crossed x y p r q e f =
        *ℤ-+ℤ (x.top *ℤ pos y.bottom) (y.top *ℤ pos x.bottom) (pos q)
        ∙ ap₂ ◌+ℤ◌
        (times_swap x.top y.bottom q ∙ ap (λ z. z *ℤ pos y.bottom) e ∙ times_twice p x.bottom y.bottom)
        (times_swap y.top x.bottom q ∙ ap (λ z. z *ℤ pos x.bottom) f ∙ times_swap r y.bottom x.bottom ∙ times_twice r x.bottom y.bottom)
        ∙ sym (*ℤ-+ℤ p r (pos (x.bottom * y.bottom)))

pub product_value : {x y : ℚ} {p r : ℤ} {q s : ℕ} → HasValue x p q → HasValue y r s → HasValue (x *ℚ y) (p *ℤ r) (q * s)
unfolding ◌*ℚ◌
product_value {x} {y} {p} {r} {q} {s} h k =
    let some = mul-pos x.above y.above in
    let v = over_value (x.top *ℤ y.top) (x.bottom * y.bottom) some in
    record {
      above = mul-pos h.above k.above;
      equal =
          cross_trans (over _ _).top _ (p *ℤ r) _ (x.bottom * y.bottom) (q * s) some v.equal
          (times_four x.top y.top (pos q) (pos s) ∙ ap₂ ◌*ℤ◌ h.equal k.equal ∙ sym (times_four p r (pos x.bottom) (pos y.bottom)));
    }

pub neg_value : {x : ℚ} {p : ℤ} {q : ℕ} → HasValue x p q → HasValue (neg_ℚ x) (neg_ℤ p) q
unfolding neg_ℚ
neg_value {x} {p} {q} h =
    let v = over_value (neg_ℤ x.top) x.bottom x.above in
    record {
      above = h.above;
      equal =
          cross_trans (over _ _).top _ (neg_ℤ p) _ x.bottom q x.above v.equal
          (neg-*ℤ x.top (pos q) ∙ ap neg_ℤ h.equal ∙ sym (neg-*ℤ p (pos x.bottom)));
    }

-- both sides of a comparison over one denominator
left_side : (x y : ℚ) (p : ℤ) (q : ℕ) → x.top *ℤ pos q ≡ p *ℤ pos x.bottom → x.top *ℤ pos y.bottom *ℤ pos q ≡ p *ℤ pos (x.bottom * y.bottom)
left_side x y p q e = times_swap x.top y.bottom q ∙ ap (λ z. z *ℤ pos y.bottom) e ∙ times_twice p x.bottom y.bottom

right_side : (x y : ℚ) (r : ℤ) (q : ℕ) → y.top *ℤ pos q ≡ r *ℤ pos y.bottom → y.top *ℤ pos x.bottom *ℤ pos q ≡ r *ℤ pos (x.bottom * y.bottom)
right_side x y r q e = left_side y x r q e ∙ ap (λ n. r *ℤ pos n) (mul_comm y.bottom x.bottom)

module _ {x y : ℚ} {p r : ℤ} {q : ℕ} (h : HasValue x p q) (k : HasValue y r q) where
  pub le_value : x ≤ℚ y → p ≤ℤ r
  le_value m =
      times_le_cancel p r (x.bottom * y.bottom) (mul-pos x.above y.above)
      (subst₂ (λ a b. a ≤ℤ b) (left_side x y p q h.equal) (right_side x y r q k.equal) (times_le _ _ q m.crosswise))

  pub value_le : p ≤ℤ r → x ≤ℚ y
  value_le m = record { crosswise = times_le_cancel _ _ q h.above (subst₂ (λ a b. a ≤ℤ b) (sym (left_side x y p q h.equal)) (sym (right_side x y r q k.equal)) (times_le _ _ (x.bottom * y.bottom) m)) }

  pub lt_value : x <ℚ y → p <ℤ r
  lt_value m =
      times_lt_cancel p r (x.bottom * y.bottom)
      (subst₂ (λ a b. a <ℤ b) (left_side x y p q h.equal) (right_side x y r q k.equal) (times_lt _ _ q h.above m.crosswise))

  pub value_lt : p <ℤ r → x <ℚ y
  value_lt m = record {
    crosswise = times_lt_cancel _ _ q (subst₂ (λ a b. a <ℤ b) (sym (left_side x y p q h.equal))
        (sym (right_side x y r q k.equal)) (times_lt _ _ (x.bottom * y.bottom) (mul-pos x.above y.above) m));
  }

-- two, and three, numbers over one denominator
pub record Together (x y : ℚ) : Type 0 where
  pub d : ℕ
  pub p : ℤ
  pub r : ℤ
  pub first : HasValue x p d
  pub second : HasValue y r d

pub together : (x y : ℚ) → Together x y
together x y =
    record {
      d = x.bottom * y.bottom;
      p = x.top *ℤ pos y.bottom;
      r = y.top *ℤ pos x.bottom;
      first = scaled_value y.bottom y.above (own_value x);
      second = subst (λ n. HasValue y (y.top *ℤ pos x.bottom) n) (mul_comm y.bottom x.bottom) (scaled_value x.bottom x.above (own_value y));
    }

pub record AllTogether (x y z : ℚ) : Type 0 where
  pub d : ℕ
  pub p : ℤ
  pub r : ℤ
  pub t : ℤ
  pub first : HasValue x p d
  pub second : HasValue y r d
  pub third : HasValue z t d

pub all_together : (x y z : ℚ) → AllTogether x y z
all_together x y z =
    let w = together x y in
    record {
      d = w.d * z.bottom;
      p = w.p *ℤ pos z.bottom;
      r = w.r *ℤ pos z.bottom;
      t = z.top *ℤ pos w.d;
      first = scaled_value z.bottom z.above w.first;
      second = scaled_value z.bottom z.above w.second;
      third = subst (λ n. HasValue z (z.top *ℤ pos w.d) n) (mul_comm z.bottom w.d) (scaled_value w.d w.first.above (own_value z));
    }
