-- Powers, least and greatest, whole parts and absolute values: what their definitions say.
use Rattle.std.proofs.Common.{◌≡◌, ℕ, suc, ◌⊎◌, ◌↔◌, IsTrue, inl, inr, ⊎_elim, ◌∙◌, sym, ap, refl, subst, subst₂, arith}
use Rattle.std.proofs.Common.{Bool, true, false, if◌then◌else◌, pos, ◌*ℤ◌, ◌<ℤ◌, neg_ℤ, List, [], ◌∷◌, All, Contains}
use Rattle.std.proofs.lemmas.Int.{ints}
use Rattle.std.proofs.lemmas.List.Elements.{All-nil, All-cons}
use Rattle.exact_numbers.specs.Functions.{power_of, is_smaller, lesser_of, greater_of, least_of, greatest_of, floor_of, ceiling_of, absolute_of}
use Rattle.exact_numbers.specs.Rational.{ℚ, zero_ℚ, one_ℚ, ◌+ℚ◌, ◌-ℚ◌, ◌*ℚ◌, neg_ℚ, ◌≤ℚ◌, ◌<ℚ◌, IsWhole}
use Rattle.exact_numbers.specs.FloorLemmas.{a_floor}
use Rattle.exact_numbers.proofs.RationalLaws.{≤ℚ_refl, ≤ℚ_of_<ℚ, ≤ℚ_trans, neg-≤ℚ, neg-neg, neg-+ℚ, neg_zero, -ℚ_lem, not_both, le_or_lt, whole_of, whole-+ℚ, whole-neg, IsWhole-whole}

-- ---- powers
pub power_of-zero : (x : ℚ) → power_of x 0 ≡ one_ℚ
unfolding power_of
power_of-zero x = refl

pub power_of-suc : (x : ℚ) (n : ℕ) → power_of x (suc n) ≡ x *ℚ power_of x n
unfolding power_of
power_of-suc x n = refl

-- ---- least and greatest
pub is_smaller_test : (x y : ℚ) → IsTrue (is_smaller x y) ↔ (x <ℚ y)
is_smaller_test x y = ((λ e. record { crosswise = omega (arith, ints) }), (λ h. by (is_smaller x y) refl h.crosswise))
  where
    by : (b : Bool) → is_smaller x y ≡ b → (x.top *ℤ pos y.bottom) <ℤ (y.top *ℤ pos x.bottom) → is_smaller x y ≡ true
    by true e h = e
    by false e h = absurd (omega (arith, ints))

-- the lesser of two is one of them, and at most both
pub record IsLesser (x y z : ℚ) : Type 0 where
  pub one : (z ≡ x) ⊎ (z ≡ y)
  pub first : z ≤ℚ x
  pub second : z ≤ℚ y

pub record IsGreater (x y z : ℚ) : Type 0 where
  pub one : (z ≡ x) ⊎ (z ≡ y)
  pub first : x ≤ℚ z
  pub second : y ≤ℚ z

lesser_is : (x y : ℚ) → IsLesser x y (lesser_of x y)
unfolding lesser_of
lesser_is x y = by (is_smaller y x) refl
  where
    by : (b : Bool) → is_smaller y x ≡ b → IsLesser x y (if b then y else x)
    by true e = record { one = inr refl; first = record { crosswise = omega (arith, ints) }; second = ≤ℚ_refl y }
    by false e = record { one = inl refl; first = ≤ℚ_refl x; second = record { crosswise = omega (arith, ints) } }

greater_is : (x y : ℚ) → IsGreater x y (greater_of x y)
unfolding greater_of
greater_is x y = by (is_smaller x y) refl
  where
    by : (b : Bool) → is_smaller x y ≡ b → IsGreater x y (if b then y else x)
    by true e = record { one = inr refl; first = record { crosswise = omega (arith, ints) }; second = ≤ℚ_refl y }
    by false e = record { one = inl refl; first = ≤ℚ_refl x; second = record { crosswise = omega (arith, ints) } }

contains_first : (x : ℚ) (xs : List ℚ) → Contains (x ∷ xs) x
contains_first x xs = (0, omega arith, refl)

contains_later : (x y : ℚ) (xs : List ℚ) → Contains xs y → Contains (x ∷ xs) y
contains_later x y xs h = (suc h.0, omega (arith, h.1), h.2)

-- the least of x and a list is one of them and at most all
pub record IsLeast (x : ℚ) (xs : List ℚ) (z : ℚ) : Type 0 where
  pub one : (z ≡ x) ⊎ Contains xs z
  pub first : z ≤ℚ x
  pub rest : All (λ y. z ≤ℚ y) xs

pub record IsGreatest (x : ℚ) (xs : List ℚ) (z : ℚ) : Type 0 where
  pub one : (z ≡ x) ⊎ Contains xs z
  pub first : x ≤ℚ z
  pub rest : All (λ y. y ≤ℚ z) xs

one_of : (x y w z : ℚ) (ys : List ℚ) → (w ≡ x) ⊎ (w ≡ y) → (z ≡ w) ⊎ Contains ys z → (z ≡ x) ⊎ Contains (y ∷ ys) z
one_of x y w z ys (inl e) (inl f) = inl (f ∙ e)
one_of x y w z ys (inr e) (inl f) = inr (subst (Contains (y ∷ ys)) (sym (f ∙ e)) (contains_first y ys))
one_of x y w z ys h (inr c) = inr (contains_later y z ys c)

least_is : (x : ℚ) (xs : List ℚ) → IsLeast x xs (least_of x xs)
unfolding least_of lesser_of
least_is x [] = record { one = inl refl; first = ≤ℚ_refl x; rest = All-nil (λ y. x ≤ℚ y) }
least_is x (y ∷ ys) =
    let w = lesser_of x y in
    let two = lesser_is x y in
    let r = least_is w ys in
    record {
      one = one_of x y w (least_of w ys) ys two.one r.one;
      first = ≤ℚ_trans (least_of w ys) w x r.first two.first;
      rest = All-cons (λ v. least_of w ys ≤ℚ v) y ys (≤ℚ_trans (least_of w ys) w y r.first two.second) r.rest;
    }

greatest_is : (x : ℚ) (xs : List ℚ) → IsGreatest x xs (greatest_of x xs)
unfolding greatest_of greater_of
greatest_is x [] = record { one = inl refl; first = ≤ℚ_refl x; rest = All-nil (λ y. y ≤ℚ x) }
greatest_is x (y ∷ ys) =
    let w = greater_of x y in
    let two = greater_is x y in
    let r = greatest_is w ys in
    record {
      one = one_of x y w (greatest_of w ys) ys two.one r.one;
      first = ≤ℚ_trans x w (greatest_of w ys) two.first r.first;
      rest = All-cons (λ v. v ≤ℚ greatest_of w ys) y ys (≤ℚ_trans y w (greatest_of w ys) two.second r.first) r.rest;
    }

among : (x : ℚ) (xs : List ℚ) (z : ℚ) → (z ≡ x) ⊎ Contains xs z → Contains (x ∷ xs) z
among x xs z (inl e) = subst (Contains (x ∷ xs)) (sym e) (contains_first x xs)
among x xs z (inr c) = contains_later x z xs c

pub least_law : (x : ℚ) (xs : List ℚ) → Contains (x ∷ xs) (least_of x xs) × All (λ y. least_of x xs ≤ℚ y) (x ∷ xs)
least_law x xs = let r = least_is x xs in (among x xs (least_of x xs) r.one, All-cons (λ y. least_of x xs ≤ℚ y) x xs r.first r.rest)

pub greatest_law : (x : ℚ) (xs : List ℚ) → Contains (x ∷ xs) (greatest_of x xs) × All (λ y. y ≤ℚ greatest_of x xs) (x ∷ xs)
greatest_law x xs = let r = greatest_is x xs in (among x xs (greatest_of x xs) r.one, All-cons (λ y. y ≤ℚ greatest_of x xs) x xs r.first r.rest)

-- ---- whole parts
-- the greatest whole number that is not above x
pub record IsFloor (x z : ℚ) : Type 0 where
  pub whole : IsWhole z
  pub below : z ≤ℚ x
  pub near : x <ℚ (z +ℚ one_ℚ)

pub floor_is : (x : ℚ) → IsFloor x (floor_of x)
unfolding floor_of
floor_is x =
    let f = a_floor x in
    record { whole = IsWhole-whole f.0; below = f.1; near = subst (λ v. x <ℚ v) (sym (whole-+ℚ f.0 (pos 1))) f.2 }

-- the least whole number that is not below x
pub record IsCeiling (x z : ℚ) : Type 0 where
  pub whole : IsWhole z
  pub above : x ≤ℚ z
  pub near : (z -ℚ one_ℚ) <ℚ x

neg-<ℚ : (x y : ℚ) → x <ℚ y → neg_ℚ y <ℚ neg_ℚ x
neg-<ℚ x y h = ⊎_elim (λ (l : neg_ℚ x ≤ℚ neg_ℚ y). absurd (not_both y x
    (subst₂ (λ a b. a ≤ℚ b) (neg-neg y) (neg-neg x) (neg-≤ℚ (neg_ℚ x) (neg_ℚ y) l)) h))
    (λ (l : neg_ℚ y <ℚ neg_ℚ x). l) (le_or_lt (neg_ℚ x) (neg_ℚ y))

neg_whole : (z : ℚ) → IsWhole z → IsWhole (neg_ℚ z)
neg_whole z h = let r = whole_of z h in subst IsWhole (sym (ap neg_ℚ r.1 ∙ whole-neg r.0)) (IsWhole-whole (neg_ℤ r.0))

pub ceiling_is : (x : ℚ) → IsCeiling x (ceiling_of x)
unfolding ceiling_of
ceiling_is x =
    let f = floor_is (neg_ℚ x) in
    let z = floor_of (neg_ℚ x) in
    record {
      whole = neg_whole z f.whole;
      above = subst (λ v. v ≤ℚ neg_ℚ z) (neg-neg x) (neg-≤ℚ z (neg_ℚ x) f.below);
      near = subst₂ (λ a b. a <ℚ b) (neg-+ℚ z one_ℚ ∙ sym (-ℚ_lem (neg_ℚ z) one_ℚ)) (neg-neg x) (neg-<ℚ (neg_ℚ x) (z +ℚ one_ℚ) f.near);
    }

-- ---- absolute values
pub record IsAbsolute (x z : ℚ) : Type 0 where
  pub one : (z ≡ x) ⊎ (z ≡ neg_ℚ x)
  pub above : zero_ℚ ≤ℚ z

pub absolute_below : (x : ℚ) → x <ℚ zero_ℚ → absolute_of x ≡ neg_ℚ x
unfolding absolute_of
absolute_below x h = ap (λ b. if b then neg_ℚ x else x) ((is_smaller_test x zero_ℚ).1 h)

pub absolute_above : (x : ℚ) → zero_ℚ ≤ℚ x → absolute_of x ≡ x
unfolding absolute_of
absolute_above x h = by (is_smaller x zero_ℚ) refl
  where
    by : (b : Bool) → is_smaller x zero_ℚ ≡ b → (if b then neg_ℚ x else x) ≡ x
    by true e = absurd (not_both zero_ℚ x h ((is_smaller_test x zero_ℚ).0 e))
    by false e = refl

pub absolute_is : (x : ℚ) → IsAbsolute x (absolute_of x)
absolute_is x =
    ⊎_elim
    (λ (h : zero_ℚ ≤ℚ x). record { one = inl (absolute_above x h); above = subst (λ v. zero_ℚ ≤ℚ v) (sym (absolute_above x h)) h })
    (λ (h : x <ℚ zero_ℚ).
    let e = absolute_below x h in
    record { one = inr e; above = subst₂ (λ a b. a ≤ℚ b) neg_zero (sym e) (neg-≤ℚ x zero_ℚ (≤ℚ_of_<ℚ x zero_ℚ h)) })
    (le_or_lt zero_ℚ x)
