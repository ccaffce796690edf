-- From pairs of one value to equal numbers, and back.
use Rattle.std.proofs.Common.{◌≡◌, ◌≢◌, ◌⊎◌, inr, ℕ, zero, suc, ◌*◌, ◌/◌, ◌<◌, ◌^◌, ◌∙◌, sym, ap, ap₂, refl, subst}
use Rattle.std.proofs.Common.{arith, mul-pos, mul_comm, true, false, ℤ, pos, negsuc, ◌+ℤ◌, ◌*ℤ◌, ◌<ℤ◌, neg_ℤ}
use Rattle.std.proofs.Common.{unsigned_abs, int_lt, Option, Some, None, MatchOption, ◌↔◌, Less, Equal, Greater, int_cmp}
use Rattle.std.proofs.Common.{mul-one}
use Prim.Native.Nat.{◌∣◌}
use Rattle.std.proofs.Math.Nat.{dvd-mul_left, div-mul_cancel, eq_of_mul-eq-mul_right}
use Rattle.std.specs.Int.{int_signum}
use Rattle.exact_numbers.proofs.Signed.{sizes_of}
use Rattle.std.specs.declared.cmp.Ordering.{Ordering}
use Rattle.std.specs.Ordering.{MatchOrdering}
use Rattle.std.specs.Cmp.{int_ranks}
use Rattle.std.proofs.lemmas.Bool.{ltb-true, lt-ltb, false_from_ne_true, and_from, and_parts}
use lib.IntN.{*ℤ_comm, zero-*ℤ}
use borrow.Author.Differences.{up, down}
use Rattle.exact_numbers.specs.Divisors.{AreCoprime}
use Rattle.exact_numbers.specs.LowestLemmas.{lcm_is}
use Rattle.exact_numbers.specs.Rational.{ℚ, over, whole, zero_ℚ, one_ℚ, ◌+ℚ◌, ◌*ℚ◌, ◌-ℚ◌, neg_ℚ, decimal_value, inverse_of, IsWhole}
use Rattle.exact_numbers.proofs.IntegerLaws.{neg-*ℤ, times_cancel, *ℤ_assoc}
use Rattle.exact_numbers.proofs.Values.{HasValue, own_value, over_value, whole_value, same_value, same_over, same_crosswise, equal_tops, scaled_value, product_value, neg_value, lt_value}
use Rattle.exact_numbers.proofs.RationalLaws.{over_parts, decimal_value_lem, zero_top, top_zero, -ℚ_lem, IsWhole-dvd, with_sign_above, with_sign_below}
use Rattle.exact_numbers.specs.Decimal.{signed}
use Rattle.exact_numbers.specs.Fraction.{IsFrac}
use Rattle.exact_numbers.specs.Values.{frac_value, dec_value, is_small, fits, least_multiple, sum_over_multiple, sum_fits, FitsDec, IsInReach, order_of}
use Rattle.exact_numbers.specs.declared.dec.Dec.{Dec}
use Rattle.exact_numbers.specs.declared.frac.Frac.{Frac}
use Rattle.exact_numbers.proofs.Pairs.{Fraction, SameValue, HasDec, HasFrac, SumFits, pair, scaled, sum_of, product_of}
use Rattle.exact_numbers.proofs.Coprime.{same_lcm}
use Rattle.exact_numbers.proofs.Decimals.{negative_test, is_negative}
use Rattle.exact_numbers.proofs.Orders.{less_z, equal_z, greater_z}

-- x is the value of the pair y
abbrev pub Is : ℚ → Fraction → Type 0
Is x y = HasValue x y.top y.bottom

-- ---- tests
pub small_of : (k : ℕ) → k < 2 ^ 127 → is_small k ≡ true
small_of k h = lt-ltb k (2 ^ 127) h

pub small_out : (k : ℕ) → is_small k ≡ true → k < 2 ^ 127
small_out k e = ltb-true k (2 ^ 127) e

-- ---- fractions
-- the two numbers of a Frac fit
pub frac_fits_lem : (f : Frac) → fits (frac_value f) ≡ true
frac_fits_lem f = and_from _ _ (small_of _ f.spelled.size) (small_of _ f.spelled.small)

pub frac_of_fits : (x : ℚ) → fits x ≡ true → IsFrac x.top x.bottom
frac_of_fits x e = let both = and_parts _ _ e in record { size = small_out _ both.0; above = x.above; small = small_out _ both.1; reduced = x.lowest }

pub whole_fits : (z : ℤ) → unsigned_abs z < 2 ^ 127 → fits (whole z) ≡ true
unfolding whole
whole_fits z h = and_from _ _ (small_of (unsigned_abs z) h) refl

fits_out : (x : ℚ) (y : Fraction) → Is x y → fits x ≡ true → HasFrac y
fits_out x y h e = record { num = x.top; den = x.bottom; frac = frac_of_fits x e; same = record { equal = h.equal } }

-- what no Frac has does not fit
pub not_fits : (x : ℚ) (y : Fraction) → Is x y → (HasFrac y → ⊥) → fits x ≡ false
not_fits x y h none = false_from_ne_true (fits x) (λ e. none (fits_out x y h e))

pub same_frac_value : (f : Frac) (x : ℚ) (y : Fraction) → Is x y → SameValue (pair f.num f.den) y → frac_value f ≡ x
same_frac_value f x y h e = let k : HasValue (frac_value f) y.top y.bottom = record { above = h.above; equal = e.equal } in same_over k h refl

pub is_fitting : (f : Frac) (x : ℚ) → frac_value f ≡ x → (fits x ≡ true) × (frac_value f ≡ x)
is_fitting f x e = (subst (λ z. fits z ≡ true) e (frac_fits_lem f), e)

-- what some Frac has fits
pub in_range : (x : ℚ) (y : Fraction) → Is x y → HasFrac y → fits x ≡ true
in_range x y h f =
    let z : ℚ = record { top = f.num; bottom = f.den; above = f.frac.above; lowest = f.frac.reduced } in
    let k : HasValue z y.top y.bottom = record { above = h.above; equal = f.same.equal } in
    subst (λ w. fits w ≡ true) (same_over k h refl) (and_from _ _ (small_of _ f.frac.size) (small_of _ f.frac.small))

-- a Frac that has the value of a pair
pub fitting : (f : Frac) (x : ℚ) (y : Fraction) → Is x y → SameValue (pair f.num f.den) y → (fits x ≡ true) × (frac_value f ≡ x)
fitting f x y h e = is_fitting f x (same_frac_value f x y h e)

-- the same, by parts
pub fitting_parts : (n : ℤ) (d : ℕ) (above : 0 < d) (lowest : AreCoprime (unsigned_abs n) d) → IsFrac n d
    → (x : ℚ) (y : Fraction) → Is x y → SameValue (pair n d) y → let z : ℚ =
    record { top = n; bottom = d; above = above; lowest = lowest } in (fits x ≡ true) × (z ≡ x)
fitting_parts n d above lowest frac x y h e =
    let z : ℚ = record { top = n; bottom = d; above = above; lowest = lowest } in
    let k : HasValue z y.top y.bottom = record { above = h.above; equal = e.equal } in
    let same : z ≡ x = same_over k h refl in
    (subst (λ w. fits w ≡ true) same (and_from _ _ (small_of _ frac.size) (small_of _ frac.small)), same)

pub frac_is : (f : Frac) (p : ℤ) (q : ℕ) → f.num ≡ p → f.den ≡ q → frac_value f ≡ over p q
frac_is f p q e d = sym (over_parts (frac_value f)) ∙ ap₂ over e d

pub pair_is : (p : ℤ) (q : ℕ) → 0 < q → Is (over p q) (pair p q)
pair_is p q some = over_value p q some

pub product_is : (x y : ℚ) → Is (x *ℚ y) (product_of (pair x.top x.bottom) (pair y.top y.bottom))
unfolding ◌*ℚ◌
product_is x y = over_value (x.top *ℤ y.top) (x.bottom * y.bottom) (mul-pos x.above y.above)

pub sum_is : (x y : ℚ) → Is (x +ℚ y) (sum_of (pair x.top x.bottom) (pair y.top y.bottom))
unfolding ◌+ℚ◌
sum_is x y = over_value (x.top *ℤ pos y.bottom +ℤ y.top *ℤ pos x.bottom) (x.bottom * y.bottom) (mul-pos x.above y.above)

-- ---- sums
pub sum_fits_in : (x y : ℚ) → SumFits x.top x.bottom y.top y.bottom → sum_fits x y ≡ true
sum_fits_in x y f =
    let same : f.m ≡ least_multiple x.bottom y.bottom = same_lcm x.bottom y.bottom f.m _ f.least (lcm_is x.bottom y.bottom) in
    subst (λ m. sum_over_multiple m x y ≡ true) same
    (and_from _ _ (and_from _ _ (and_from _ _ (small_of _ f.denominator) (small_of _ f.first)) (small_of _ f.second)) (small_of _ f.sum))

pub sum_fits_out : (x y : ℚ) → sum_fits x y ≡ true → SumFits x.top x.bottom y.top y.bottom
sum_fits_out x y e =
    let last = and_parts _ _ e in
    let third = and_parts _ _ last.0 in
    let two = and_parts _ _ third.0 in
    record {
      m = least_multiple x.bottom y.bottom;
      least = lcm_is x.bottom y.bottom;
      denominator = small_out _ two.0;
      first = small_out _ two.1;
      second = small_out _ third.1;
      sum = small_out _ last.1;
    }

pub not_sum : (x y : ℚ) → (SumFits x.top x.bottom y.top y.bottom → ⊥) → sum_fits x y ≡ false
not_sum x y none = false_from_ne_true (sum_fits x y) (λ e. none (sum_fits_out x y e))

-- a sum over a denominator, where both of its parts are in range
pub summed : (r : Option Frac) (x y z : ℚ) → fits z ≡ true → SumFits x.top x.bottom y.top y.bottom → z ≡ x +ℚ y
    → MatchOption r (fits z ≡ false) (λ f. (fits z ≡ true) × (frac_value f ≡ z))
    → MatchOption r (sum_fits x y ≡ false) (λ f. (sum_fits x y ≡ true) × (frac_value f ≡ x +ℚ y))
summed None x y z fit parts same h = absurd (cc)
summed (Some f) x y z fit parts same h = (sum_fits_in x y parts, h.1 ∙ same)

-- ---- negation, zero, one, reciprocal
pub negated_parts : (a : Frac) (n : ℤ) (d : ℕ) (above : 0 < d) (lowest : AreCoprime (unsigned_abs n) d)
    → n ≡ neg_ℤ a.num → d ≡ a.den → let z : ℚ = record { top = n; bottom = d; above = above; lowest = lowest } in
    z ≡ neg_ℚ (frac_value a)
negated_parts a n d above lowest e f =
    let z : ℚ = record { top = n; bottom = d; above = above; lowest = lowest } in
    let k : HasValue z (neg_ℤ a.num) a.den = record { above = a.spelled.above; equal = ap₂ (λ t b. t *ℤ pos b) e (sym f) } in
    same_over k (neg_value (own_value (frac_value a))) refl

pub zero_is : (f : Frac) → f.num ≡ pos 0 → frac_value f ≡ zero_ℚ
zero_is f e = zero_top (frac_value f) e

pub one_is : (f : Frac) → f.num ≡ pos 1 → f.den ≡ 1 → frac_value f ≡ one_ℚ
one_is f e d =
    let k : HasValue (frac_value f) (pos 1) 1 = record { above = (whole_value (pos 1)).above; equal = ap₂ (λ t b. t *ℤ pos b) e (sym d) } in
    same_over k (whole_value (pos 1)) refl

turned : (f : Frac) (n : ℤ) (d : ℕ) → f.num ≡ signed (is_negative n) d → f.den ≡ unsigned_abs n → (n ≡ pos 0 → ⊥) → frac_value f ≡ over (int_signum n *ℤ pos d) (unsigned_abs n)
turned f (pos zero) d p q some = absurd (some refl)
turned f (pos (suc n)) d p q some = frac_is f (int_signum (pos (suc n)) *ℤ pos d) (suc n) (p ∙ sym (with_sign_above n d)) q
turned f (negsuc n) d p q some = frac_is f (int_signum (negsuc n) *ℤ pos d) (suc n) (p ∙ sym (with_sign_below n d)) q

pub inverse_is : (a f : Frac) → (a.num ≡ pos 0 → ⊥) → f.num ≡ signed (int_lt a.num (pos 0)) a.den → f.den ≡ unsigned_abs a.num → frac_value f ≡ inverse_of (frac_value a)
unfolding inverse_of
inverse_is a f some p q = turned f a.num a.den (p ∙ ap (λ s. signed s a.den) (negative_test a.num)) q some

-- ---- decimals
pub decimal_is : (m e : ℤ) → Is (decimal_value m e) (scaled m e)
decimal_is m e = decimal_value_lem m e

dec_out : (x : ℚ) (y : Fraction) → Is x y → FitsDec x → HasDec y
dec_out x y h f =
    let k : Is x (scaled f.m f.e) = subst (λ z. Is z (scaled f.m f.e)) f.same (decimal_is f.m f.e) in
    record { m = f.m; e = f.e; dec = f.dec; same = record { equal = equal_tops k h } }

pub dec_in : (x : ℚ) (y : Fraction) → Is x y → HasDec y → FitsDec x
dec_in x y h f = record { m = f.m; e = f.e; dec = f.dec; same = same_value (decimal_is f.m f.e) h f.same.equal }

pub not_dec : (x : ℚ) (y : Fraction) → Is x y → (HasDec y → ⊥) → FitsDec x → ⊥
not_dec x y h none fit = none (dec_out x y h fit)

pub no_dec : (x : ℚ) (y : Fraction) → Is x y → (FitsDec x → ⊥) → HasDec y → ⊥
no_dec x y h none fit = none (dec_in x y h fit)

pub same_dec_value : (m e : ℤ) (x : ℚ) (y : Fraction) → Is x y → SameValue (scaled m e) y → decimal_value m e ≡ x
same_dec_value m e x y h s = same_value (decimal_is m e) h s.equal

pub dec_same : (m e : ℤ) (x : ℚ) (y : Fraction) → Is x y → decimal_value m e ≡ x → SameValue (scaled m e) y
dec_same m e x y h s = record { equal = equal_tops (subst (λ z. Is z (scaled m e)) s (decimal_is m e)) h }

-- an answer for one number is one for the same number
pub match_dec : (r : Option Dec) (x y : ℚ) → x ≡ y → MatchOption r (FitsDec x → ⊥) (λ d. dec_value d ≡ x) → MatchOption r (FitsDec y → ⊥) (λ d. dec_value d ≡ y)
match_dec r x y e h = subst (λ z. MatchOption r (FitsDec z → ⊥) (λ d. dec_value d ≡ z)) e h

pub zero_decimal : (g : ℤ) → decimal_value (pos 0) g ≡ zero_ℚ
zero_decimal g = same_value (decimal_is (pos 0) g) (whole_value (pos 0)) (ap (λ z. z *ℤ pos 1) (zero-*ℤ (pos (10 ^ up g))) ∙ zero-*ℤ (pos 1) ∙ sym (zero-*ℤ (pos (10 ^ down g))))

pub decimal_zero : (m e f : ℤ) → m ≡ pos 0 → decimal_value (pos 0) f ≡ decimal_value m e
decimal_zero m e f z = zero_decimal f ∙ sym (zero_decimal e) ∙ ap (λ n. decimal_value n e) (sym z)

pub decimal-neg : (m e : ℤ) → decimal_value (neg_ℤ m) e ≡ neg_ℚ (decimal_value m e)
decimal-neg m e = same_over (decimal_is (neg_ℤ m) e) (neg_value (decimal_is m e)) (neg-*ℤ m _)

pub decimal-times : (m e k : ℤ) → decimal_value (m *ℤ k) e ≡ decimal_value m e *ℚ whole k
decimal-times m e k =
    same_value (decimal_is (m *ℤ k) e) (product_value (decimal_is m e) (whole_value k))
    (ap₂ (λ z n. z *ℤ pos n) (*ℤ_assoc m k (pos (10 ^ up e)) ∙ ap (λ z. m *ℤ z) (*ℤ_comm k (pos (10 ^ up e))) ∙ sym (*ℤ_assoc m (pos (10 ^ up e)) k)) (mul-one (10 ^ down e)))

pub in_reach : (r : Option Dec) (d : Dec) (n e k : ℤ) → n ≡ d.m *ℤ k → e ≡ d.e → unsigned_abs (d.m *ℤ k) < 2 ^ 127
    → MatchOption r (FitsDec (decimal_value n e) → ⊥) (λ x. dec_value x ≡ decimal_value n e)
    → MatchOption r (IsInReach d k → ⊥) (λ x. IsInReach d k × (dec_value x ≡ dec_value d *ℚ whole k))
in_reach r d n e k p q size h = by r (match_dec r _ _ (ap₂ decimal_value p q ∙ decimal-times d.m d.e k) h)
  where
    by : (r : Option Dec) → MatchOption r (FitsDec (dec_value d *ℚ whole k) → ⊥)
        (λ x. dec_value x ≡ dec_value d *ℚ whole k) → MatchOption r (IsInReach d k → ⊥)
        (λ x. IsInReach d k × (dec_value x ≡ dec_value d *ℚ whole k))
    by None h = λ reach. h reach.dec
    by (Some x) h = (record { size = size; dec = record { m = x.m; e = x.e; dec = x.spelled; same = h } }, h)

-- being whole by a pair of the value
pub whole_is : (x : ℚ) (y : Fraction) → Is x y → IsWhole x ↔ (y.bottom ∣ unsigned_abs y.top)
whole_is x y h = (into, out)
  where
    sizes : unsigned_abs x.top * y.bottom ≡ unsigned_abs y.top * x.bottom
    sizes = sizes_of x.top y.top y.bottom x.bottom h.equal

    into : IsWhole x → y.bottom ∣ unsigned_abs y.top
    into w =
        subst (λ n. y.bottom ∣ n) (sizes ∙ ap (λ n. unsigned_abs y.top * n) w ∙ mul-one _) (dvd-mul_left y.bottom (unsigned_abs x.top))

    out : y.bottom ∣ unsigned_abs y.top → IsWhole x
    out w =
        let k = unsigned_abs y.top / y.bottom in
        let split : k * y.bottom ≡ unsigned_abs y.top = div-mul_cancel y.bottom w in
        let same : unsigned_abs x.top ≡ k * x.bottom = eq_of_mul-eq-mul_right y.bottom h.above _ _ (sizes ∙ ap (λ n. n * x.bottom) (sym split) ∙ omega arith) in
        (IsWhole-dvd x).1 (subst (λ n. x.bottom ∣ n) (sym same) (dvd-mul_left x.bottom k))

-- ---- quotients and differences
pub zero_num : (f : Frac) → frac_value f ≡ zero_ℚ → f.num ≡ pos 0
zero_num f e = top_zero (frac_value f) e

pub zero_link : (f : Frac) → (f.num ≡ pos 0) ↔ (frac_value f ≡ zero_ℚ)
zero_link f = (zero_is f, zero_num f)

pub divided : (r : Option Frac) (x y z : ℚ) → y ≢ zero_ℚ → x ≡ z
    → MatchOption r (fits x ≡ false) (λ f. (fits x ≡ true) × (frac_value f ≡ x))
    → MatchOption r ((y ≡ zero_ℚ) ⊎ (fits z ≡ false)) (λ f. (y ≢ zero_ℚ) × (fits z ≡ true) × (frac_value f ≡ z))
divided None x y z some e h = inr (subst (λ v. fits v ≡ false) e h)
divided (Some f) x y z some e h = (some, subst (λ v. fits v ≡ true) e h.0, h.1 ∙ e)

pub subtracted : (r : Option Frac) (x y z : ℚ) → y ≡ neg_ℚ z
    → MatchOption r (sum_fits x y ≡ false) (λ f. (sum_fits x y ≡ true) × (frac_value f ≡ x +ℚ y))
    → MatchOption r (sum_fits x (neg_ℚ z) ≡ false) (λ f. (sum_fits x (neg_ℚ z) ≡ true) × (frac_value f ≡ x -ℚ z))
subtracted None x y z e h = subst (λ v. sum_fits x v ≡ false) e h
subtracted (Some f) x y z e h = (subst (λ v. sum_fits x v ≡ true) e h.0, h.1 ∙ ap (λ v. x +ℚ v) e ∙ sym (-ℚ_lem x z))

-- ---- order
alike : (a b c d : ℤ) → (a <ℤ b → c <ℤ d) → (a ≡ b → c ≡ d) → (b <ℤ a → d <ℤ c) → int_cmp a b ≡ int_cmp c d
alike a b c d l e g = by (int_cmp a b) (int_ranks a b)
  where
    by : (o : Ordering) → MatchOrdering o (a <ℤ b) (a ≡ b) (b <ℤ a) → o ≡ int_cmp c d
    by Less h = sym (less_z c d (l h))
    by Equal h = sym (equal_z c d (e h))
    by Greater h = sym (greater_z c d (g h))

-- the order of two numbers is that of their pairs, crosswise
pub order_is : (x y : ℚ) (u v : Fraction) → Is x u → Is y v → int_cmp (u.top *ℤ pos v.bottom) (v.top *ℤ pos u.bottom) ≡ order_of x y
order_is x y u v h k =
    let first = scaled_value v.bottom k.above h in
    let second = subst (λ n. HasValue y (v.top *ℤ pos u.bottom) n) (mul_comm v.bottom u.bottom) (scaled_value u.bottom h.above k) in
    sym
    (alike _ _ _ _ (λ l. lt_value first second (record { crosswise = l }))
    (λ e. equal_tops_over (subst (λ z. HasValue z (u.top *ℤ pos v.bottom) (u.bottom * v.bottom)) (same_crosswise x y e) first) second)
    (λ l. lt_value second first (record { crosswise = l })))
  where
    equal_tops_over : {x : ℚ} {p r : ℤ} {q : ℕ} → HasValue x p q → HasValue x r q → p ≡ r
    equal_tops_over {q = q} a b = times_cancel _ _ q a.above (equal_tops a b)
