-- The operators that want constants.
use Rattle.std.proofs.Common.{◌≡◌, ℕ, zero, suc, ◌+◌, ◌*◌, ◌/◌, ◌-◌, ◌^◌, ◌<◌, ◌∙◌, sym, ap, refl, subst, subst₂, arith}
use Rattle.std.proofs.Common.{mul-pos, Bool, true, false, cond, ◌&&◌, ℤ, pos, negsuc, ◌*ℤ◌, ◌<ℤ◌, ◌≤ℤ◌, unsigned_abs}
use Rattle.std.proofs.Common.{Some, None, option_map, List, [], ◌∷◌, map, if◌then◌else◌, lit<}
use Rattle.std.specs.Int.{int_div_euclid}
use Rattle.std.specs.declared.cmp.Ordering.TheVariants.{Less, Equal, Greater}
use Rattle.std.proofs.Math.Nat.{pow-succ', pow-zero, zero-mul}
use Rattle.std.proofs.lemmas.Bool.{ltb-true, and_from, and_parts, false_from_ne_true, lt-ltb}
use Rattle.std.proofs.lemmas.Int.{ints, unsigned_abs-mul}
use Rattle.exact_numbers.specs.declared.frac.Frac.{Frac}
use Rattle.exact_numbers.specs.Values.{frac_value, order_of}
use Rattle.exact_numbers.proofs.Bridge.{whole_fits as whole_small}
use Rattle.exact_numbers.specs.Divisors.{AreCoprime}
use Rattle.exact_numbers.specs.LowestLemmas.{coprime-swap}
use Rattle.exact_numbers.specs.Fits.{fits}
use Rattle.exact_numbers.specs.Functions.{exponent_of, or_zero, power_of, is_smaller, lesser_of, greater_of, least_of, greatest_of, floor_of, ceiling_of, absolute_of}
use lib.IntN.{*ℤ-one, zero-*ℤ}
use Rattle.exact_numbers.specs.Rational.{ℚ, whole, ◌<ℚ◌, over, zero_ℚ, one_ℚ, ◌*ℚ◌, neg_ℚ}
use Rattle.exact_numbers.proofs.Coprimes.{coprime-mul, coprime-pow}
use Rattle.exact_numbers.proofs.Extremes.{absolute_above, absolute_below, power_of-suc, power_of-zero}
use Rattle.exact_numbers.proofs.RationalLaws.{over_lowest, zero_value, over_whole}
use Rattle.exact_numbers.proofs.Values.{own_value, value_le, value_lt}
use Rattle.linear_program.specs.Lines.{constant_line, Line, is_constant, are_constant, constants_of}
use Rattle.nl_model.specs.Faults.{constants_line, operator_fault, operator_line, power_fault, too_wide_unless}
use Rattle.nl_model.specs.declared.fault.Reason.TheVariants.{Nonlinear, RefusedPower, TooWide}
use Rattle.nl_model.specs.Trees.{applied, rule_of}
use Rattle.code_tables.specs.declared.class.OpClass.{OpClass}
use Rattle.code_tables.specs.declared.class.OpClass.TheVariants.{Greatest, Least, Power}
use Rattle.linear_fold.specs.declared.parts.PartialForm.{PartialForm}
use Rattle.linear_fold.specs.InsideOperates.{AreOperands, AreUnbroken, IsOperand, IsUnbroken, IsValueOf, best_class, better_of, part_line}
use Rattle.linear_fold.proofs.Operators.{fault_first}

-- ---- signs
pub top_under : (x : ℚ) → x <ℚ zero_ℚ → x.top <ℤ pos 0
unfolding whole lib.IntN.one
top_under x h = let g = h.crosswise in let e : x.top *ℤ pos 1 ≡ x.top = *ℤ-one x.top in let f = zero-*ℤ (pos x.bottom) in subst₂ (λ a b. a <ℤ b) e f g

top_above : (x : ℚ) → (x <ℚ zero_ℚ → ⊥) → pos 0 ≤ℤ x.top
unfolding whole lib.IntN.one
top_above x n = by x.top refl
  where
    by : (t : ℤ) → x.top ≡ t → pos 0 ≤ℤ t
    by (pos k) e = omega (arith, ints)
    by (negsuc k) e = absurd (n (record { crosswise = subst₂ (λ a b. a <ℤ b) (sym (*ℤ-one x.top)) (sym (zero-*ℤ (pos x.bottom))) (subst (λ t. t <ℤ pos 0) (sym e) (omega (arith, ints))) }))

pub is_above : (r : Bool) (x : ℚ) → (x <ℚ zero_ℚ → r ≡ true) → r ≡ false → pos 0 ≤ℤ x.top
is_above r x f e = top_above x (λ l. (let clash : true ≡ false = sym (f l) ∙ e in cc))

-- what holds of all numbers below 0, and of all from 0 on
under_case : (P : ℤ → Type 0) → ((n : ℕ) → P (negsuc n)) → (t : ℤ) → t <ℤ pos 0 → P t
under_case P f (pos n) h = absurd (omega (arith, ints))
under_case P f (negsuc n) h = f n

above_case : (P : ℤ → Type 0) → ((n : ℕ) → P (pos n)) → (t : ℤ) → pos 0 ≤ℤ t → P t
above_case P f (pos n) h = f n
above_case P f (negsuc n) h = absurd (omega (arith, ints))

-- ---- absolute values
pub absolute_neg : (x : ℚ) → x.top <ℤ pos 0 → neg_ℚ x ≡ absolute_of x
absolute_neg x h = sym (absolute_below x (value_lt (own_value x) (zero_value x.bottom x.above) h))

pub absolute_pos : (x : ℚ) → pos 0 ≤ℤ x.top → x ≡ absolute_of x
absolute_pos x h = sym (absolute_above x (value_le (zero_value x.bottom x.above) (own_value x) h))

-- ---- order
first_where : (b d : Bool) (x y : ℚ) → cond b Less (cond d Greater Equal) ≡ Less → x ≡ (if b then x else y)
first_where true d x y e = refl
first_where false true x y e = cc
first_where false false x y e = cc

second_where : (b d : Bool) (x y : ℚ) → (cond b Less (cond d Greater Equal) ≡ Less → ⊥) → y ≡ (if b then x else y)
second_where true d x y n = absurd (n refl)
second_where false d x y n = refl

pub lesser_second : (x y : ℚ) → order_of y x ≡ Less → y ≡ lesser_of x y
unfolding lesser_of
lesser_second x y e = first_where (is_smaller y x) (is_smaller x y) y x e

pub lesser_first : (x y : ℚ) → (order_of y x ≡ Less → ⊥) → x ≡ lesser_of x y
unfolding lesser_of
lesser_first x y n = second_where (is_smaller y x) (is_smaller x y) y x n

pub greater_second : (x y : ℚ) → order_of x y ≡ Less → y ≡ greater_of x y
unfolding greater_of
greater_second x y e = first_where (is_smaller x y) (is_smaller y x) y x e

pub greater_first : (x y : ℚ) → (order_of x y ≡ Less → ⊥) → x ≡ greater_of x y
unfolding greater_of
greater_first x y n = second_where (is_smaller x y) (is_smaller y x) y x n

chosen_same : (b : Bool) (x : ℚ) → (if b then x else x) ≡ x
chosen_same true x = refl
chosen_same false x = refl

better_same : (b : Bool) (x : ℚ) → better_of b x x ≡ x
unfolding lesser_of greater_of
better_same true x = chosen_same (is_smaller x x) x
better_same false x = chosen_same (is_smaller x x) x

-- ---- powers
pub power_first : (x : ℚ) → power_of x 0 ≡ one_ℚ
power_first x = power_of-zero x

pub power_next : (x : ℚ) (n : ℕ) → power_of x (n + 1) ≡ x *ℚ power_of x n
power_next x n = ap (power_of x) (omega arith) ∙ power_of-suc x n

product_parts : (x y : ℚ) → AreCoprime (unsigned_abs x.top * unsigned_abs y.top) (x.bottom * y.bottom)
    → (unsigned_abs (x *ℚ y).top ≡ unsigned_abs x.top * unsigned_abs y.top) × ((x *ℚ y).bottom ≡ x.bottom * y.bottom)
unfolding ◌*ℚ◌
product_parts x y h =
    let sizes = unsigned_abs-mul x.top y.top in
    let r = over_lowest (x.top *ℤ y.top) (x.bottom * y.bottom) (mul-pos x.above y.above) (subst (λ a. AreCoprime a (x.bottom * y.bottom)) (sym sizes) h) in
    (ap unsigned_abs r.0 ∙ sizes, r.1)

power_parts : (x : ℚ) (n : ℕ) → (unsigned_abs (power_of x n).top ≡ unsigned_abs x.top ^ n) × ((power_of x n).bottom ≡ x.bottom ^ n)
unfolding power_of whole
power_parts x zero = (sym (pow-zero (unsigned_abs x.top)), sym (pow-zero x.bottom))
power_parts x (suc n) =
    let p = power_of x n in
    let r = power_parts x n in
    let a = unsigned_abs x.top in
    let b = x.bottom in
    let first : AreCoprime a (b * b ^ n) = coprime-mul a b (b ^ n) x.lowest (coprime-pow a b n x.lowest) in
    let second : AreCoprime (b * b ^ n) (a * a ^ n) = coprime-mul (b * b ^ n) a (a ^ n) (coprime-swap a (b * b ^ n) first) (coprime-pow (b * b ^ n) a n (coprime-swap a (b * b ^ n) first)) in
    let whole_parts = product_parts x (power_of x n) (subst
    (λ u. AreCoprime (unsigned_abs x.top * u) (x.bottom * (power_of x n).bottom)) (sym r.0)
    (subst (λ v. AreCoprime (unsigned_abs x.top * unsigned_abs x.top ^ n) (x.bottom * v)) (sym r.1)
    (coprime-swap (b * b ^ n) (a * a ^ n) second))) in
    (whole_parts.0 ∙ ap (λ u. a * u) r.0 ∙ sym (pow-succ' a n), whole_parts.1 ∙ ap (λ v. b * v) r.1 ∙ sym (pow-succ' b n))

shrink : (a p m : ℕ) → 0 < a → a * p < m → p < m
shrink zero p m some h = absurd (omega arith)
shrink (suc a) p m some h = (let e : suc a * p ≡ p + a * p = omega arith in omega arith)

size_before : (a n : ℕ) → a ^ suc n < 2 ^ 127 → a ^ n < 2 ^ 127
size_before zero zero h = subst (λ k. k < 2 ^ 127) (sym (pow-zero 0)) (lit< tt)
size_before zero (suc n) h = subst (λ k. k < 2 ^ 127) (sym (zero-mul (0 ^ n)) ∙ sym (pow-succ' 0 n)) (lit< tt)
size_before (suc a) n h = shrink (suc a) (suc a ^ n) (2 ^ 127) (omega arith) (subst (λ k. k < 2 ^ 127) (pow-succ' (suc a) n) h)

bottom_before : (b n : ℕ) → 0 < b → b ^ suc n < 2 ^ 127 → b ^ n < 2 ^ 127
bottom_before b n some h = shrink b (b ^ n) (2 ^ 127) some (subst (λ k. k < 2 ^ 127) (pow-succ' b n) h)

fits_before : (x : ℚ) (n : ℕ) → fits (power_of x (suc n)) ≡ true → fits (power_of x n) ≡ true
fits_before x n e =
    let both = and_parts _ _ e in
    let here = power_parts x n in
    let next = power_parts x (suc n) in
    and_from _ _
    (lt-ltb _ (2 ^ 127) (subst (λ k. k < 2 ^ 127) (sym here.0) (size_before (unsigned_abs x.top) n (subst (λ k. k < 2 ^ 127) next.0 (ltb-true _ (2 ^ 127) both.0)))))
    (lt-ltb _ (2 ^ 127) (subst (λ k. k < 2 ^ 127) (sym here.1) (bottom_before x.bottom n x.above (subst (λ k. k < 2 ^ 127) next.1 (ltb-true _ (2 ^ 127) both.1)))))

wide_more : (x : ℚ) (m d : ℕ) → fits (power_of x m) ≡ false → fits (power_of x (m + d)) ≡ false
wide_more x m zero e = subst (λ k. fits (power_of x k) ≡ false) (omega arith) e
wide_more x m (suc d) e =
    subst (λ k. fits (power_of x k) ≡ false) (omega arith)
    (false_from_ne_true (fits (power_of x (suc (m + d)))) (λ t. (let clash : true ≡ false = sym (fits_before x (m + d) t) ∙ wide_more x m d e in cc)))

pub power_wide : (x : ℚ) (m n : ℕ) (y : ℚ) → m < n → y ≡ power_of x m → fits (x *ℚ y) ≡ false → fits (power_of x n) ≡ false
power_wide x m n y l e w =
    let next : fits (power_of x (suc m)) ≡ false = ap fits (power_of-suc x m ∙ ap (λ z. x *ℚ z) (sym e)) ∙ w in
    let total : suc m + (n - suc m) ≡ n = omega arith in
    subst (λ k. fits (power_of x k) ≡ false) total (wide_more x (suc m) (n - suc m) next)

-- ---- whole parts
pub whole_is : (num z : ℤ) (y : ℚ) → z ≡ num → y ≡ over z 1 → y ≡ whole num
whole_is num z y e f = f ∙ over_whole z ∙ ap whole e

pub whole_fits : (num z : ℤ) → z ≡ num → unsigned_abs num < 2 ^ 127 → fits (over z 1) ≡ false → ⊥
whole_fits num z e small wide =
    let good : fits (over z 1) ≡ true = ap fits (over_whole z ∙ ap whole e) ∙ whole_small num small in
    (let clash : true ≡ false = sym good ∙ wide in cc)

pub floor_above : (x y : ℚ) → pos 0 ≤ℤ x.top → y ≡ whole (pos (unsigned_abs x.top / x.bottom)) → y ≡ floor_of x
unfolding floor_of
floor_above x y h e = e ∙ ap whole (above_case (λ t. pos (unsigned_abs t / x.bottom) ≡ int_div_euclid t (pos x.bottom)) (λ n. refl) x.top h)

pub floor_under : (x y : ℚ) → x.top <ℤ pos 0 → y ≡ whole (negsuc ((unsigned_abs x.top - 1) / x.bottom)) → y ≡ floor_of x
unfolding floor_of
floor_under x y h e =
    e ∙ ap whole (under_case (λ t. negsuc ((unsigned_abs t - 1) / x.bottom) ≡ int_div_euclid t (pos x.bottom)) (λ n. ap (λ k. negsuc (k / x.bottom)) (omega arith)) x.top h)

-- ---- what constants come to
pub made_of : (n : ℕ) (c : OpClass) (ls : List Line) (v : ℚ) → are_constant n ls ≡ true
    → applied (rule_of c) (constants_of ls) ≡ Some v → ((if are_constant n ls then None else Some Nonlinear) ≡ None)
    × (constant_line v ≡ constants_line c ls) × Unit {0}
made_of n c ls v e f = (ap (λ b. if b then None else Some Nonlinear) e, ap (λ o. constant_line (or_zero o)) (sym f), tt)

pub best_made : (b : Bool) (n : ℕ) (ls : List Line) (v : ℚ) → are_constant n ls ≡ true
    → applied (rule_of (best_class b)) (constants_of ls) ≡ Some v
    → (operator_fault n (best_class b) ls ≡ None) × (constant_line v ≡ operator_line n (best_class b) ls) × Unit {0}
best_made true n ls v e f = made_of n Least ls v e f
best_made false n ls v e f = made_of n Greatest ls v e f

pub best_varies : (b : Bool) (n : ℕ) (ls : List Line) → are_constant n ls ≡ false → operator_fault n (best_class b) ls ≡ Some Nonlinear
best_varies true n ls e = ap (λ b. if b then None else Some Nonlinear) e
best_varies false n ls e = ap (λ b. if b then None else Some Nonlinear) e

pub one_made : (n : ℕ) (c : OpClass) (l : Line) (v : ℚ) → true ≡ is_constant n l
    → Some v ≡ applied (rule_of c) (l.constant ∷ []) → ((if are_constant n (l ∷ []) then None else Some Nonlinear) ≡ None)
    × (constant_line v ≡ constants_line c (l ∷ [])) × Unit {0}
one_made n c l v e f = made_of n c (l ∷ []) v (and_from _ _ (sym e) refl) (sym f)

-- ---- the least of many, or the greatest
abbrev pub best_of : Bool → ℚ → List ℚ → ℚ
best_of least x ys = if least then least_of x ys else greatest_of x ys

best_none : (b : Bool) (x : ℚ) → best_of b x [] ≡ x
unfolding least_of greatest_of
best_none true x = refl
best_none false x = refl

best_more : (b : Bool) (x y : ℚ) (ys : List ℚ) → best_of b x (y ∷ ys) ≡ best_of b (better_of b x y) ys
unfolding least_of greatest_of lesser_of greater_of
best_more true x y ys = refl
best_more false x y ys = refl

best_value : (b : Bool) (x : ℚ) (ys : List ℚ) → applied (rule_of (best_class b)) (x ∷ ys) ≡ Some (best_of b x ys)
best_value true x ys = refl
best_value false x ys = refl

pub record Choosing (b : Bool) (first cur : ℚ) (left all : List PartialForm) : Type 0 where
  pub value : best_of b cur (constants_of (map part_line left)) ≡ best_of b first (constants_of (map part_line all))
  pub tests : (n : ℕ) → AreOperands n all → (are_constant n (map part_line left) ≡ are_constant n (map part_line all)) × AreOperands n left
  pub unbroken : AreUnbroken left

pub choosing_init : (b : Bool) (first : ℚ) (fs : List PartialForm) → AreUnbroken fs → Choosing b first first fs fs
choosing_init b first fs h = record { value = refl; tests = λ n z. (refl, z); unbroken = h }

pub unbroken_here : (b : Bool) (first cur : ℚ) (x : PartialForm) (left rest all : List PartialForm) → left ≡ x ∷ rest → Choosing b first cur left all → IsUnbroken x
unbroken_here b first cur x left rest all is h = (subst AreUnbroken is h.unbroken).0

module _ (b : Bool) (first cur new : ℚ) (x : PartialForm) (left rest all : List PartialForm) (is : left ≡ x ∷ rest) (h : Choosing b first cur left all) where
  here : Choosing b first cur (x ∷ rest) all
  here = subst (λ l. Choosing b first cur l all) is h

  pub choosing_more : (v : ℚ) → v ≡ (part_line x).constant → ((n : ℕ) → IsOperand n x → is_constant n (part_line x) ≡ true) → new ≡ better_of b cur v → Choosing b first new rest all
  choosing_more v is_v t e =
      let o = here in
      record {
        value = ap (λ y. best_of b y (constants_of (map part_line rest))) (e ∙ ap (better_of b cur) is_v) ∙ sym (best_more b cur (part_line x).constant (constants_of (map part_line rest))) ∙ o.value;
        tests = λ n z. let r = o.tests n z in (ap (λ q. q && are_constant n (map part_line rest)) (sym (t n r.1.0)) ∙ r.0, r.1.1);
        unbroken = o.unbroken.1;
      }

pub best_found : (b : Bool) (first : ℚ) (v : Frac) (x : PartialForm) (left fs all : List PartialForm) → left ≡ []
    → all ≡ x ∷ fs → first ≡ (part_line x).constant → Choosing b first (frac_value v) left all → (n : ℕ)
    → AreOperands n all → IsValueOf n (best_class b) all (Some v)
best_found b first v x left fs all none is start h n z =
    let k = (part_line x).constant in
    let ks = constants_of (map part_line fs) in
    let o : Choosing b first (frac_value v) [] (x ∷ fs) = subst₂ (Choosing b first (frac_value v)) none is h in
    let value : frac_value v ≡ best_of b k ks = sym (best_none b (frac_value v)) ∙ o.value ∙ best_more b first k ks ∙ ap (λ y. best_of b y ks) (ap (λ y. better_of b y k) start ∙ better_same b k) in
    subst (λ a. IsValueOf n (best_class b) a (Some v)) (sym is) (sym (o.tests n (subst (AreOperands n) is z)).0, best_value b k ks ∙ ap Some (sym value))

pub first_varies : (n : ℕ) (x : PartialForm) (fs all : List PartialForm) → all ≡ x ∷ fs → AreOperands n all
    → ((m : ℕ) → IsOperand m x → is_constant m (part_line x) ≡ false) → are_constant n (map part_line all) ≡ false
first_varies n x fs all is z t =
    ap (λ a. are_constant n (map part_line a)) is ∙ ap (λ b. b && are_constant n (map part_line fs)) (t n (subst (AreOperands n) is z).0)

pub unbroken_first : (x : PartialForm) (fs all : List PartialForm) → all ≡ x ∷ fs → AreUnbroken all → IsUnbroken x
unbroken_first x fs all is h = (subst AreUnbroken is h).0

-- a size below 0 is above 0
pub some_size : (x : ℚ) → x.top <ℤ pos 0 → 0 < unsigned_abs x.top
some_size x h = under_case (λ t. 0 < unsigned_abs t) (λ n. omega arith) x.top h

pub ceiling_is : (x : ℚ) → neg_ℚ (floor_of (neg_ℚ x)) ≡ ceiling_of x
unfolding ceiling_of
ceiling_is x = refl

-- ---- powers
module _ (n : ℕ) (a b : Line) (ca : is_constant n a ≡ true) (cb : is_constant n b ≡ true) where
  both : are_constant n (a ∷ b ∷ []) ≡ true
  both = and_from _ _ ca (and_from _ _ cb refl)

  pub power_refused : (y : ℚ) → y ≡ b.constant → exponent_of y ≡ None → operator_fault n Power (a ∷ b ∷ []) ≡ Some RefusedPower
  power_refused y e x = fault_first _ _ _ both ∙ ap (power_fault a.constant) (ap exponent_of (sym e) ∙ x)

  pub power_too_wide : (x y : ℚ) (k : ℕ) → x ≡ a.constant → y ≡ b.constant → exponent_of y ≡ Some k → fits (power_of x k) ≡ false → operator_fault n Power (a ∷ b ∷ []) ≡ Some TooWide
  power_too_wide x y k d e g w =
      fault_first _ _ _ both ∙ ap (power_fault a.constant) (ap exponent_of (sym e) ∙ g) ∙ ap too_wide_unless (ap (λ z. fits (power_of z k)) (sym d) ∙ w)

  pub power_made : (x y v : ℚ) (k : ℕ) → x ≡ a.constant → y ≡ b.constant → exponent_of y ≡ Some k
      → fits (power_of x k) ≡ true → v ≡ power_of x k → (operator_fault n Power (a ∷ b ∷ []) ≡ None)
      × (constant_line v ≡ operator_line n Power (a ∷ b ∷ [])) × Unit {0}
  power_made x y v k d e g w is = (
    fault_first _ _ _ both ∙ ap (power_fault a.constant) (ap exponent_of (sym e) ∙ g) ∙ ap too_wide_unless (ap (λ z. fits (power_of z k)) (sym d) ∙ w),
    ap constant_line (is ∙ ap (λ z. power_of z k) d) ∙ ap (λ o. constant_line (or_zero o)) (ap (option_map (power_of a.constant)) (sym g ∙ ap exponent_of e)),
    tt,
  )
