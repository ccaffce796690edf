-- Reduced pairs, and which fractions a Frac holds.
use Rattle.std.proofs.Common.{◌≡◌, ℕ, zero, suc, ◌*◌, ◌/◌, ◌^◌, ◌<◌, ◌⊎◌, ◌∙◌, sym, ap, ap₂, refl, arith, ℤ, pos}
use Rattle.std.proofs.Common.{negsuc, ◌+ℤ◌, ◌*ℤ◌, neg_ℤ, unsigned_abs, subst, subst₂, zero-mul, mul-pos, lt_of_le_of_lt}
use Rattle.std.proofs.Common.{div-le_self, mul_assoc, Bool, true, false, int_lt, not, MatchOption, Option, Some, None}
use Rattle.std.proofs.Common.{inr}
use mathlib.Core.Bool.{beq}
use mir.Syntax.{w128}
use borrow.Author.Differences.{same_in}
use Rattle.std.proofs.lemmas.Bool.{cases_lt}
use Rattle.std.proofs.Common.{⊎_elim, ◌≢◌}
use mir.Val.{SFits}
use Rattle.std.proofs.Math.Nat.{eq_of_mul-eq-mul_right}
use Rattle.std.proofs.lemmas.Int.{ints}
use Rattle.std.specs.Int.{IsGcd}
use Rattle.exact_numbers.specs.Divisors.{AreCoprime}
use Rattle.exact_numbers.proofs.Pairs.{Fraction, SameValue, HasFrac, pair, product_of, sum_of, SumFits}
use Rattle.exact_numbers.specs.Fraction.{IsFrac, IsLcm}
use Rattle.exact_numbers.specs.Values.{quotient}
use Rattle.exact_numbers.specs.Rational.{over}
use Rattle.exact_numbers.specs.LowestLemmas.{gcd_of, is_gcd}
use Rattle.exact_numbers.specs.Decimal.{signed}
use Rattle.exact_numbers.proofs.Coprime.{Reduced, same_reduced, Crosswise, crosswise, reduced_by, lcm_by, same_lcm, lcm_over, coprime-swap}
use Rattle.exact_numbers.proofs.Signed.{sizes_of, SameValue-trans, SameValue-sym, sum_times, times_twice}
use Rattle.exact_numbers.proofs.Decimals.{size_of, abs_is, negative_test, is_negative}

pub signed_times : (s : Bool) (x y : ℕ) → signed s x *ℤ pos y ≡ signed s (x * y)
signed_times false x y = refl
signed_times true zero y = ap pos (zero-mul y) ∙ ap (λ n. neg_ℤ (pos n)) (sym (zero-mul y))
signed_times true (suc x) y = refl

module _ (s : Bool) (a b g : ℕ) (r : Reduced a b g) where
  pub reduced_same : (n : ℤ) → n ≡ signed s (a / g) → SameValue (pair n (b / g)) (pair (signed s a) b)
  reduced_same n is =
      let crossed : a / g * b ≡ a * (b / g) = ap (λ x. a / g * x) (sym r.second) ∙ sym (mul_assoc (a / g) (b / g) g) ∙ omega arith ∙ ap (λ x. x * (b / g)) r.first in
      record { equal = ap (λ z. z *ℤ pos b) is ∙ signed_times s (a / g) b ∙ ap (signed s) crossed ∙ sym (signed_times s a (b / g)) }

  pub only_reduced : HasFrac (pair (signed s a) b) → (a / g < 2 ^ 127) × (b / g < 2 ^ 127)
  only_reduced fits =
      let n = fits.num in
      let d = fits.den in
      let frac = fits.frac in
      let sizes : unsigned_abs n * b ≡ a * d = sizes_of n (signed s a) b d fits.same.equal ∙ ap (λ x. x * d) (size_of s a) in
      let crossed : a / g * d ≡ unsigned_abs n * (b / g) = eq_of_mul-eq-mul_right g r.above _ _ (omega (arith, ap (λ x. x * d) r.first, ap (λ x. unsigned_abs n * x) r.second)) in
      let same = same_reduced (a / g) (b / g) (unsigned_abs n) d r.some frac.above r.coprime frac.reduced crossed in
      (subst (λ x. x < 2 ^ 127) (sym same.0) frac.size, subst (λ x. x < 2 ^ 127) (sym same.1) frac.small)

  pub is_frac : (n : ℤ) → n ≡ signed s (a / g) → a / g < 2 ^ 127 → b / g < 2 ^ 127 → IsFrac n (b / g)
  is_frac n is p q =
      let size : unsigned_abs n ≡ a / g = ap unsigned_abs is ∙ size_of s (a / g) in
      record {
        size = subst (λ x. x < 2 ^ 127) (sym size) p;
        above = r.some;
        small = q;
        reduced = subst (λ x. AreCoprime x (b / g)) (sym size) r.coprime;
      }

pub is_frac_neg : (n m : ℤ) (d : ℕ) → IsFrac n d → m ≡ neg_ℤ n → IsFrac m d
is_frac_neg n m d h e =
    let size : unsigned_abs m ≡ unsigned_abs n = omega (arith, ints, abs_is m, abs_is n) in
    record {
      size = subst (λ x. x < 2 ^ 127) (sym size) h.size;
      above = h.above;
      small = h.small;
      reduced = subst (λ x. AreCoprime x d) (sym size) h.reduced;
    }

quotient-signed : (n d : ℤ) → quotient n d ≡ over (signed (not (beq (is_negative n) (is_negative d))) (unsigned_abs n)) (unsigned_abs d)
quotient-signed (pos a) (pos b) = refl
quotient-signed (pos a) (negsuc b) = refl
quotient-signed (negsuc a) (pos b) = refl
quotient-signed (negsuc a) (negsuc b) = refl

-- what `Frac::new` hands on
pub quotient_is : (n d : ℤ) (a b : ℕ) → a ≡ unsigned_abs n → b ≡ unsigned_abs d → over (signed (not (beq (int_lt n (pos 0)) (int_lt d (pos 0)))) a) b ≡ quotient n d
quotient_is n d a b p q =
    ap₂ (λ s t. over (signed (not (beq s t)) a) b) (negative_test n) (negative_test d) ∙ ap₂ (λ x y. over (signed (not (beq (is_negative n) (is_negative d))) x) y) p q ∙ sym (quotient-signed n d)

pub match_with : {T : Type 0} (r : Option T) (b : Bool) (Q : T → Type 0) (D : Type 0) → (D → ⊥)
    → MatchOption r (b ≡ false) (λ f. (b ≡ true) × Q f) → MatchOption r (D ⊎ (b ≡ false))
    (λ f. (D → ⊥) × (b ≡ true) × Q f)
match_with None b Q D n h = inr h
match_with (Some f) b Q D n h = (n, h.0, h.1)

pub signed_product : (m n : ℤ) → m *ℤ n ≡ signed (not (beq (is_negative m) (is_negative n))) (unsigned_abs m * unsigned_abs n)
signed_product (pos a) (pos b) = refl
signed_product (pos a) (negsuc b) = refl
signed_product (negsuc a) (pos b) = refl
signed_product (negsuc a) (negsuc b) = refl

-- a fraction that has the value of a reduced pair fits where that pair does
pub only_coprime : (s : Bool) (n q : ℕ) (x : Fraction) → 0 < q → 0 < x.bottom → AreCoprime n q → SameValue (pair (signed s n) q) x → HasFrac x → (n < 2 ^ 127) × (q < 2 ^ 127)
only_coprime s n q x some bottom coprime h fits =
    let m = fits.num in
    let d = fits.den in
    let frac = fits.frac in
    let value : SameValue (pair (signed s n) q) (pair m d) = SameValue-trans bottom h (SameValue-sym fits.same) in
    let sizes : n * d ≡ unsigned_abs m * q = ap (λ k. k * d) (sym (size_of s n)) ∙ sizes_of (signed s n) m d q value.equal in
    let same = same_reduced n q (unsigned_abs m) d some frac.above coprime frac.reduced sizes in
    (subst (λ k. k < 2 ^ 127) (sym same.0) frac.size, subst (λ k. k < 2 ^ 127) (sym same.1) frac.small)

pub is_frac_signed : (s : Bool) (n q : ℕ) → n < 2 ^ 127 → 0 < q → q < 2 ^ 127 → AreCoprime n q → IsFrac (signed s n) q
is_frac_signed s n q small some few coprime =
    let size = size_of s n in
    record {
      size = subst (λ x. x < 2 ^ 127) (sym size) small;
      above = some;
      small = few;
      reduced = subst (λ x. AreCoprime x q) (sym size) coprime;
    }

-- the product of two fractions, by signs and sizes
pub product_same : (m k : ℤ) (a c b d n q : ℕ) → a ≡ unsigned_abs m → c ≡ unsigned_abs k → Crosswise a b c d n q
    → SameValue (pair (signed (not (beq (int_lt m (pos 0)) (int_lt k (pos 0)))) n) q) (product_of (pair m b) (pair k d))
product_same m k a c b d n q p r w =
    let s = not (beq (int_lt m (pos 0)) (int_lt k (pos 0))) in
    let sign : signed s (a * c) ≡ m *ℤ k = ap₂ (λ x y. signed (not (beq x y)) (a * c)) (negative_test m)
    (negative_test k) ∙ ap₂ (λ x y. signed (not (beq (is_negative m) (is_negative k))) (x * y)) p r
    ∙ sym (signed_product m k) in
    record { equal = signed_times s n (b * d) ∙ ap (signed s) w.same ∙ sym (signed_times s (a * c) q) ∙ ap (λ z. z *ℤ pos q) sign }

-- what `Frac::mul` stands on: its operands are m / b and k / d, of the sizes a and c
pub record Multiplied (m k : ℤ) (a c b d n q : ℕ) : Type 0 where
  pub only : HasFrac (product_of (pair m b) (pair k d)) → (n < 2 ^ 127) × (q < 2 ^ 127)
  pub is_frac : n < 2 ^ 127 → q < 2 ^ 127 → IsFrac (signed (not (beq (int_lt m (pos 0)) (int_lt k (pos 0)))) n) q
  pub same : SameValue (pair (signed (not (beq (int_lt m (pos 0)) (int_lt k (pos 0)))) n) q) (product_of (pair m b) (pair k d))

pub multiplied : (m k : ℤ) (a c b d g h : ℕ) → a ≡ unsigned_abs m → c ≡ unsigned_abs k → IsFrac m b → IsFrac k d
    → IsGcd a d g → IsGcd c b h → Multiplied m k a c b d (a / g * (c / h)) (b / h * (d / g))
multiplied m k a c b d g h p r x y isg ish =
    let s = not (beq (int_lt m (pos 0)) (int_lt k (pos 0))) in
    let ab : AreCoprime a b = subst (λ z. AreCoprime z b) (sym p) x.reduced in
    let cd : AreCoprime c d = subst (λ z. AreCoprime z d) (sym r) y.reduced in
    let w = crosswise a b c d g h x.above y.above ab cd isg ish in
    let value = product_same m k a c b d _ _ p r w in
    record {
      only = only_coprime s _ _ (product_of (pair m b) (pair k d)) w.above (mul-pos x.above y.above) w.coprime value;
      is_frac = λ u v. is_frac_signed s _ _ u w.above v w.coprime;
      same = value;
    }

pub frac_fits : (m : ℤ) (b : ℕ) → IsFrac m b → SFits w128 m
frac_fits (pos n) b h = record { sfits = h.size }
frac_fits (negsuc n) b h = record { sfits = let p = h.size in omega arith }

pub signed_self : (z : ℤ) → signed (int_lt z (pos 0)) (unsigned_abs z) ≡ z
signed_self z = ap (λ s. signed s (unsigned_abs z)) (negative_test z) ∙ by z
  where
    by : (x : ℤ) → signed (is_negative x) (unsigned_abs x) ≡ x
    by (pos n) = refl
    by (negsuc n) = refl

-- the pair of numbers in range is that of a Frac, once it is reduced
pub in_range_fits : (s : Bool) (a b : ℕ) → 0 < b → a < 2 ^ 127 → b < 2 ^ 127 → HasFrac (pair (signed s a) b)
in_range_fits s a b some p q =
    let g = gcd_of a b in
    let r = reduced_by a b g some (is_gcd a b) in
    record {
      num = signed s (a / g);
      den = b / g;
      frac = is_frac s a b g r (signed s (a / g)) refl (lt_of_le_of_lt (div-le_self a g) p) (lt_of_le_of_lt (div-le_self b g) q);
      same = reduced_same s a b g r (signed s (a / g)) refl;
    }

-- what `Frac::add` stands on, where g is the greatest common divisor of the denominators
pub record Added (n : ℤ) (d : ℕ) (k : ℤ) (e g : ℕ) : Type 0 where
  pub above : 0 < d * (e / g)
  pub scale : e / g < 2 ^ 127
  pub other_scale : d / g < 2 ^ 127
  pub only : SumFits n d k e → (d * (e / g) < 2 ^ 127) × (unsigned_abs (n *ℤ pos (e / g)) < 2 ^ 127)
      × (unsigned_abs (k *ℤ pos (d / g)) < 2 ^ 127) × (unsigned_abs (n *ℤ pos (e / g) +ℤ k *ℤ pos (d / g)) < 2 ^ 127)
  pub fits : d * (e / g) < 2 ^ 127 → unsigned_abs (n *ℤ pos (e / g)) < 2 ^ 127
      → unsigned_abs (k *ℤ pos (d / g)) < 2 ^ 127 → unsigned_abs (n *ℤ pos (e / g) +ℤ k *ℤ pos (d / g)) < 2 ^ 127
      → SumFits n d k e
  pub same : SameValue (pair (n *ℤ pos (e / g) +ℤ k *ℤ pos (d / g)) (d * (e / g))) (sum_of (pair n d) (pair k e))

pub added : (n : ℤ) (d : ℕ) (k : ℤ) (e g : ℕ) → IsFrac n d → IsFrac k e → IsGcd d e g → Added n d k e g
added n d k e g x y is =
    record {
      above = mul-pos x.above r.some;
      scale = lt_of_le_of_lt (div-le_self e g) y.small;
      other_scale = lt_of_le_of_lt (div-le_self d g) x.small;
      only = parts;
      fits = λ p q u v. record {
        m = d * (e / g);
        least = lcm_by d e g r;
        denominator = p;
        first = subst (λ s. unsigned_abs (n *ℤ pos s) < 2 ^ 127) (sym over_parts.0) q;
        second = subst (λ s. unsigned_abs (k *ℤ pos s) < 2 ^ 127) (sym over_parts.1) u;
        sum = subst₂ (λ s t. unsigned_abs (n *ℤ pos s +ℤ k *ℤ pos t) < 2 ^ 127) (sym over_parts.0) (sym over_parts.1) v;
      };
      same = record {
        equal =
            sum_times (n *ℤ pos (e / g)) (k *ℤ pos (d / g)) (d * e)
            ∙ ap₂ ◌+ℤ◌ (times_twice n (e / g) (d * e) ∙ ap (λ s. n *ℤ pos s) left ∙ sym (times_twice n e (d * (e / g))))
            (times_twice k (d / g) (d * e) ∙ ap (λ s. k *ℤ pos s) right ∙ sym (times_twice k d (d * (e / g))))
            ∙ sym (sum_times (n *ℤ pos e) (k *ℤ pos d) (d * (e / g)));
      };
    }
  where
    r : Reduced d e g
    r = reduced_by d e g y.above is

    over_parts : (d * (e / g) / d ≡ e / g) × (d * (e / g) / e ≡ d / g)
    over_parts = lcm_over d e g x.above y.above r

    parts : SumFits n d k e → (d * (e / g) < 2 ^ 127) × (unsigned_abs (n *ℤ pos (e / g)) < 2 ^ 127)
        × (unsigned_abs (k *ℤ pos (d / g)) < 2 ^ 127) × (unsigned_abs (n *ℤ pos (e / g) +ℤ k *ℤ pos (d / g)) < 2 ^ 127)
    parts f =
        let m = f.m in
        let same : m ≡ d * (e / g) = same_lcm d e m (d * (e / g)) f.least (lcm_by d e g r) in
        let first : m / d ≡ e / g = ap (λ z. z / d) same ∙ over_parts.0 in
        let second : m / e ≡ d / g = ap (λ z. z / e) same ∙ over_parts.1 in (
          subst (λ z. z < 2 ^ 127) same f.denominator,
          subst (λ s. unsigned_abs (n *ℤ pos s) < 2 ^ 127) first f.first,
          subst (λ s. unsigned_abs (k *ℤ pos s) < 2 ^ 127) second f.second,
          subst₂ (λ s t. unsigned_abs (n *ℤ pos s +ℤ k *ℤ pos t) < 2 ^ 127) first second f.sum,
        )

    left : e / g * (d * e) ≡ e * (d * (e / g))
    left = omega arith

    turned : d / g * e ≡ d * (e / g)
    turned = ap (λ z. d / g * z) (sym r.second) ∙ omega arith ∙ ap (λ z. z * (e / g)) r.first

    right : d / g * (d * e) ≡ d * (d * (e / g))
    right = omega (arith, ap (λ z. d * z) turned)

pub sized_fits : (z : ℤ) → unsigned_abs z < 2 ^ 127 → SFits w128 z
sized_fits (pos n) h = record { sfits = h }
sized_fits (negsuc n) h = record { sfits = omega arith }

pub is_frac_turned : (s : Bool) (n : ℤ) (d a : ℕ) → a ≡ unsigned_abs n → n ≢ pos 0 → IsFrac n d → IsFrac (signed s d) a
is_frac_turned s n d a e some h =
    let size : a < 2 ^ 127 = omega (arith, e, h.size) in
    let live : 0 < a = ⊎_elim (λ l. l) (λ z. absurd (some (let none : unsigned_abs n ≡ 0 = omega (arith, e) in same_in n (pos 0) (omega (arith, abs_is n, none))))) (cases_lt 0 a) in
    is_frac_signed s d a h.small live size (coprime-swap a d (subst (λ x. AreCoprime x d) (sym e) h.reduced))

pub lcm_of : (a b g : ℕ) → 0 < a → 0 < b → IsGcd a b g → IsLcm a b (a * (b / g)) × (0 < a * (b / g))
lcm_of a b g p q is = let r = reduced_by a b g q is in (lcm_by a b g r, mul-pos p r.some)
