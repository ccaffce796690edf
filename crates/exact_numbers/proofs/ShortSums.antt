-- Sums that are reduced by what their denominators have in common, and products of bounded sizes.
use Prim.Native.Nat.{◌∣◌}
use Rattle.std.proofs.Common.{◌≡◌, ℕ, ◌+◌, ◌*◌, ◌/◌, ◌<◌, ◌≤◌, ◌^◌, ◌⊎◌, inl, inr, ⊎_elim, ◌∙◌, sym, ap, arith, subst}
use Rattle.std.proofs.Common.{lit≤, lt_of_le_of_lt, lt_of_lt_of_le, div-le_self, subst₂, int_lt, not, true, refl, suc}
use Rattle.std.proofs.Common.{ℤ, pos, negsuc, ◌+ℤ◌, ◌*ℤ◌, unsigned_abs}
use mathlib.Core.Bool.{beq}
use Rattle.std.proofs.Math.Nat.{dvd-mul_left, dvd-mul_right, dvd-add, dvd-add_iff_right, one-dvd, mul-div_cancel_left, div-mul_cancel}
use Rattle.std.proofs.lemmas.Nat.Gcd.{dvd_refl, dvd_trans}
use Rattle.std.proofs.Math.IntN.{*ℤ-one}
use Rattle.std.proofs.lemmas.Nat.{mul-lt}
use Rattle.std.proofs.lemmas.Int.{ints, unsigned_abs-mul}
use Rattle.std.specs.Int.{IsGcd}
use Rattle.exact_numbers.specs.Divisors.{AreCoprime}
use Rattle.exact_numbers.specs.Fraction.{IsFrac}
use Rattle.exact_numbers.specs.Decimal.{signed}
use Rattle.exact_numbers.proofs.Pairs.{SameValue, SumFits, pair, scaled, sum_of, product_of}
use Rattle.exact_numbers.proofs.Signed.{SameValue-trans}
use Rattle.exact_numbers.specs.Values.{frac_value, fits, sum_fits}
use Rattle.exact_numbers.specs.declared.frac.Frac.{Frac}
use Rattle.exact_numbers.specs.Rational.{◌+ℚ◌, ◌*ℚ◌}
use Rattle.exact_numbers.proofs.Bridge.{sum_fits_in, sum_is, product_is, fitting}
use Rattle.exact_numbers.proofs.Decimals.{abs_is}
use Rattle.exact_numbers.proofs.Fractions.{added, multiplied, is_frac, reduced_same, signed_self}
use Rattle.exact_numbers.proofs.Coprime.{Reduced, reduced_by, coprime-mul, dvd_other}
use borrow.Author.Differences.{up, down}

pub one_gcd : (a b : ℕ) → (a ≡ 1) ⊎ (b ≡ 1) → IsGcd a b 1
one_gcd a b h = (one-dvd a, one-dvd b, λ d p q. ⊎_elim (λ e. subst (λ n. d ∣ n) e p) (λ e. subst (λ n. d ∣ n) e q) h)

-- the size of a difference
across : (a b : ℕ) (z : ℤ) → up z + b ≡ down z + a → (a ≡ unsigned_abs z + b) ⊎ (b ≡ a + unsigned_abs z)
across a b (pos n) h = inl (omega arith)
across a b (negsuc n) h = inr (omega arith)

-- a divisor of a sum and of one part divides the other
sizes_split : (x y : ℤ) → (unsigned_abs (x +ℤ y) ≡ unsigned_abs x + unsigned_abs y) ⊎
    ((unsigned_abs x ≡ unsigned_abs (x +ℤ y) + unsigned_abs y) ⊎
    (unsigned_abs y ≡ unsigned_abs x + unsigned_abs (x +ℤ y)))
sizes_split (pos a) (pos b) = inl refl
sizes_split (negsuc a) (negsuc b) = inl (omega arith)
sizes_split (pos a) (negsuc b) = inr (across a (suc b) (pos a +ℤ negsuc b) (omega (arith, ints)))
sizes_split (negsuc a) (pos b) = inr (⊎_elim (λ e. inr (e ∙ omega arith)) (λ e. inl (e ∙ omega arith)) (across b (suc a) (negsuc a +ℤ pos b) (omega (arith, ints))))

divides_first : (p : ℕ) (x y : ℤ) → p ∣ unsigned_abs (x +ℤ y) → p ∣ unsigned_abs y → p ∣ unsigned_abs x
divides_first p x y s t =
    ⊎_elim
    (λ e. (dvd-add_iff_right p t).1 (subst (λ n. p ∣ n) (e ∙ omega arith) s))
    (λ h. ⊎_elim (λ e. subst (λ n. p ∣ n) (sym e) (dvd-add p s t)) (λ e. (dvd-add_iff_right p s).1 (subst (λ n. p ∣ n) (e ∙ omega arith) t)) h)
    (sizes_split x y)

divides_second : (p : ℕ) (x y : ℤ) → p ∣ unsigned_abs (x +ℤ y) → p ∣ unsigned_abs x → p ∣ unsigned_abs y
divides_second p x y s t =
    ⊎_elim
    (λ e. (dvd-add_iff_right p t).1 (subst (λ n. p ∣ n) e s))
    (λ h. ⊎_elim (λ e. (dvd-add_iff_right p s).1 (subst (λ n. p ∣ n) e t)) (λ e. subst (λ n. p ∣ n) (sym e) (dvd-add p t s)) h)
    (sizes_split x y)

size_times : (n : ℤ) (k : ℕ) → unsigned_abs (n *ℤ pos k) ≡ unsigned_abs n * k
size_times n k = unsigned_abs-mul n (pos k)

-- n / d + k / e, where g is the greatest common divisor of d and e
module _ (n : ℤ) (d : ℕ) (k : ℤ) (e g : ℕ) (x : IsFrac n d) (y : IsFrac k e) (is : IsGcd d e g) where
  r : Reduced d e g
  r = reduced_by d e g y.above is

  abbrev top : ℕ
  top = unsigned_abs (n *ℤ pos (e / g) +ℤ k *ℤ pos (d / g))

  divisor_of : (a : ℕ) → a / g * g ≡ a → a / g ∣ a
  divisor_of a h = subst (λ z. a / g ∣ z) h (dvd-mul_right (a / g) g)

  -- the top has nothing in common with what is left of either denominator
  apart_first : AreCoprime top (d / g)
  apart_first p s t =
      let within : p ∣ unsigned_abs (k *ℤ pos (d / g)) = subst (λ z. p ∣ z) (sym (size_times k (d / g))) (dvd_trans p t (dvd-mul_left (d / g) (unsigned_abs k))) in
      let first : p ∣ unsigned_abs n * (e / g) = subst (λ z. p ∣ z) (size_times n (e / g)) (divides_first p (n *ℤ pos (e / g)) (k *ℤ pos (d / g)) s within) in
      let num : AreCoprime p (unsigned_abs n) = λ q u v. x.reduced q v (dvd_trans q u (dvd_trans p t (divisor_of d r.first))) in
      let scale : AreCoprime p (e / g) = λ q u v. r.coprime q (dvd_trans q u t) v in
      coprime-mul p (unsigned_abs n) (e / g) num scale p (dvd_refl p) first

  apart_second : AreCoprime top (e / g)
  apart_second p s t =
      let within : p ∣ unsigned_abs (n *ℤ pos (e / g)) = subst (λ z. p ∣ z) (sym (size_times n (e / g))) (dvd_trans p t (dvd-mul_left (e / g) (unsigned_abs n))) in
      let second : p ∣ unsigned_abs k * (d / g) = subst (λ z. p ∣ z) (size_times k (d / g)) (divides_second p (n *ℤ pos (e / g)) (k *ℤ pos (d / g)) s within) in
      let num : AreCoprime p (unsigned_abs k) = λ q u v. y.reduced q v (dvd_trans q u (dvd_trans p t (divisor_of e r.second))) in
      let scale : AreCoprime p (d / g) = λ q u v. r.coprime q v (dvd_trans q u t) in
      coprime-mul p (unsigned_abs k) (d / g) num scale p (dvd_refl p) second

  parts : d * (e / g) ≡ d / g * (e / g * g)
  parts = ap (λ z. z * (e / g)) (sym r.first) ∙ omega arith

  -- so what the sum has in common with the least common denominator, it has with g
  pub sum_gcd : (h : ℕ) → IsGcd top g h → IsGcd top (d * (e / g)) h
  sum_gcd h w = (w.0, dvd_trans h w.1 (subst (λ z. g ∣ z) (sym parts) (dvd_trans g (dvd-mul_left g (e / g)) (dvd-mul_left (e / g * g) (d / g)))), greatest)
    where
      greatest : (q : ℕ) → q ∣ top → q ∣ d * (e / g) → q ∣ h
      greatest q s t =
          let rest : q ∣ e / g * g = dvd_other q (d / g) (e / g * g) (λ p u v. apart_first p (dvd_trans p u s) v) (subst (λ z. q ∣ z) parts t) in
          w.2 q s (dvd_other q (e / g) g (λ p u v. apart_second p (dvd_trans p u s) v) rest)

  pub sum_bottom : (h : ℕ) → 0 < h → h ∣ g → d / g * (e / h) ≡ d * (e / g) / h
  sum_bottom h some w =
      let up : g / h * h ≡ g = div-mul_cancel h w in
      let second : e ≡ h * (e / g * (g / h)) = sym r.second ∙ ap (λ z. e / g * z) (sym up) ∙ omega arith in
      let both : d * (e / g) ≡ h * (d / g * (e / g * (g / h))) = parts ∙ ap (λ z. d / g * (e / g * z)) (sym up) ∙ omega arith in
      ap (λ z. d / g * z) (ap (λ z. z / h) second ∙ mul-div_cancel_left (e / g * (g / h)) some)
      ∙ sym (ap (λ z. z / h) both ∙ mul-div_cancel_left (d / g * (e / g * (g / h))) some)

-- what `Frac::add_short` stands on: z is the sum over the least common denominator
pub record ShortSum (n : ℤ) (d : ℕ) (k : ℤ) (e : ℕ) (s : ℤ) (v : ℕ) : Type 0 where
  pub fits : SumFits n d k e
  pub frac : IsFrac s v
  pub same : SameValue (pair s v) (sum_of (pair n d) (pair k e))

pub short_sum : (n : ℤ) (d : ℕ) (k : ℤ) (e g h : ℕ) (z : ℤ) (u v : ℕ) → IsFrac n d → IsFrac k e → d < 2 ^ 63
    → e < 2 ^ 63 → unsigned_abs (n *ℤ pos (e / g)) < 2 ^ 126 → unsigned_abs (k *ℤ pos (d / g)) < 2 ^ 126 → IsGcd d e g
    → z ≡ n *ℤ pos (e / g) +ℤ k *ℤ pos (d / g) → IsGcd (unsigned_abs z) g h → u ≡ unsigned_abs z / h → v ≡ d / g * (e / h)
    → ShortSum n d k e (signed (int_lt z (pos 0)) u) v
short_sum n d k e g h z u v x y ds es first second is sum isg us vs =
    let w = added n d k e g x y is in
    let lcm = d * (e / g) in
    let top = unsigned_abs z in
    let least : IsGcd top lcm h = subst (λ t. IsGcd (unsigned_abs t) lcm h) (sym sum) (sum_gcd n d k e g x y is h (subst (λ t. IsGcd (unsigned_abs t) g h) sum isg)) in
    let r = reduced_by top lcm h w.above least in
    let bottom : v ≡ lcm / h = vs ∙ sum_bottom n d k e g x y is h r.above isg.1 in
    let scale : e / g < 2 ^ 63 = lt_of_le_of_lt (div-le_self e g) es in
    let wide : lcm < 2 ^ 127 = lt_of_lt_of_le (mul-lt d (e / g) (2 ^ 63) (2 ^ 63) ds scale) (lit≤ tt) in
    let whole : unsigned_abs z < 2 ^ 127 = omega (arith, ints, sum, abs_is z, abs_is (n *ℤ pos (e / g)), abs_is (k *ℤ pos (d / g))) in
    let small : u < 2 ^ 127 = subst (λ t. t < 2 ^ 127) (sym us) (lt_of_le_of_lt (div-le_self top h) whole) in
    let few : lcm / h < 2 ^ 127 = lt_of_le_of_lt (div-le_self lcm h) wide in
    let s = signed (int_lt z (pos 0)) u in
    let top_is : s ≡ signed (int_lt z (pos 0)) (top / h) = ap (signed (int_lt z (pos 0))) us in
    let value : SameValue (pair s v) (pair z lcm) =
    subst₂ (λ m t. SameValue (pair s m) (pair t lcm)) (sym bottom) (signed_self z) (reduced_same (int_lt z (pos 0)) top lcm h r s top_is) in
    record {
      fits = w.fits wide (omega (arith, first)) (omega (arith, second)) (subst (λ t. unsigned_abs t < 2 ^ 127) sum whole);
      frac = subst (λ m. IsFrac s m) (sym bottom) (is_frac (int_lt z (pos 0)) top lcm h r s top_is (subst (λ t. t < 2 ^ 127) us small) few);
      same = SameValue-trans w.above value (subst (λ t. SameValue (pair t lcm) (sum_of (pair n d) (pair k e))) (sym sum) w.same);
    }

-- what `Frac::mul_short` stands on
pub record ShortProduct (m : ℤ) (b : ℕ) (k : ℤ) (d : ℕ) (s : ℤ) (q : ℕ) : Type 0 where
  pub frac : IsFrac s q
  pub same : SameValue (pair s q) (product_of (pair m b) (pair k d))

pub short_product : (m : ℤ) (b : ℕ) (k : ℤ) (d a c g h n q : ℕ) → IsFrac m b → IsFrac k d → b < 2 ^ 63 → d < 2 ^ 63
    → a ≤ 2 ^ 63 → c ≤ 2 ^ 63 → a ≡ unsigned_abs m → c ≡ unsigned_abs k → IsGcd a d g → IsGcd c b h → n ≡ a / g * (c / h)
    → q ≡ b / h * (d / g) → ShortProduct m b k d (signed (not (beq (int_lt m (pos 0)) (int_lt k (pos 0)))) n) q
short_product m b k d a c g h n q x y bs ds al cl p r isg ish ns qs =
    let w = multiplied m k a c b d g h p r x y isg ish in
    let s = not (beq (int_lt m (pos 0)) (int_lt k (pos 0))) in
    let first : a / g < 2 ^ 63 + 1 = lt_of_le_of_lt (div-le_self a g) (omega (arith, al)) in
    let second : c / h < 2 ^ 63 + 1 = lt_of_le_of_lt (div-le_self c h) (omega (arith, cl)) in
    let top : a / g * (c / h) < 2 ^ 127 = lt_of_lt_of_le (mul-lt (a / g) (c / h) (2 ^ 63 + 1) (2 ^ 63 + 1) first second) (lit≤ tt) in
    let bottom : b / h * (d / g) < 2 ^ 127 = lt_of_lt_of_le (mul-lt (b / h) (d / g) (2 ^ 63) (2 ^ 63) (lt_of_le_of_lt (div-le_self b h) bs) (lt_of_le_of_lt (div-le_self d g) ds)) (lit≤ tt) in
    record {
      frac = subst₂ (λ i j. IsFrac (signed s i) j) (sym ns) (sym qs) (w.is_frac top bottom);
      same = subst₂ (λ i j. SameValue (pair (signed s i) j) (product_of (pair m b) (pair k d))) (sym ns) (sym qs) w.same;
    }

-- the same of the numbers that the parts were read of
pub sum_read : {n m k j : ℤ} {d b e c : ℕ} {s : ℤ} {v : ℕ} → n ≡ m → d ≡ b → k ≡ j → e ≡ c → ShortSum n d k e s v → ShortSum m b j c s v
sum_read {m = m} {k = k} {b = b} {e = e} {s = s} {v = v} p q r t w = subst₂ (λ x y. ShortSum m b x y s v) r t (subst₂ (λ x y. ShortSum x y k e s v) p q w)

pub product_read : {n m k j : ℤ} {d b e c : ℕ} {s : ℤ} {v : ℕ} → n ≡ m → d ≡ b → k ≡ j → e ≡ c → ShortProduct n d k e s v → ShortProduct m b j c s v
product_read {m = m} {k = k} {b = b} {e = e} {s = s} {v = v} p q r t w = subst₂ (λ x y. ShortProduct m b x y s v) r t (subst₂ (λ x y. ShortProduct x y k e s v) p q w)

-- the answers, where f is the pair that was found for x and y
pub sum_found : (f x y : Frac) (s : ℤ) (v : ℕ) → f.num ≡ s → f.den ≡ v → ShortSum x.num x.den y.num y.den s v
    → (sum_fits (frac_value x) (frac_value y) ≡ true) × (frac_value f ≡ frac_value x +ℚ frac_value y)
sum_found f x y s v i j w =
    let whole = subst₂ (λ a b. ShortSum x.num x.den y.num y.den a b) (sym i) (sym j) w in
    (sum_fits_in (frac_value x) (frac_value y) whole.fits, (fitting f _ _ (sum_is (frac_value x) (frac_value y)) whole.same).1)

pub product_found : (f x y : Frac) (s : ℤ) (q : ℕ) → f.num ≡ s → f.den ≡ q → ShortProduct x.num x.den y.num y.den s q
    → (fits (frac_value x *ℚ frac_value y) ≡ true) × (frac_value f ≡ frac_value x *ℚ frac_value y)
product_found f x y s q i j w = fitting f _ _ (product_is (frac_value x) (frac_value y)) (subst₂ (λ a b. ShortProduct x.num x.den y.num y.den a b) (sym i) (sym j) w).same

-- a decimal number with the exponent 0
pub whole_same : (m e : ℤ) → e ≡ pos 0 → SameValue (pair m 1) (scaled m e)
unfolding lib.IntN.one
whole_same m e z =
    subst (λ x. SameValue (pair m 1) (scaled m x)) (sym z) (record { equal = sym (*ℤ-one (m *ℤ pos (10 ^ 0))) })
