-- A fraction in lowest terms: what is left after a division by the greatest common divisor, which Euclid's steps find.
use Prim.Native.Nat.{◌∣◌}
use Rattle.std.proofs.Common.{◌≡◌, ℕ, zero, suc, ◌+◌, ◌*◌, ◌/◌, ◌%◌, ◌<◌, ◌≤◌, ◌∙◌, sym, ap, refl, arith, subst, ⊎_elim, mul-zero, zero-mul, mul_comm, mul-one, mod-eq_of_lt, one-mul, mod-lt, subst₂, ℤ, pos, negsuc, ◌*ℤ◌, neg_ℤ, unsigned_abs, int_div}
use Rattle.std.proofs.Math.Nat.{div-add-mod, add-mul-mod_self_left, mul-lt-mul_of_pos_left, dvd-mul_left, dvd-mul_right, zero-div, mul-dvd-mul_left, mul-div_cancel', div-mul_cancel, eq-one_of_dvd-one, mul-dvd-mul_right, dvd_of_mul-dvd-mul_right, pos_of_dvd_of_pos, eq_of_mul-eq-mul_right}
use Rattle.std.proofs.lemmas.Bool.{cases_lt}
use Rattle.std.proofs.lemmas.Nat.Gcd.{IsGcd-from_zero, IsGcd-from_mod, dvd_antisymm, dvd-zero}
use Rattle.std.specs.Int.{IsGcd}
use Rattle.exact_numbers.specs.Divisors.{AreCoprime, IsLcm}
use Rattle.exact_numbers.specs.LowestTerms.{ℚ}

-- Euclid's algorithm: the two numbers become the second and the remainder of the first by it, until the second is 0; at most n times
unfoldable pub steps_of_euclid : ℕ → ℕ → ℕ → ℕ
steps_of_euclid zero a b = a
steps_of_euclid (suc n) a zero = a
steps_of_euclid (suc n) a (suc b) = steps_of_euclid n (suc b) (a % suc b)

-- the greatest common divisor; so many steps are always enough
unfoldable pub gcd_of : ℕ → ℕ → ℕ
gcd_of a b = steps_of_euclid b a b

-- a remainder of multiples
mod_scaled : (k a b : ℕ) → 0 < k → 0 < b → (k * a) % (k * b) ≡ k * (a % b)
mod_scaled k a b p q =
    let split : k * a ≡ k * (a % b) + k * b * (a / b) =
    ap (λ n. k * n) (sym (div-add-mod a b)) ∙ omega arith in
    let small : k * (a % b) < k * b = mul-lt-mul_of_pos_left (mod-lt a q) p in
    ap (λ n. n % (k * b)) split ∙ add-mul-mod_self_left (k * (a % b)) (k * b) (a / b)
    ∙ mod-eq_of_lt small

-- the greatest common divisor, also of the multiples by k
record IsScaledGcd (a b g : ℕ) : Type 0 where
  plain : IsGcd a b g
  scaled : (k : ℕ) → 0 < k → IsGcd (k * a) (k * b) (k * g)

steps_are_gcd : (n a b : ℕ) → b ≤ n → IsScaledGcd a b (steps_of_euclid n a b)
unfolding steps_of_euclid
steps_are_gcd zero a zero h =
    record {
      plain = IsGcd-from_zero a 0 refl;
      scaled = λ k p. IsGcd-from_zero (k * a) (k * 0) (mul-zero k);
    }
steps_are_gcd (suc n) a zero h =
    record {
      plain = IsGcd-from_zero a 0 refl;
      scaled = λ k p. IsGcd-from_zero (k * a) (k * 0) (mul-zero k);
    }
steps_are_gcd zero a (suc b) h = absurd (omega arith)
steps_are_gcd (suc n) a (suc b) h =
    let some : 0 < suc b = omega arith in
    let less : a % suc b ≤ n = omega (arith, mod-lt a some) in
    let r = steps_are_gcd n (suc b) (a % suc b) less in
    let g = steps_of_euclid n (suc b) (a % suc b) in
    record {
      plain = IsGcd-from_mod a (suc b) g r.plain;
      scaled =
          λ k p. IsGcd-from_mod (k * a) (k * suc b) (k * g)
          (subst (λ x. IsGcd (k * suc b) x (k * g)) (sym (mod_scaled k a (suc b) p some))
          (r.scaled k p));
    }

is_scaled_gcd : (a b : ℕ) → IsScaledGcd a b (gcd_of a b)
unfolding gcd_of
is_scaled_gcd a b = steps_are_gcd b a b (omega arith)

pub is_gcd : (a b : ℕ) → IsGcd a b (gcd_of a b)
is_gcd a b = (is_scaled_gcd a b).plain

-- a number that divides a product and is coprime to one factor divides the other
pub dvd_other : (d a c : ℕ) → AreCoprime d a → d ∣ a * c → d ∣ c
dvd_other d a zero h q = dvd-zero d
dvd_other d a (suc c) h q =
    let r = is_scaled_gcd a d in
    let one = h (gcd_of a d) r.plain.1 r.plain.0 in
    let g : IsGcd (suc c * a) (suc c * d) (suc c) =
    subst (λ x. IsGcd (suc c * a) (suc c * d) x) (ap (λ x. suc c * x) one ∙ mul-one (suc c))
    (r.scaled (suc c) (omega arith)) in
    g.2 d (subst (λ x. d ∣ x) (mul_comm a (suc c)) q) (dvd-mul_left d (suc c))

pub coprime-swap : (a b : ℕ) → AreCoprime a b → AreCoprime b a
coprime-swap a b h d p q = h d q p

-- two reduced pairs of one value are one pair
pub same_reduced : (a b c d : ℕ) → 0 < b → 0 < d → AreCoprime a b → AreCoprime c d → a * d ≡ c * b
    → (a ≡ c) × (b ≡ d)
same_reduced a b c d p q h k e =
    let first : b ∣ d =
    dvd_other b a d (coprime-swap a b h) (subst (λ x. b ∣ x) (sym e) (dvd-mul_left b c)) in
    let second : d ∣ b =
    dvd_other d c b (coprime-swap c d k) (subst (λ x. d ∣ x) e (dvd-mul_left d a)) in
    let same : b ≡ d = dvd_antisymm first second in
    (eq_of_mul-eq-mul_right d q a c (e ∙ ap (λ x. c * x) same), same)

-- what is left after a division by the greatest common divisor
pub record Reduced (a b g : ℕ) : Type 0 where
  pub above : 0 < g
  pub first : a / g * g ≡ a
  pub second : b / g * g ≡ b
  pub some : 0 < b / g
  pub coprime : AreCoprime (a / g) (b / g)

pub reduced_by : (a b g : ℕ) → 0 < b → IsGcd a b g → Reduced a b g
reduced_by a b g some h =
    let above : 0 < g = pos_of_dvd_of_pos h.1 some in
    let first : a / g * g ≡ a = div-mul_cancel g h.0 in
    let second : b / g * g ≡ b = div-mul_cancel g h.1 in
    record {
      above = above;
      first = first;
      second = second;
      some =
          ⊎_elim (λ l. l)
          (λ z. absurd (let none : b / g ≡ 0 = omega arith in
          let gone = ap (λ x. x * g) none in
          omega (arith, gone)))
          (cases_lt 0 (b / g));
      coprime =
          λ d p q. unit d g above
          (h.2 (d * g) (subst (λ x. d * g ∣ x) first (scaled d (a / g) g p))
          (subst (λ x. d * g ∣ x) second (scaled d (b / g) g q)));
    }
  where
    scaled : (d x g : ℕ) → d ∣ x → d * g ∣ x * g
    scaled d x g p = mul-dvd-mul_right d p g

    unit : (d g : ℕ) → 0 < g → d * g ∣ g → d ≡ 1
    unit d g p q =
        eq-one_of_dvd-one
        (dvd_of_mul-dvd-mul_right d p (subst (λ x. d * g ∣ x) (sym (one-mul g)) q))

pub reduced_lem : (a b : ℕ) → 0 < b → Reduced a b (gcd_of a b)
reduced_lem a b some = reduced_by a b (gcd_of a b) some (is_gcd a b)

pub one_above : {n : ℕ} → 0 < suc n
one_above = omega arith

pub one_coprime : (a : ℕ) → AreCoprime a 1
one_coprime a d p q = eq-one_of_dvd-one q

neg_size : (n : ℕ) → unsigned_abs (neg_ℤ (pos n)) ≡ n
neg_size zero = refl
neg_size (suc n) = refl

pub size-div : (p : ℤ) (g : ℕ) → unsigned_abs (int_div p (pos g)) ≡ unsigned_abs p / g
size-div (pos n) g = refl
size-div (negsuc n) g = neg_size (suc n / g)

crossed : (n q g : ℕ) → Reduced n q g → n / g * q ≡ n * (q / g)
crossed n q g r = ap (λ x. n / g * x) (sym r.second) ∙ omega arith ∙ ap (λ x. x * (q / g)) r.first

pub lowest_above : (p : ℤ) (q : ℕ) → 0 < q → 0 < q / gcd_of (unsigned_abs p) q
lowest_above p q some = (reduced_lem (unsigned_abs p) q some).some

pub lowest_coprime : (p : ℤ) (q : ℕ) → 0 < q
    → AreCoprime (unsigned_abs (int_div p (pos (gcd_of (unsigned_abs p) q))))
    (q / gcd_of (unsigned_abs p) q)
lowest_coprime p q some =
    let g = gcd_of (unsigned_abs p) q in
    subst (λ n. AreCoprime n (q / g)) (sym (size-div p g))
    (reduced_lem (unsigned_abs p) q some).coprime

-- ---- p / q in lowest terms
pub negative_times : (m b : ℕ) → neg_ℤ (pos m) *ℤ pos b ≡ neg_ℤ (pos (m * b))
negative_times zero b = ap pos (omega arith) ∙ ap (λ n. neg_ℤ (pos n)) (sym (zero-mul b))
negative_times (suc m) b = refl

pub over_crosswise : (p : ℤ) (q : ℕ) → 0 < q → int_div p (pos (gcd_of (unsigned_abs p) q)) *ℤ pos q ≡ p *ℤ pos (q / gcd_of (unsigned_abs p) q)
over_crosswise (pos n) q some = ap pos (crossed n q (gcd_of n q) (reduced_lem n q some))
over_crosswise (negsuc n) q some =
    let g = gcd_of (suc n) q in
    negative_times (suc n / g) q ∙ ap (λ m. neg_ℤ (pos m)) (crossed (suc n) q g (reduced_lem (suc n) q some))

-- there is such a number
abbrev pub lowest_terms : (p : ℤ) (q : ℕ) → (x : ℚ) × (x.top *ℤ pos (suc q) ≡ p *ℤ pos x.bottom)
lowest_terms p q = (
  record {
    top = int_div p (pos (gcd_of (unsigned_abs p) (suc q)));
    bottom = suc q / gcd_of (unsigned_abs p) (suc q);
    above = lowest_above p (suc q) one_above;
    lowest = lowest_coprime p (suc q) one_above;
  },
  over_crosswise p (suc q) one_above,
)

-- ---- least common multiples
pub lcm_by : (a b g : ℕ) → Reduced a b g → IsLcm a b (a * (b / g))
lcm_by a b g r =
    let turned : a * (b / g) ≡ a / g * b = ap (λ x. x * (b / g)) (sym r.first) ∙ omega arith ∙ ap (λ x. a / g * x) r.second in
    (dvd-mul_right a (b / g), subst (λ x. b ∣ x) (sym turned) (dvd-mul_left b (a / g)), least)
  where
    least : (k : ℕ) → a ∣ k → b ∣ k → a * (b / g) ∣ k
    least k p q =
        let split : a * (k / a) ≡ k = mul-div_cancel' a p in
        let within : b / g * g ∣ a / g * (k / a) * g = subst₂ (λ x y. x ∣ y) (sym r.second) (sym split ∙ ap (λ x. x * (k / a)) (sym r.first) ∙ omega arith) q in
        let left : b / g ∣ a / g * (k / a) = dvd_of_mul-dvd-mul_right (b / g) r.above within in
        subst (λ x. a * (b / g) ∣ x) split (mul-dvd-mul_left (b / g) a (dvd_other (b / g) (a / g) (k / a) (coprime-swap (a / g) (b / g) r.coprime) left))

pub lcm_is : (a b : ℕ) → IsLcm a b (a * (b / gcd_of a b))
lcm_is a zero = subst (λ m. IsLcm a 0 m) (sym (ap (λ n. a * n) (zero-div (gcd_of a 0)) ∙ mul-zero a)) (dvd-zero a, dvd-zero 0, λ k p q. q)
lcm_is a (suc b) = lcm_by a (suc b) (gcd_of a (suc b)) (reduced_lem a (suc b) (omega arith))

-- there is a least common multiple
abbrev pub a_least_multiple : (a b : ℕ) → (m : ℕ) × IsLcm a b m
a_least_multiple a b = (a * (b / gcd_of a b), lcm_is a b)
