-- Decimal numbers as reduced pairs.
use Prim.Native.Nat.{◌∣◌}
use Rattle.std.proofs.Common.{◌≡◌, ◌≢◌, ℕ, zero, suc, ◌+◌, ◌-◌, ◌*◌, ◌/◌, ◌%◌, ◌^◌, ◌<◌, ◌≤◌, ◌⊎◌, ◌∙◌, sym, ap, ap₂}
use Rattle.std.proofs.Common.{refl, arith, ℤ, pos, ◌*ℤ◌, ◌≤ℤ◌, ◌<ℤ◌, unsigned_abs, subst, ⊎_elim, inl, inr, int_lt}
use Rattle.std.proofs.Common.{pow-suc, pow-add, mul_assoc, mul_comm, mul-le-mul_left, mul-pos, add-one, lit<}
use Rattle.std.proofs.Common.{le-mul_of_pos_right, one-mul, lt_of_lt_of_le, lt_of_le_of_lt, lit≤}
use Rattle.std.proofs.Math.Nat.{pow-le-pow_right, pow-zero, one-le-pow, div-add-mod', dvd-mul_left, dvd-mul_right, dvd-mul_right_of_dvd, eq-zero_of_zero-dvd}
use Rattle.std.proofs.lemmas.Bool.{cases_lt}
use Rattle.std.proofs.lemmas.Nat.{mul-pow}
use Rattle.std.proofs.lemmas.Nat.Gcd.{le_of_dvd, mod-eq-zero_of_dvd, dvd_of_mod-eq-zero, dvd_trans}
use Rattle.exact_numbers.specs.Divisors.{AreCoprime}
use Rattle.exact_numbers.proofs.Pairs.{SameValue, HasFrac, pair, scaled}
use Rattle.exact_numbers.specs.Fraction.{IsFrac, IsCofactor}
use Rattle.exact_numbers.specs.Decimal.{signed}
use Rattle.exact_numbers.proofs.Coprime.{coprime-mul, coprime-pow, dvd_other}
use Rattle.exact_numbers.proofs.Signed.{times_twice}
use Rattle.exact_numbers.proofs.Decimals.{abs_is, scaled-bottom}
use Rattle.std.proofs.lemmas.Int.{ints}
use borrow.Author.Differences.{up, down}
use Rattle.exact_numbers.proofs.Fractions.{only_coprime, is_frac_signed, signed_times, signed_self}

pub grown_more : (s f i : ℕ) → s * f ^ i * f ≡ s * f ^ (i + 1)
grown_more s f i = rw add-one (mul_assoc s (f ^ i) f ∙ ap (λ p. s * p) (sym (pow-suc f i)))

pub grown_le : (s f i j : ℕ) → 0 < f → i ≤ j → s * f ^ i ≤ s * f ^ j
grown_le s f i j p h = mul-le-mul_left s (pow-le-pow_right p h)

pub cancelled_more : (n r f t l : ℕ) → 0 < l → l ≤ t → n ≡ r * f ^ (t - l) → r % f ≡ 0 → n ≡ r / f * f ^ (t - (l - 1))
cancelled_more n r f t l p h e ends =
    let split : r ≡ r / f * f = sym (div-add-mod' r f) ∙ omega (arith, ends) in
    let places : suc (t - l) ≡ t - (l - 1) = omega arith in
    e ∙ ap (λ m. m * f ^ (t - l)) split ∙ mul_assoc (r / f) f (f ^ (t - l)) ∙ ap (λ m. r / f * m) (mul_comm f (f ^ (t - l)) ∙ sym (pow-suc f (t - l))) ∙ ap (λ k. r / f * f ^ k) places

-- numbers without a common divisor: one that 2 or 5 does not divide, and a power of that
pub coprime_two : (n : ℕ) → n % 2 ≢ 0 → AreCoprime n 2
coprime_two n odd d p q =
    let small = le_of_dvd (lit< tt) q in
    ⊎_elim (λ one. one) (λ other. ⊎_elim (λ z. absurd (let e : 2 ≡ 0 = eq-zero_of_zero-dvd (subst (λ x. x ∣ 2) z q) in
    omega (arith, e))) (λ two. absurd (odd (mod-eq-zero_of_dvd 2 (subst (λ x. x ∣ n) two p)))) other)
    (cases d small)
  where
    cases : (d : ℕ) → d ≤ 2 → (d ≡ 1) ⊎ ((d ≡ 0) ⊎ (d ≡ 2))
    cases zero h = inr (inl refl)
    cases (suc zero) h = inl refl
    cases (suc (suc zero)) h = inr (inr refl)
    cases (suc (suc (suc k))) h = absurd (omega arith)

pub coprime_five : (n : ℕ) → n % 5 ≢ 0 → AreCoprime n 5
coprime_five n odd d p q = by d (le_of_dvd (lit< tt) q) (mod-eq-zero_of_dvd d q) p q
  where
    by : (d : ℕ) → d ≤ 5 → 5 % d ≡ 0 → d ∣ n → d ∣ 5 → d ≡ 1
    by zero h m p q = absurd (let e : 5 ≡ 0 = eq-zero_of_zero-dvd q in omega (arith, e))
    by (suc zero) h m p q = refl
    by (suc (suc zero)) h m p q = absurd (omega (arith, m))
    by (suc (suc (suc zero))) h m p q = absurd (omega (arith, m))
    by (suc (suc (suc (suc zero)))) h m p q = absurd (omega (arith, m))
    by (suc (suc (suc (suc (suc zero))))) h m p q = absurd (odd (mod-eq-zero_of_dvd 5 p))
    by (suc (suc (suc (suc (suc (suc k)))))) h m p q = absurd (omega arith)

pub coprime-one : (n : ℕ) → AreCoprime n 1
coprime-one n d p q = by d (le_of_dvd (lit< tt) q) q
  where
    by : (d : ℕ) → d ≤ 1 → d ∣ 1 → d ≡ 1
    by zero h q = absurd (let e : 1 ≡ 0 = eq-zero_of_zero-dvd q in omega (arith, e))
    by (suc zero) h q = refl
    by (suc (suc k)) h q = absurd (omega arith)

-- a power of f, where f does not divide n or the power is 1
coprime_left : (n f k : ℕ) → (0 < k → AreCoprime n f) → AreCoprime n (f ^ k)
coprime_left n f zero h = subst (λ x. AreCoprime n x) (sym (pow-zero f)) (coprime-one n)
coprime_left n f (suc k) h = coprime-pow n f (suc k) (h (omega arith))

-- m / 10 ^ k, whose size is n, without the twos and fives that both have
pub record Reduced10 (n k a b rest : ℕ) : Type 0 where
  pub coprime : AreCoprime rest (2 ^ a * 5 ^ b)
  pub above : 0 < 2 ^ a * 5 ^ b
  pub same : rest * 10 ^ k ≡ n * (2 ^ a * 5 ^ b)
  pub small : rest ≤ n

pub reduced10 : (n k a b t rest : ℕ) → a ≤ k → b ≤ k → n ≡ t * 2 ^ (k - a) → t ≡ rest * 5 ^ (k - b) → (0 < a → t % 2 ≢ 0) → (0 < b → rest % 5 ≢ 0) → Reduced10 n k a b rest
reduced10 n k a b t rest p q whole part twos fives =
    record {
      coprime = coprime-mul rest (2 ^ a) (5 ^ b) (coprime_left rest 2 a even) (coprime_left rest 5 b (λ l. coprime_five rest (fives l)));
      above = mul-pos (one-le-pow a 2 (lit< tt)) (one-le-pow b 5 (lit< tt));
      small = omega (arith, part, whole, le-mul_of_pos_right rest (one-le-pow (k - b) 5 (lit< tt)), le-mul_of_pos_right t (one-le-pow (k - a) 2 (lit< tt)));
      same = ap (λ x. rest * x) tens ∙ moved rest (2 ^ (k - a)) (2 ^ a) (5 ^ (k - b)) (5 ^ b) ∙ ap (λ x. x * 2 ^ (k - a) * (2 ^ a * 5 ^ b)) (sym part) ∙ ap (λ x. x * (2 ^ a * 5 ^ b)) (sym whole);
    }
  where
    even : 0 < a → AreCoprime rest 2
    even l = coprime_two rest (λ z. twos l (mod-eq-zero_of_dvd 2 (subst (λ x. 2 ∣ x) (sym part) (dvd-mul_right_of_dvd 2 (dvd_of_mod-eq-zero 2 z) (5 ^ (k - b))))))

    tens : 10 ^ k ≡ 2 ^ (k - a) * 2 ^ a * (5 ^ (k - b) * 5 ^ b)
    tens = mul-pow 2 5 k ∙ ap₂ (λ x y. x * y) (ap (λ j. 2 ^ j) (omega (arith, p)) ∙ pow-add 2 (k - a) a) (ap (λ j. 5 ^ j) (omega (arith, q)) ∙ pow-add 5 (k - b) b)

    moved : (r x y u v : ℕ) → r * (x * y * (u * v)) ≡ r * u * x * (y * v)
    moved r x y u v = omega arith

pub whole_same : (m e : ℤ) (k : ℕ) → up e ≡ k → down e ≡ 0 → SameValue (pair (signed (int_lt m (pos 0)) (unsigned_abs m * 10 ^ k)) 1) (scaled m e)
whole_same m e k p q =
    record {
      equal =
          ap (λ z. z *ℤ pos (10 ^ down e)) (sym (signed_times (int_lt m (pos 0)) (unsigned_abs m) (10 ^ k)) ∙ ap₂ (λ z j. z *ℤ pos (10 ^ j)) (signed_self m) (sym p))
          ∙ ap (λ j. m *ℤ pos (10 ^ up e) *ℤ pos (10 ^ j)) q;
    }

pub part_same : (m e : ℤ) (k a b rest : ℕ) → up e ≡ 0 → down e ≡ k → Reduced10 (unsigned_abs m) k a b rest → SameValue (pair (signed (int_lt m (pos 0)) rest) (2 ^ a * 5 ^ b)) (scaled m e)
part_same m e k a b rest p q r =
    let s = int_lt m (pos 0) in
    let d = 2 ^ a * 5 ^ b in
    record {
      equal =
          ap (λ j. signed s rest *ℤ pos (10 ^ j)) q
          ∙ signed_times s rest (10 ^ k) ∙ ap (signed s) r.same ∙ sym (signed_times s (unsigned_abs m) d)
          ∙ ap (λ z. z *ℤ pos d) (signed_self m)
          ∙ ap (λ x. m *ℤ pos x) (sym (one-mul d)) ∙ sym (times_twice m 1 d)
          ∙ ap (λ j. m *ℤ pos (10 ^ j) *ℤ pos d) (sym p);
    }

-- what `Frac::of_dec` stands on
pub record OfDec (m e : ℤ) (n q : ℕ) : Type 0 where
  pub only : HasFrac (scaled m e) → (n < 2 ^ 127) × (q < 2 ^ 127)
  pub is_frac : n < 2 ^ 127 → q < 2 ^ 127 → IsFrac (signed (int_lt m (pos 0)) n) q
  pub same : SameValue (pair (signed (int_lt m (pos 0)) n) q) (scaled m e)

of_pair : (m e : ℤ) (n q : ℕ) → 0 < q → AreCoprime n q → SameValue (pair (signed (int_lt m (pos 0)) n) q) (scaled m e) → OfDec m e n q
of_pair m e n q some coprime same =
    record {
      only = only_coprime (int_lt m (pos 0)) n q (scaled m e) some (scaled-bottom m e) coprime same;
      is_frac = λ u v. is_frac_signed (int_lt m (pos 0)) n q u some v coprime;
      same = same;
    }

pub of_whole : (m e : ℤ) (k : ℕ) → up e ≡ k → down e ≡ 0 → OfDec m e (unsigned_abs m * 10 ^ k) 1
of_whole m e k p q = of_pair m e _ 1 (lit< tt) (coprime-one _) (whole_same m e k p q)

pub of_part : (m e : ℤ) (k a b rest : ℕ) → up e ≡ 0 → down e ≡ k → Reduced10 (unsigned_abs m) k a b rest → OfDec m e rest (2 ^ a * 5 ^ b)
of_part m e k a b rest p q r = of_pair m e rest (2 ^ a * 5 ^ b) r.above r.coprime (part_same m e k a b rest p q r)

-- from the exponent alone
pub whole_of_dec : (m e : ℤ) → pos 0 ≤ℤ e → OfDec m e (unsigned_abs m * 10 ^ unsigned_abs e) 1
whole_of_dec m e h = let parts = abs_is e in of_whole m e (unsigned_abs e) (omega (arith, ints)) (omega (arith, ints))

-- and from what two calls of `cancel` ensure
pub part_of_dec : (m e : ℤ) (n k a b t rest : ℕ) → e <ℤ pos 0 → n ≡ unsigned_abs m → k ≡ unsigned_abs e → a ≤ k → b ≤ k
    → n ≡ t * 2 ^ (k - a) → t ≡ rest * 5 ^ (k - b) → (0 < a → t % 2 ≢ 0) → (0 < b → rest % 5 ≢ 0)
    → OfDec m e rest (2 ^ a * 5 ^ b) × (rest ≤ unsigned_abs m)
part_of_dec m e n k a b t rest h same size within second whole part twos fives =
    let r = reduced10 n k a b t rest within second whole part twos fives in
    let s : Reduced10 (unsigned_abs m) k a b rest = subst (λ x. Reduced10 x k a b rest) same r in
    let parts = abs_is e in
    (of_part m e k a b rest (omega (arith, ints)) (omega (arith, ints, size)) s, s.small)

pub front_le : (a b : ℕ) → 2 ^ a ≤ 2 ^ a * 5 ^ b
front_le a b = le-mul_of_pos_right (2 ^ a) (one-le-pow b 5 (lit< tt))

-- fewer divisions by f than k are done, where the number is below f ^ k
some_left : (n r f k l : ℕ) → 1 < f → l ≤ k → 0 < n → n < f ^ k → n ≡ r * f ^ (k - l) → 0 < l
some_left n r f k l two h live small e = ⊎_elim (λ p. p) none (cases_lt 0 l)
  where
    none : l ≤ 0 → 0 < l
    none z =
        let all : k - l ≡ k = omega arith in
        let whole : n ≡ r * f ^ k = e ∙ ap (λ j. r * f ^ j) all in
        let some : 0 < r = ⊎_elim (λ p. p) (λ y. absurd (let gone : r ≡ 0 = omega arith in let m = ap (λ x. x * f ^ k) gone in omega (arith, m, whole))) (cases_lt 0 r) in
        absurd (omega (arith, whole, le-mul_of_pos_right (f ^ k) some, mul_comm r (f ^ k)))

pub cofactor_of : (n t c i j : ℕ) → 0 < n → n < 2 ^ 127 → i ≤ 127 → j ≤ 127 → n ≡ t * 2 ^ (127 - i)
    → t ≡ c * 5 ^ (127 - j) → (0 < i → t % 2 ≢ 0) → (0 < j → c % 5 ≢ 0) → IsCofactor n c × (0 < c) × (c ≤ n)
cofactor_of n t c i j live small hi hj whole part twos fives =
    ((divides, coprime-mul c 2 5 even five, greatest), above, below)
  where
    t_above : 0 < t
    t_above = ⊎_elim (λ p. p) (λ y. absurd (let gone : t ≡ 0 = omega arith in let m = ap (λ x. x * 2 ^ (127 - i)) gone in omega (arith, m, whole))) (cases_lt 0 t)

    t_below : t ≤ n
    t_below = omega (arith, whole, le-mul_of_pos_right t (one-le-pow (127 - i) 2 (lit< tt)))

    above : 0 < c
    above = ⊎_elim (λ p. p) (λ y. absurd (let gone : c ≡ 0 = omega arith in let m = ap (λ x. x * 5 ^ (127 - j)) gone in omega (arith, m, part, t_above))) (cases_lt 0 c)

    below : c ≤ n
    below = omega (arith, part, t_below, le-mul_of_pos_right c (one-le-pow (127 - j) 5 (lit< tt)))

    odd : t % 2 ≢ 0
    odd = twos (some_left n t 2 127 i (lit< tt) hi live small whole)

    five : AreCoprime c 5
    five = coprime_five c (fives (some_left t c 5 127 j (lit< tt) hj t_above (lt_of_lt_of_le (lt_of_le_of_lt t_below small) (lit≤ tt)) part))

    even : AreCoprime c 2
    even = coprime_two c (λ z. odd (mod-eq-zero_of_dvd 2 (subst (λ x. 2 ∣ x) (sym part) (dvd-mul_right_of_dvd 2 (dvd_of_mod-eq-zero 2 z) (5 ^ (127 - j))))))

    divides : c ∣ n
    divides = subst (λ x. c ∣ x) (sym whole) (dvd-mul_right_of_dvd c (subst (λ x. c ∣ x) (sym part) (dvd-mul_right c (5 ^ (127 - j)))) (2 ^ (127 - i)))

    greatest : (d : ℕ) → d ∣ n → AreCoprime d 10 → d ∣ c
    greatest d p q =
        let apart : AreCoprime d 2 = λ e r s. q e r (dvd_trans e s (dvd-mul_right 2 5)) in
        let away : AreCoprime d 5 = λ e r s. q e r (dvd_trans e s (dvd-mul_left 5 2)) in
        let within : d ∣ t = dvd_other d (2 ^ (127 - i)) t (coprime-pow d 2 (127 - i) apart) (subst (λ x. d ∣ x) (whole ∙ mul_comm t (2 ^ (127 - i))) p) in
        dvd_other d (5 ^ (127 - j)) c (coprime-pow d 5 (127 - j) away) (subst (λ x. d ∣ x) (part ∙ mul_comm c (5 ^ (127 - j))) within)
