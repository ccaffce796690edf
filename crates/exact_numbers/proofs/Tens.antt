-- Numbers times powers of ten.
use Rattle.std.proofs.Common.{◌≡◌, ◌≢◌, ℕ, suc, ◌+◌, ◌-◌, ◌*◌, ◌/◌, ◌%◌, ◌^◌, ◌<◌, ◌≤◌, ◌∙◌, sym, ap, add-one, arith}
use Rattle.std.proofs.Common.{⊎_elim, pow-add, pow-suc, mul_assoc, mul_comm, le_antisymm, le-mul_of_pos_right, lit<}
use Rattle.std.proofs.Math.Nat.{one-le-pow, pow-le-pow_right, eq_of_mul-eq-mul_right, mul-le-mul_right, mul-mod_left, div-add-mod'}
use Rattle.std.proofs.lemmas.Bool.{cases_lt}

pub ten-pos : (k : ℕ) → 0 < 10 ^ k
ten-pos k = one-le-pow k 10 (lit< tt)

-- where b does not end in 0, its zeros are all that it has
pub zeros-le : (a b i j : ℕ) → b % 10 ≢ 0 → a * 10 ^ i ≡ b * 10 ^ j → i ≤ j
zeros-le a b i j odd e =
    ⊎_elim (λ l. absurd (more l)) (λ g. g) (cases_lt j i)
  where
    more : j < i → ⊥
    more l =
        let k = i - suc j in
        let split : i ≡ suc k + j = omega arith in
        let grown : a * 10 ^ i ≡ (a * 10 ^ k * 10) * 10 ^ j = ap (λ n. a * 10 ^ n) split ∙ ap (λ n. a * n) (pow-add 10 (suc k) j) ∙ ap (λ n. a * (n * 10 ^ j)) (pow-suc 10 k) ∙ omega arith in
        let same : b ≡ a * 10 ^ k * 10 = eq_of_mul-eq-mul_right (10 ^ j) (ten-pos j) _ _ (sym e ∙ grown) in
        odd (ap (λ n. n % 10) same ∙ mul-mod_left (a * 10 ^ k) 10)

-- a number is in one way a number that does not end in 0, times a power of ten
pub same_shortest : (a b i j : ℕ) → a % 10 ≢ 0 → b % 10 ≢ 0 → a * 10 ^ i ≡ b * 10 ^ j → (a ≡ b) × (i ≡ j)
same_shortest a b i j p q e =
    let same : i ≡ j = le_antisymm (zeros-le a b i j q e) (zeros-le b a j i p (sym e)) in
    (eq_of_mul-eq-mul_right (10 ^ j) (ten-pos j) a b (ap (λ n. a * 10 ^ n) (sym same) ∙ e), same)

-- one more zero taken off
pub strip_more : (n r z : ℕ) → n ≡ r * 10 ^ z → r % 10 ≡ 0 → n ≡ r / 10 * 10 ^ (z + 1)
strip_more n r z e ends =
    let split : r ≡ r / 10 * 10 = sym (div-add-mod' r 10) ∙ omega (arith, ends) in
    rw add-one (e ∙ ap (λ m. m * 10 ^ z) split ∙ mul_assoc (r / 10) 10 (10 ^ z) ∙ ap (λ m. r / 10 * m) (mul_comm 10 (10 ^ z) ∙ sym (pow-suc 10 z)))

pub few_zeros : (n r z k : ℕ) → 0 < r → n ≡ r * 10 ^ z → n < 10 ^ k → z < k
few_zeros n r z k p e small = ⊎_elim (λ l. l) (λ g. absurd (tall g)) (cases_lt z k)
  where
    tall : k ≤ z → ⊥
    tall g =
        let up : 10 ^ k ≤ 10 ^ z = pow-le-pow_right (lit< tt) g in
        let wide : 10 ^ z ≤ 10 ^ z * r = le-mul_of_pos_right (10 ^ z) p in
        omega (arith, mul_comm r (10 ^ z))

-- where a number has room for the digits from place i on, it has room for one, and then for those that follow
one_less : (i most : ℕ) → i < most → 10 ^ (most - i) ≡ 10 ^ (most - (i + 1)) * 10
one_less i most more = ap (λ k. 10 ^ k) (omega (arith, more)) ∙ pow-suc 10 (most - (i + 1))

pub room_for_one : (n i most limit : ℕ) → i < most → (n + 1) * 10 ^ (most - i) ≤ limit → (n + 1) * 10 ≤ limit
room_for_one n i most limit more room =
    let wide : (n + 1) * 10 ≤ (n + 1) * 10 * 10 ^ (most - (i + 1)) = le-mul_of_pos_right ((n + 1) * 10) (ten-pos (most - (i + 1))) in
    omega (arith, ap (λ p. (n + 1) * p) (one_less i most more))

pub room_left : (n d i most limit : ℕ) → d < 10 → i < most → (n + 1) * 10 ^ (most - i) ≤ limit → (n * 10 + d + 1) * 10 ^ (most - (i + 1)) ≤ limit
room_left n d i most limit digit more room =
    let up : (n * 10 + d + 1) * 10 ^ (most - (i + 1)) ≤ (n + 1) * 10 * 10 ^ (most - (i + 1)) = mul-le-mul_right (10 ^ (most - (i + 1))) (omega arith) in
    omega (arith, ap (λ p. (n + 1) * p) (one_less i most more))
