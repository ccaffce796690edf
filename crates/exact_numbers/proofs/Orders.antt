-- Orders of products.
use Rattle.std.proofs.Common.{◌≡◌, ◌≢◌, ℕ, suc, ◌+◌, ◌*◌, ◌/◌, ◌%◌, ◌<◌, ◌≤◌, ◌⊎◌, ◌∙◌, sym, ap, ap₂, refl, arith}
use Rattle.std.proofs.Common.{⊎_elim, Less, Equal, Greater, nat_cmp, int_cmp, int_lt, ℤ, pos, negsuc, ◌*ℤ◌, ◌<ℤ◌, ◌≤ℤ◌}
use Rattle.std.proofs.Common.{true, false, cond, unsigned_abs, mul-lt-mul_of_pos_right, mul-le-mul_right, mod-lt}
use Rattle.std.proofs.Common.{div-add-mod', mul_comm, mul_assoc, pow-add, ◌^◌}
use Rattle.std.proofs.lemmas.Bool.{cases_order}
use Rattle.std.proofs.lemmas.Int.{ints}
use Rattle.exact_numbers.proofs.Decimals.{abs_is}
use Rattle.exact_numbers.proofs.Tens.{ten-pos}
use Rattle.exact_numbers.proofs.Signed.{up_times, down_times}
use borrow.Author.Differences.{up, down}
use Rattle.std.proofs.lemmas.Bool.Decides.{nat_tests}

pub less : (x y : ℕ) → x < y → nat_cmp x y ≡ Less
less x y h = grind (arith, nat_tests)

pub greater : (x y : ℕ) → y < x → nat_cmp x y ≡ Greater
greater x y h = grind (arith, nat_tests)

pub equal : (x y : ℕ) → x ≡ y → nat_cmp x y ≡ Equal
equal x y h = grind (arith, nat_tests)

-- one order, where both pairs have it
alike : (x y u v : ℕ) → (x < y → u < v) → (x ≡ y → u ≡ v) → (y < x → v < u) → nat_cmp x y ≡ nat_cmp u v
alike x y u v l e g =
    ⊎_elim
    (λ h. equal x y h ∙ sym (equal u v (e h)))
    (λ h. ⊎_elim (λ a. less x y a ∙ sym (less u v (l a))) (λ b. greater x y b ∙ sym (greater u v (g b))) h)
    (cases_order x y)

module _ (a b c d : ℕ) (p : 0 < b) (q : 0 < d) where
  below : a / b < c / d → a * d < c * b
  below h =
      let x : a < suc (a / b) * b = omega (arith, div-add-mod' a b, mod-lt a p) in
      let y : suc (a / b) * b ≤ c / d * b = mul-le-mul_right b h in
      let z : a < c / d * b = omega arith in
      let u : a * d < c / d * b * d = mul-lt-mul_of_pos_right z q in
      let v : c / d * d * b ≤ c * b = mul-le-mul_right b (omega (arith, div-add-mod' c d)) in
      omega arith

pub by_whole : (a b c d : ℕ) → 0 < b → 0 < d → a / b ≢ c / d → nat_cmp (a / b) (c / d) ≡ nat_cmp (a * d) (c * b)
by_whole a b c d p q ne = alike _ _ _ _ (below a b c d p q) (λ e. absurd (ne e)) (λ h. below c d a b q p h)

pub by_rest : (a b c d : ℕ) → 0 < b → 0 < d → a / b ≡ c / d → nat_cmp (a % b * d) (c % d * b) ≡ nat_cmp (a * d) (c * b)
by_rest a b c d p q e =
    let first : a * d ≡ a / b * (b * d) + a % b * d = ap (λ x. x * d) (sym (div-add-mod' a b)) ∙ omega arith in
    let second : c * b ≡ a / b * (b * d) + c % d * b = ap (λ x. x * b) (sym (div-add-mod' c d)) ∙ ap (λ k. (k * d + c % d) * b) (sym e) ∙ omega arith in
    alike _ _ _ _ (λ h. omega arith) (λ h. first ∙ ap (λ x. a / b * (b * d) + x) h ∙ sym second) (λ h. omega arith)

times_pos : (r d : ℕ) → 0 < d → 0 < r → 0 < r * d
times_pos r d p q = omega (arith, mul-lt-mul_of_pos_right q p)

pub by_zero : (r s b d : ℕ) → 0 < b → 0 < d → (r ≡ 0) ⊎ (s ≡ 0) → nat_cmp r s ≡ nat_cmp (r * d) (s * b)
by_zero r s b d p q z =
    ⊎_elim
    (λ e. let none : r * d ≡ 0 = ap (λ x. x * d) e ∙ omega arith in
    alike r s (r * d) (s * b) (λ h. let m = times_pos s b p (omega arith) in omega arith)
    (λ h. let y : s ≡ 0 = omega arith in none ∙ sym (ap (λ x. x * b) y ∙ omega arith)) (λ h. absurd (omega arith)))
    (λ e. let none : s * b ≡ 0 = ap (λ x. x * b) e ∙ omega arith in
    alike r s (r * d) (s * b) (λ h. absurd (omega arith))
    (λ h. let y : r ≡ 0 = omega arith in ap (λ x. x * d) y ∙ omega arith ∙ sym none)
    (λ h. let m = times_pos r d q (omega arith) in omega arith))
    z

pub turned : (r s b d : ℕ) → nat_cmp (d * r) (b * s) ≡ nat_cmp (r * d) (s * b)
turned r s b d = ap₂ nat_cmp (mul_comm d r) (mul_comm b s)

-- a number is not on both sides of 0
above_down : (z : ℤ) → pos 0 ≤ℤ z → down z ≡ 0
above_down (pos n) h = refl
above_down (negsuc n) h = absurd (omega (arith, ints))

below_up : (z : ℤ) → z <ℤ pos 0 → up z ≡ 0
below_up (pos n) h = absurd (omega (arith, ints))
below_up (negsuc n) h = refl

below_some : (z : ℤ) → z <ℤ pos 0 → 0 < down z
below_some (pos n) h = absurd (omega (arith, ints))
below_some (negsuc n) h = omega arith

pub less_z : (x y : ℤ) → x <ℤ y → int_cmp x y ≡ Less
less_z x y h = let e : true ≡ int_lt x y = omega (arith, ints) in ap (λ t. cond t Less (cond (int_lt y x) Greater Equal)) (sym e)

pub greater_z : (x y : ℤ) → y <ℤ x → int_cmp x y ≡ Greater
greater_z x y h =
    let e : false ≡ int_lt x y = omega (arith, ints) in
    let f : true ≡ int_lt y x = omega (arith, ints) in
    ap₂ (λ t u. cond t Less (cond u Greater Equal)) (sym e) (sym f)

pub equal_z : (x y : ℤ) → x ≡ y → int_cmp x y ≡ Equal
equal_z x y h =
    let e : false ≡ int_lt x y = omega (arith, ints) in
    let f : false ≡ int_lt y x = omega (arith, ints) in
    ap₂ (λ t u. cond t Less (cond u Greater Equal)) (sym e) (sym f)

alike_z : (u v : ℕ) (x y : ℤ) → (u < v → x <ℤ y) → (u ≡ v → x ≡ y) → (v < u → y <ℤ x) → nat_cmp u v ≡ int_cmp x y
alike_z u v x y l e g =
    ⊎_elim
    (λ h. equal u v h ∙ sym (equal_z x y (e h)))
    (λ h. ⊎_elim (λ a. less u v a ∙ sym (less_z x y (l a))) (λ b. greater u v b ∙ sym (greater_z x y (g b))) h)
    (cases_order u v)

module _ (m k : ℤ) (a c b d : ℕ) (first : a ≡ unsigned_abs m) (second : c ≡ unsigned_abs k) where
  pub order_below : m <ℤ pos 0 → k <ℤ pos 0 → nat_cmp (c * b) (a * d) ≡ int_cmp (m *ℤ pos d) (k *ℤ pos b)
  order_below p q =
      let x : a ≡ down m = omega (arith, first, abs_is m, below_up m p) in
      let y : c ≡ down k = omega (arith, second, abs_is k, below_up k q) in
      let u = ap (λ n. n * d) x in
      let v = ap (λ n. n * b) y in
      let none = below_up m p in
      let gone = below_up k q in
      let s = ap (λ n. n * d) none in
      let t = ap (λ n. n * b) gone in
      let f = m *ℤ pos d in
      let g = k *ℤ pos b in
      let fd : down f ≡ a * d = down_times m d ∙ sym u in
      let fu : up f ≡ 0 = omega (arith, up_times m d, s) in
      let gd : down g ≡ c * b = down_times k b ∙ sym v in
      let gu : up g ≡ 0 = omega (arith, up_times k b, t) in
      alike_z (c * b) (a * d) f g (λ h. omega (arith, ints)) (λ h. omega (arith, ints)) (λ h. omega (arith, ints))

module _ (m k : ℤ) (b d : ℕ) (some : 0 < d) (other : 0 < b) where
  pub order_across : m <ℤ pos 0 → pos 0 ≤ℤ k → Less ≡ int_cmp (m *ℤ pos d) (k *ℤ pos b)
  order_across p q =
      let f = m *ℤ pos d in
      let g = k *ℤ pos b in
      let low = below_some m p in
      let none = below_up m p in
      let gone = above_down k q in
      let s = ap (λ n. n * d) none in
      let t = ap (λ n. n * b) gone in
      let fd : 0 < down f = omega (arith, down_times m d, times_pos (down m) d some low) in
      let fu : up f ≡ 0 = omega (arith, up_times m d, s) in
      let gd : down g ≡ 0 = omega (arith, down_times k b, t) in
      sym (less_z f g (omega (arith, ints)))

  pub order_back : k <ℤ pos 0 → pos 0 ≤ℤ m → Greater ≡ int_cmp (m *ℤ pos d) (k *ℤ pos b)
  order_back p q =
      let f = m *ℤ pos d in
      let g = k *ℤ pos b in
      let low = below_some k p in
      let none = above_down m q in
      let gone = below_up k p in
      let s = ap (λ n. n * d) none in
      let t = ap (λ n. n * b) gone in
      let fd : down f ≡ 0 = omega (arith, down_times m d, s) in
      let gd : 0 < down g = omega (arith, down_times k b, times_pos (down k) b other low) in
      let gu : up g ≡ 0 = omega (arith, up_times k b, t) in
      sym (greater_z f g (omega (arith, ints)))

pub scale_cmp : (x y p : ℕ) → 0 < p → nat_cmp (x * p) (y * p) ≡ nat_cmp x y
scale_cmp x y p some =
    sym (alike x y (x * p) (y * p) (λ h. mul-lt-mul_of_pos_right h some) (λ h. ap (λ n. n * p) h) (λ h. mul-lt-mul_of_pos_right h some))

-- sizes with their powers of ten, where the first exponent is k above the second
pub order_shifted : (a b k i j u v : ℕ) → i + v ≡ k + (u + j) → nat_cmp (a * 10 ^ i * 10 ^ v) (b * 10 ^ u * 10 ^ j) ≡ nat_cmp (a * 10 ^ k) b
order_shifted a b k i j u v e =
    let left : a * 10 ^ i * 10 ^ v ≡ a * 10 ^ k * 10 ^ (u + j) =
    mul_assoc a (10 ^ i) (10 ^ v) ∙ ap (λ p. a * p) (sym (pow-add 10 i v) ∙ ap (λ n. 10 ^ n) e ∙ pow-add 10 k (u + j))
    ∙ sym (mul_assoc a (10 ^ k) (10 ^ (u + j))) in
    let right : b * 10 ^ u * 10 ^ j ≡ b * 10 ^ (u + j) = mul_assoc b (10 ^ u) (10 ^ j) ∙ ap (λ p. b * p) (sym (pow-add 10 u j)) in
    ap₂ nat_cmp left right ∙ scale_cmp (a * 10 ^ k) b (10 ^ (u + j)) (ten-pos (u + j))

pub order_shifted_back : (a b k i j u v : ℕ) → u + j ≡ k + (i + v) → nat_cmp (a * 10 ^ i * 10 ^ v) (b * 10 ^ u * 10 ^ j) ≡ nat_cmp a (b * 10 ^ k)
order_shifted_back a b k i j u v e =
    let right : b * 10 ^ u * 10 ^ j ≡ b * 10 ^ k * 10 ^ (i + v) =
    mul_assoc b (10 ^ u) (10 ^ j) ∙ ap (λ p. b * p) (sym (pow-add 10 u j) ∙ ap (λ n. 10 ^ n) e ∙ pow-add 10 k (i + v))
    ∙ sym (mul_assoc b (10 ^ k) (10 ^ (i + v))) in
    let left : a * 10 ^ i * 10 ^ v ≡ a * 10 ^ (i + v) = mul_assoc a (10 ^ i) (10 ^ v) ∙ ap (λ p. a * p) (sym (pow-add 10 i v)) in
    ap₂ nat_cmp left right ∙ scale_cmp a (b * 10 ^ k) (10 ^ (i + v)) (ten-pos (i + v))

pub below_times : (m : ℤ) (x : ℕ) → m <ℤ pos 0 → 0 < x → (m *ℤ pos x) <ℤ pos 0
below_times m x p q =
    let f = m *ℤ pos x in
    let none = ap (λ n. n * x) (below_up m p) in
    let fu : up f ≡ 0 = omega (arith, up_times m x, none) in
    let fd : 0 < down f = omega (arith, down_times m x, times_pos (down m) x q (below_some m p)) in
    omega (arith, ints)

pub above_times : (m : ℤ) (x : ℕ) → pos 0 ≤ℤ m → pos 0 ≤ℤ (m *ℤ pos x)
above_times m x p =
    let f = m *ℤ pos x in
    let none = ap (λ n. n * x) (above_down m p) in
    let fd : down f ≡ 0 = omega (arith, down_times m x, none) in
    omega (arith, ints)
