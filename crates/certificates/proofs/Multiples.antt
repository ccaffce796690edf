-- Whole multiples of fractions: one that is whole, and one that is above any number.
use Rattle.std.proofs.Common.{◌≡◌, ℕ, zero, suc, ◌*◌, ◌<◌, ◌≤◌, ◌∙◌, sym, ap, subst, refl, arith, ⊎_elim, mul_comm, mul_assoc, one-mul, ℤ, pos, negsuc, ◌*ℤ◌, ◌≤ℤ◌, ◌<ℤ◌, unsigned_abs}
use Rattle.std.proofs.Math.Nat.{mul-pos}
use Rattle.std.proofs.lemmas.Bool.{cases_lt}
use Rattle.std.proofs.lemmas.Int.{ints}
use Rattle.exact_numbers.specs.Rational.{ℚ, whole, zero_ℚ, ◌*ℚ◌, neg_ℚ, ◌≤ℚ◌, ◌<ℚ◌, IsWhole}
use Rattle.exact_numbers.proofs.RationalLaws.{IsWhole-whole, whole-*ℚ, *ℚ_assoc, le_or_lt, not_both, neg-≤ℚ, ≤ℚ-<ℚ_trans, zero_value}
use Rattle.exact_numbers.proofs.Values.{HasValue, own_value, whole_value, product_value, scaled_value, same_value, value_le, value_lt, lt_value}

-- a number times its denominator is its numerator
pub bottom_times : (x : ℚ) → whole (pos x.bottom) *ℚ x ≡ whole x.top
bottom_times x = same_value (product_value (whole_value (pos x.bottom)) (own_value x)) (whole_value x.top) (omega (arith, ints))

pub multiple_whole : (q : ℕ) (x : ℚ) → IsWhole (whole (pos (q * x.bottom)) *ℚ x)
multiple_whole q x =
    subst IsWhole
    (sym (ap (λ z. z *ℚ x) (sym (whole-*ℚ (pos q) (pos x.bottom))) ∙ *ℚ_assoc (whole (pos q)) (whole (pos x.bottom)) x ∙ ap (λ z. whole (pos q) *ℚ z) (bottom_times x) ∙ whole-*ℚ (pos q) x.top))
    (IsWhole-whole (pos q *ℤ x.top))

-- a common multiple of the denominators of n numbers
pub common_multiple : (ℕ → ℚ) → ℕ → ℕ
common_multiple d zero = 1
common_multiple d (suc n) = common_multiple d n * (d n).bottom

pub common_above : (d : ℕ → ℚ) (n : ℕ) → 0 < common_multiple d n
unfolding common_multiple
common_above d zero = omega arith
common_above d (suc n) = mul-pos (common_above d n) (d n).above

pub common_is_multiple : (d : ℕ → ℚ) (n j : ℕ) → j < n → (q : ℕ) × (common_multiple d n ≡ q * (d j).bottom)
unfolding common_multiple
common_is_multiple d zero j l = absurd (omega arith)
common_is_multiple d (suc n) j l =
    ⊎_elim
    (λ (a : j < n).
    let w = common_is_multiple d n j a in (
      w.0 * (d n).bottom,
      ap (λ m. m * (d n).bottom) w.1 ∙ mul_assoc w.0 (d j).bottom (d n).bottom
          ∙ ap (λ m. w.0 * m) (mul_comm (d j).bottom (d n).bottom) ∙ sym (mul_assoc w.0 (d n).bottom (d j).bottom),
    ))
    (λ (b : n ≤ j). let e : n ≡ j = omega arith in (common_multiple d n, ap (λ k. common_multiple d n * (d k).bottom) e))
    (cases_lt j n)

-- ---- order
pub lt_by : (x y : ℚ) → (y ≤ℚ x → ⊥) → x <ℚ y
lt_by x y h = ⊎_elim (λ k. absurd (h k)) (λ k. k) (le_or_lt y x)

pub neg-<ℚ : (x y : ℚ) → neg_ℚ x <ℚ neg_ℚ y → y <ℚ x
neg-<ℚ x y h = lt_by y x (λ k. not_both (neg_ℚ y) (neg_ℚ x) (neg-≤ℚ x y k) h)

-- a number is at most its numerator's size
grown : (n b : ℕ) → 0 < b → n ≤ n * b
grown n zero h = absurd (omega arith)
grown n (suc c) h = omega arith

size_le : (t : ℤ) (b : ℕ) → 0 < b → t ≤ℤ (pos (unsigned_abs t) *ℤ pos b)
size_le (pos n) b h = let k = grown n b h in omega (arith, ints)
size_le (negsuc n) b h = omega (arith, ints)

below_size : (x : ℚ) → x ≤ℚ whole (pos (unsigned_abs x.top))
below_size x =
    value_le (own_value x)
    (subst (λ n. HasValue (whole (pos (unsigned_abs x.top))) (pos (unsigned_abs x.top) *ℤ pos x.bottom) n) (one-mul x.bottom) (scaled_value x.bottom x.above (whole_value (pos (unsigned_abs x.top)))))
    (size_le x.top x.bottom x.above)

-- some multiple of a number above 0 is above any other number
beyond : (n m p : ℕ) → 0 < m → n < suc n * m * suc p
beyond n m p h = let a = grown (suc n) m h in let b : suc n * m ≤ suc n * m * suc p = grown (suc n * m) (suc p) (omega arith) in omega arith

positive_top : (g : ℚ) → zero_ℚ <ℚ g → (p : ℕ) × (g.top ≡ pos (suc p))
positive_top g h = by g.top refl (lt_value (zero_value g.bottom g.above) (own_value g) h)
  where
    by : (t : ℤ) → g.top ≡ t → pos 0 <ℤ t → (p : ℕ) × (g.top ≡ pos (suc p))
    by (pos zero) e k = absurd (omega (arith, ints))
    by (pos (suc p)) e k = (p, e)
    by (negsuc n) e k = absurd (omega (arith, ints))

times_is : (g : ℚ) (a b m : ℕ) → b ≡ g.bottom → whole (pos (a * b * m)) *ℚ g ≡ whole (pos (a * m) *ℤ g.top)
times_is g a b m e =
    ap (λ n. whole (pos n) *ℚ g) (mul_assoc a b m ∙ ap (λ n. a * n) (mul_comm b m) ∙ sym (mul_assoc a m b) ∙ ap (λ n. a * m * n) e)
    ∙ ap (λ z. z *ℚ g) (sym (whole-*ℚ (pos (a * m)) (pos g.bottom)))
    ∙ *ℚ_assoc (whole (pos (a * m))) (whole (pos g.bottom)) g
    ∙ ap (λ z. whole (pos (a * m)) *ℚ z) (bottom_times g)
    ∙ whole-*ℚ (pos (a * m)) g.top

pub above_any : (g d : ℚ) (m : ℕ) → zero_ℚ <ℚ g → 0 < m → (k : ℕ) × (d <ℚ (whole (pos (k * m)) *ℚ g))
above_any g d m positive some =
    let n : ℕ = unsigned_abs d.top in
    let t = positive_top g positive in
    let above : whole (pos n) <ℚ whole (pos (suc n * m) *ℤ pos (suc t.0)) =
    value_lt (whole_value (pos n)) (whole_value (pos (suc n * m) *ℤ pos (suc t.0)))
    (let k = beyond n m t.0 some in omega (arith, ints)) in (
      suc n * g.bottom,
      subst (λ z. d <ℚ z) (sym (times_is g (suc n) g.bottom m refl))
          (subst (λ z. d <ℚ whole (pos (suc n * m) *ℤ z)) (sym t.1) (≤ℚ-<ℚ_trans d (whole (pos n)) _ (below_size d) above)),
    )
