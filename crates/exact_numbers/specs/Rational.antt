-- Rational numbers: sums, products and quotients, their order, and those that are whole.
use Rattle.std.specs.Int.{int_signum}
use Rattle.std.specs.Prelude.{◌≡◌, ℕ, zero, suc, ◌*◌, ◌^◌, ℤ, pos, ◌+ℤ◌, ◌*ℤ◌, ◌≤ℤ◌, ◌<ℤ◌, neg_ℤ, unsigned_abs, Bool, ◌==◌, if◌then◌else◌, Option, Some, None}
pub use Rattle.exact_numbers.specs.LowestTerms.{ℚ}
use Rattle.exact_numbers.specs.LowestLemmas.{lowest_terms, one_above, one_coprime}
-- e, where it is above 0, and -e, where it is below 0; otherwise 0
pub use borrow.Author.Differences.{up as above_zero, down as below_zero}

-- the whole number z, z / 1
unfoldable pub whole : ℤ → ℚ
whole z = record { top = z; bottom = 1; above = one_above; lowest = one_coprime (unsigned_abs z) }

-- p / q: the number x with x.top * q = p * x.bottom. Nothing asks for q = 0; it is 0 there
unfoldable pub over : ℤ → ℕ → ℚ
over p zero = whole (pos 0)
over p (suc q) =
    let it : (x : ℚ) × (x.top *ℤ pos (suc q) ≡ p *ℤ pos x.bottom) = lowest_terms p q in it.0

infix 5 ◌≤ℚ◌ ◌<ℚ◌
infixl 6 ◌+ℚ◌ ◌-ℚ◌
infixl 7 ◌*ℚ◌
-- the sum, over the product of both denominators
unfoldable pub ◌+ℚ◌ : ℚ → ℚ → ℚ
x +ℚ y = over (x.top *ℤ pos y.bottom +ℤ y.top *ℤ pos x.bottom) (x.bottom * y.bottom)

-- the product of the numerators over that of the denominators
unfoldable pub ◌*ℚ◌ : ℚ → ℚ → ℚ
x *ℚ y = over (x.top *ℤ y.top) (x.bottom * y.bottom)

-- the negative
unfoldable pub neg_ℚ : ℚ → ℚ
neg_ℚ x = over (neg_ℤ x.top) x.bottom

-- the difference
unfoldable pub ◌-ℚ◌ : ℚ → ℚ → ℚ
x -ℚ y = x +ℚ neg_ℚ y

-- at most, less: both denominators are above 0, so crosswise products decide
pub record ◌≤ℚ◌ (x y : ℚ) : Type 0 where
  pub crosswise : (x.top *ℤ pos y.bottom) ≤ℤ (y.top *ℤ pos x.bottom)

pub record ◌<ℚ◌ (x y : ℚ) : Type 0 where
  pub crosswise : (x.top *ℤ pos y.bottom) <ℤ (y.top *ℤ pos x.bottom)

abbrev pub zero_ℚ : ℚ
zero_ℚ = whole (pos 0)

abbrev pub one_ℚ : ℚ
one_ℚ = whole (pos 1)

-- m * 10 ^ e
unfoldable pub decimal_value : ℤ → ℤ → ℚ
decimal_value m e = over (m *ℤ pos (10 ^ above_zero e)) (10 ^ below_zero e)

abbrev pub is_zero : ℚ → Bool
is_zero x = unsigned_abs x.top == 0

-- 1 / x: bottom / top, with the sign of x above. Nothing asks for it where x is 0; it is 0 there
unfoldable pub inverse_of : ℚ → ℚ
inverse_of x = over (int_signum x.top *ℤ pos x.bottom) (unsigned_abs x.top)

-- x / y, none where y is 0
unfoldable pub quotient_of : ℚ → ℚ → Option ℚ
quotient_of x y = (if is_zero y then None else Some (x *ℚ inverse_of y))

-- x is a whole number
abbrev pub IsWhole : ℚ → Type 0
IsWhole x = x.bottom ≡ 1
