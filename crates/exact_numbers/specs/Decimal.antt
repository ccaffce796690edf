-- What a Dec holds.
use Rattle.std.specs.Prelude.{◌≡◌, ℕ, ◌<◌, ◌≤◌, ◌^◌, ◌%◌, ℤ, pos, unsigned_abs, neg_ℤ, Bool, true, false}

-- the whole number of a sign and a size
abbrev pub signed : Bool → ℕ → ℤ
signed true n = neg_ℤ (pos n)
signed false n = pos n

-- the numbers of a Dec: in range, the last digit of m is not 0, and zero is (0, 0)
pub record IsDec (m e : ℤ) : Type 0 where
  pub mantissa : unsigned_abs m < 2 ^ 127
  pub exponent : unsigned_abs e ≤ 400
  pub shortest : unsigned_abs m % 10 ≡ 0 → (m ≡ pos 0) × (e ≡ pos 0)

-- the number that a Dec is seen as
pub record DecValue : Type 0 where
  pub m : ℤ
  pub e : ℤ
  pub spelled : IsDec m e
