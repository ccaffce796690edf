-- Pairs of a numerator and a denominator, in lowest terms or not.
use Rattle.std.proofs.Common.{◌≡◌, ℕ, ◌*◌, ◌/◌, ◌<◌, ◌^◌, ℤ, pos, ◌+ℤ◌, ◌*ℤ◌, unsigned_abs}
use Rattle.exact_numbers.specs.Decimal.{IsDec}
use Rattle.exact_numbers.specs.Fraction.{IsFrac, IsLcm}
use borrow.Author.Differences.{up, down}

pub record Fraction : Type 0 where
  pub top : ℤ
  pub bottom : ℕ

pub record SameValue (x y : Fraction) : Type 0 where
  pub equal : x.top *ℤ pos y.bottom ≡ y.top *ℤ pos x.bottom

abbrev pub pair : ℤ → ℕ → Fraction
pair num den = record { top = num; bottom = den }

abbrev pub sum_of : Fraction → Fraction → Fraction
sum_of x y = record { top = x.top *ℤ pos y.bottom +ℤ y.top *ℤ pos x.bottom; bottom = x.bottom * y.bottom }

abbrev pub product_of : Fraction → Fraction → Fraction
product_of x y = record { top = x.top *ℤ y.top; bottom = x.bottom * y.bottom }

-- m * 10 ^ e
abbrev pub scaled : ℤ → ℤ → Fraction
scaled m e = record { top = m *ℤ pos (10 ^ up e); bottom = 10 ^ down e }

-- some Dec has the value of the pair
pub record HasDec (x : Fraction) : Type 0 where
  pub m : ℤ
  pub e : ℤ
  pub dec : IsDec m e
  pub same : SameValue (scaled m e) x

-- some Frac has the value of the pair
pub record HasFrac (x : Fraction) : Type 0 where
  pub num : ℤ
  pub den : ℕ
  pub frac : IsFrac num den
  pub same : SameValue (pair num den) x

-- each part of n / d + k / e over their least common denominator m is in range
pub record SumFits (n : ℤ) (d : ℕ) (k : ℤ) (e : ℕ) : Type 0 where
  pub m : ℕ
  pub least : IsLcm d e m
  pub denominator : m < 2 ^ 127
  pub first : unsigned_abs (n *ℤ pos (m / d)) < 2 ^ 127
  pub second : unsigned_abs (k *ℤ pos (m / e)) < 2 ^ 127
  pub sum : unsigned_abs (n *ℤ pos (m / d) +ℤ k *ℤ pos (m / e)) < 2 ^ 127
