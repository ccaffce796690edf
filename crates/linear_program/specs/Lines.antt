-- Linear functions of a point.
use Rattle.std.specs.Prelude.{ℕ, zero, suc, Bool, true, false, ◌&&◌, ◌==◌, Option, List, [], ◌∷◌}
pub use Rattle.exact_numbers.specs.Functions.{is_zero}
use Rattle.exact_numbers.specs.Functions.{or_zero}
use Rattle.exact_numbers.specs.Rational.{ℚ, zero_ℚ, one_ℚ, ◌+ℚ◌, ◌-ℚ◌, ◌*ℚ◌, neg_ℚ}
use Rattle.exact_numbers.specs.Sums.{sum_below}
use Rattle.exact_numbers.specs.Fits.{fits, sum_fits}
use Rattle.linear_program.specs.Linear.{Form}

-- a value of each variable: `at j` is that of variable j
abbrev pub Point : Type 0
Point = ℕ → ℚ

-- the point 0, and the point with 1 at j and 0 elsewhere
abbrev pub origin : Point
origin j = zero_ℚ

abbrev pub one_if : Bool → ℚ
one_if true = one_ℚ
one_if false = zero_ℚ

abbrev pub unit_point : ℕ → Point
unit_point j i = one_if (i == j)

-- a constant and a coefficient of each variable
pub record Line : Type 0 where
  pub constant : ℚ
  pub coef : ℕ → ℚ

-- its value at a point of n variables
abbrev pub line_value : ℕ → Line → Point → ℚ
line_value n l at = l.constant +ℚ sum_below (λ j. l.coef j *ℚ at j) n

abbrev pub line_values : ℕ → Point → List Line → List ℚ
line_values n at [] = []
line_values n at (l ∷ ls) = line_value n l at ∷ line_values n at ls

-- the line of a function of points, by its values at 0 and the unit points; a missing value counts
-- as 0
abbrev pub line_by : (Point → Option ℚ) → Line
line_by f =
    record {
      constant = or_zero (f origin);
      coef = λ j. or_zero (f (unit_point j)) -ℚ or_zero (f origin);
    }

-- ---- tests
abbrev pub all_below : (ℕ → Bool) → ℕ → Bool
all_below p zero = true
all_below p (suc n) = all_below p n && p n

-- no coefficient but 0
abbrev pub is_constant : ℕ → Line → Bool
is_constant n l = all_below (λ j. is_zero (l.coef j)) n

abbrev pub are_constant : ℕ → List Line → Bool
are_constant n [] = true
are_constant n (l ∷ ls) = is_constant n l && are_constant n ls

abbrev pub constants_of : List Line → List ℚ
constants_of [] = []
constants_of (l ∷ ls) = l.constant ∷ constants_of ls

-- ---- sums and multiples
abbrev pub line_sum : Line → Line → Line
line_sum a b = record { constant = a.constant +ℚ b.constant; coef = λ j. a.coef j +ℚ b.coef j }

abbrev pub line_scaled : ℚ → Line → Line
line_scaled k a = record { constant = k *ℚ a.constant; coef = λ j. k *ℚ a.coef j }

abbrev pub line_neg : Line → Line
line_neg a = record { constant = neg_ℚ a.constant; coef = λ j. neg_ℚ (a.coef j) }

abbrev pub constant_line : ℚ → Line
constant_line k = record { constant = k; coef = λ j. zero_ℚ }

abbrev pub running_line : Line → List Line → Line
running_line a [] = a
running_line a (b ∷ bs) = running_line (line_sum a b) bs

-- a line with k added at j
abbrev pub line_with : Line → ℕ → ℚ → Line
line_with a j k = record { constant = a.constant; coef = λ i. a.coef i +ℚ k *ℚ one_if (i == j) }

-- ---- whether they fit
-- the constants' sum and each coefficient's fit
abbrev pub sums_fit : ℕ → Line → Line → Bool
sums_fit n a b = sum_fits a.constant b.constant && all_below (λ j. sum_fits (a.coef j) (b.coef j)) n

-- the constant's and each coefficient's product with k fit
abbrev pub products_fit : ℕ → ℚ → Line → Bool
products_fit n k a = fits (k *ℚ a.constant) && all_below (λ j. fits (k *ℚ a.coef j)) n

-- each running sum from the left fits
abbrev pub running_sums_fit : ℕ → Line → List Line → Bool
running_sums_fit n a [] = true
running_sums_fit n a (b ∷ bs) = sums_fit n a b && running_sums_fit n (line_sum a b) bs

-- ---- forms
abbrev pub form_of_line : Line → Form
form_of_line l = record { constant = l.constant; coefficient = l.coef }
