-- Sums of exact fractions.
use Rattle.std.specs.Prelude.{ℕ, zero, suc, List, [], ◌∷◌}
use Rattle.exact_numbers.specs.Rational.{ℚ, zero_ℚ, ◌+ℚ◌}

-- the sum of f x over the elements x of a list
unfoldable pub sum_over : {A : Type 0} → (A → ℚ) → List A → ℚ
sum_over f [] = zero_ℚ
sum_over f (x ∷ xs) = f x +ℚ sum_over f xs

-- the sum of a list
abbrev pub sum_of_all : List ℚ → ℚ
sum_of_all xs = sum_over (λ x. x) xs

-- f 0 + .. + f (n - 1)
unfoldable pub sum_below : (ℕ → ℚ) → ℕ → ℚ
sum_below f zero = zero_ℚ
sum_below f (suc n) = sum_below f n +ℚ f n
