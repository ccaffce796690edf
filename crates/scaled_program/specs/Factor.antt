-- The numbers of a row and of an objective, and their least factors.
use Rattle.std.specs.Prelude.{ℕ, zero, suc, List, [], ◌∷◌, ◌++◌, Option, Some, None}
use Rattle.exact_numbers.specs.Rational.{ℚ, ◌-ℚ◌}
use Rattle.linear_program.specs.Linear.{Form, Row}
pub use Rattle.scaled_program.specs.Finite.{IsFinite, IsFactor, IsLeastFactor}
use Rattle.scaled_program.specs.FactorLemmas.{a_least_factor}
pub use Rattle.scaled_program.specs.FactorLemmas.{steps_to_cofactor, cofactor_of}

-- the coefficients of the first n variables
abbrev pub coefficients_below : (ℕ → ℚ) → ℕ → List ℚ
coefficients_below c zero = []
coefficients_below c (suc n) = coefficients_below c n ++ c n ∷ []

-- the side less the constant, where there is a side
abbrev pub side_less : ℚ → Option ℚ → List ℚ
side_less constant None = []
side_less constant (Some s) = (s -ℚ constant) ∷ []

-- a row's coefficients, and its finite sides less its body's constant
abbrev pub row_numbers : ℕ → Row → List ℚ
row_numbers n r =
    coefficients_below r.body.coefficient n ++ side_less r.body.constant r.side.lower
    ++ side_less r.body.constant r.side.upper

-- an objective's constant and its coefficients
abbrev pub objective_numbers : ℕ → Form → List ℚ
objective_numbers n o = o.constant ∷ coefficients_below o.coefficient n

-- the least factor of numbers
unfoldable pub least_factor : List ℚ → ℕ
least_factor xs = (a_least_factor xs).0
