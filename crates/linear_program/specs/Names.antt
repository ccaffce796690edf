-- The names of the rows and variables of a linear program (own profile).
use Rattle.std.specs.Prelude.{ℕ, List, ◌∷◌}
use Rattle.std.specs.Fmt.{decimal}

-- c and the number of the row
abbrev pub row_name : ℕ → List ℕ
row_name i = 99 ∷ decimal i

-- x and the number of the variable
abbrev pub variable_name : ℕ → List ℕ
variable_name j = 120 ∷ decimal j
