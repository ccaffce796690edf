-- Where an exported row stands in the scaled program, and its dual.
use Rattle.std.specs.Prelude.{ℕ, zero, suc, pos, cond, List, [], ◌∷◌}
use Rattle.exact_numbers.specs.Rational.{ℚ, whole, ◌*ℚ◌}
use Rattle.linear_program.specs.Linear.{Row}
use Rattle.scaled_program.specs.Program.{is_exported}

-- how many of the rows before row i are exported
unfoldable pub place_of : List Row → ℕ → ℕ
place_of [] i = 0
place_of (r ∷ rs) zero = 0
place_of (r ∷ rs) (suc i) = cond (is_exported r) (suc (place_of rs i)) (place_of rs i)

-- the dual of a row with this factor, from the value w of its scaled row, s being the answer's sign
abbrev pub dual_of : ℚ → ℚ → ℕ → ℚ
dual_of s w factor = w *ℚ (s *ℚ whole (pos factor))
