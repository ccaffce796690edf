-- What the lines of the columns name.
use Rattle.std.specs.Prelude.{◌≡◌, ℕ, List, ◌++◌, length, map}
use Rattle.linear_program.specs.Names.{row_name}
use Rattle.row_scaling.specs.Exported.{exported_from}
use Rattle.row_scaling.specs.Parts.{column_count, tied_kinds}
use Rattle.row_scaling.specs.Scaled.{ScaledValue, IsScaled}
use Rattle.row_scaling.specs.declared.heads.Heads.{Heads}

-- the numbers are those of the exported rows
abbrev pub AreNumbers : ScaledValue → List ℕ → Type 0
AreNumbers s numbers = map row_name numbers ≡ map (λ r. r.name) (exported_from 0 s.rows)

-- the heads are those of the program
pub record AreHeads (s : ScaledValue) (h : Heads) : Type 0 where
  pub scaled : IsScaled s
  pub numbers : AreNumbers s h.numbers.items
  pub kinds : h.kinds.items ≡ s.kinds ++ tied_kinds s.tie
  pub count : length h.kinds.items ≡ column_count s
  pub variables : h.variables ≡ length s.bounds
