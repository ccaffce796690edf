-- The uses of all variables, and the lines of the sums of such numbers.
use Rattle.std.specs.Prelude.{◌≡◌, ℕ, ◌+◌, ◌<◌, List, [], ◌∷◌, length, get_or}
use Rattle.std.specs.Fmt.{decimal}
use Rattle.nl_model.specs.File.{Term}
use Rattle.nl_model.specs.UseCounts.{use_count}
use Rattle.text_base.specs.WordLines.{WordLine}

-- the uses of n variables
pub record HasUses (n : ℕ) (rows : List (List Term)) (uses : List ℕ) : Type 0 where
  pub count : length uses ≡ n
  pub each : (j : ℕ) → j < n → get_or uses j 0 ≡ use_count rows j

-- a line for each number: the sum up to it, and what came before
abbrev pub sum_lines : ℕ → List ℕ → List WordLine
sum_lines before [] = []
sum_lines before (n ∷ ns) = (decimal (before + n) ∷ []) ∷ sum_lines (before + n) ns
