-- A line of an index and a value that a text begins with.
use Rattle.std.specs.Prelude.{ℕ, List, [], ◌∷◌}
use Rattle.text_base.specs.Fronts.{IsFront}
use Rattle.text_base.specs.Words.{row_of, without_comment}
use Rattle.nl_lines.specs.declared.pair_line.FirstPair.{FirstPair}
use Rattle.nl_lines.specs.PairTests.{IsPairRow}

-- the text begins with a line, an LF behind it, that is this index and this value alone
pub record IsFirstPair (text : List ℕ) (p : FirstPair) : Type 0 where
  pub line : List ℕ
  pub first : IsFront text (record { len = p.len; lines = 1 }) (line ∷ [])
  pub pair : IsPairRow (row_of (without_comment line)) (p.index, p.value)
