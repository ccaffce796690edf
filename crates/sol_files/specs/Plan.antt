-- What the lines of a .sol text are, in order.
use Rattle.std.specs.Prelude.{ℕ, List, ◌∷◌, ◌++◌, replicate, slice_index_or}

-- what a line is
pub data LineKind : Type 0 where
  -- a line of the message, or `Options`
  Message : LineKind
  -- rows of numbers
  OptionCount : LineKind
  OptionRow : LineKind
  ConstraintCount : LineKind
  DualCount : LineKind
  VariableCount : LineKind
  PrimalCount : LineKind
  DualRow : LineKind
  PrimalRow : LineKind
  -- lines of a suffix after its first
  NameLine : LineKind
  TableLine : LineKind
  ValueRow : LineKind
  -- an `objno` line, the first line of a suffix, or the end of the text
  Tail : LineKind

-- the rows of numbers with k options, d duals and p primals
abbrev pub row_plan : ℕ → ℕ → ℕ → List LineKind
row_plan k d p =
    OptionCount ∷ replicate k OptionRow
    ++ ConstraintCount ∷ DualCount ∷ VariableCount ∷ PrimalCount ∷ replicate d DualRow
    ++ replicate p PrimalRow

-- the lines of a suffix with t lines of a table and v values
abbrev pub suffix_plan : ℕ → ℕ → List LineKind
suffix_plan t v = NameLine ∷ replicate t TableLine ++ replicate v ValueRow

-- what comes after n lines of a plan; what has no place in it is the tail
abbrev pub next_in : List LineKind → ℕ → LineKind
next_in plan n = slice_index_or plan n Tail
