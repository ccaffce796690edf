-- Whole lines at the front of a piece, which a grammar takes at once.
use Rattle.std.specs.Prelude.{◌≡◌, ◌+◌, ◌≤◌, ℕ, List, ◌++◌, length, take}
use Rattle.std.specs.List.{AllByRecursion}
use Rattle.std.specs.declared.option.Option.TheVariants.{None}
use Rattle.text_base.specs.declared.grammar.Front.{Front}
use Rattle.text_base.specs.Cut.{IsTextLine, ended_lines}
use Rattle.text_base.specs.Judged.{Rules, Open, IsClean}
use Rattle.text_base.specs.Lines.{LinesState}

-- the first bytes of a piece are these lines, each with its LF
pub record IsFront (piece : List ℕ) (front : Front) (lines : List (List ℕ)) : Type 0 where
  pub within : front.len ≤ length piece
  pub text : take front.len piece ≡ ended_lines lines
  pub each : AllByRecursion IsTextLine lines
  pub count : front.lines ≡ length lines

-- lines at the front of a piece, of which the first has this number, were taken after those before,
-- and nothing is wrong with them
pub record TakesFront {R : Type 0} (rules : Rules R) (took now : List (List ℕ) → Type 0)
    (piece : List ℕ) (number : ℕ) (front : Front) : Type 0 where
  pub lines : List (List ℕ)
  pub is : IsFront piece front lines
  pub taken : (before : List (List ℕ)) → number ≡ length before + 1 → took before
      → now (before ++ lines)
  pub clean : (before : List (List ℕ)) → number ≡ length before + 1 → took before
      → IsClean rules before Open → IsClean rules (before ++ lines) Open

-- a reader of lines goes on by such lines
abbrev pub after_front : LinesState → Front → LinesState
after_front s front =
    record s { count = s.count + front.lines; line = None; total = s.total + front.len }
