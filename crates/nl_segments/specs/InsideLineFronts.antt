-- Intervals, and numbers of columns, a line each, that are taken at once.
use Rattle.std.specs.Prelude.{◌≡◌, ℕ, ◌<◌, Bool, List, Some}
use Rattle.nl_model.specs.Draft.{Draft}
use Rattle.nl_lines.specs.declared.awaited.Awaited.{Awaited}
use Rattle.nl_lines.specs.declared.awaited.Awaited.TheVariants.{ColumnCount, Interval as IntervalLine}
use Rattle.nl_lines.specs.Pieces.{line_kind}
use Rattle.nl_lines.specs.Tests.{is_sides}
use Rattle.nl_segments.specs.Current.{Current, less_lines}
use Rattle.nl_segments.specs.Held.{Body, HoldsSome}
use Rattle.nl_segments.specs.InsideLineSteps.{unless_complete}

-- the last piece awaits so many lines of this kind
pub record AwaitsLines (kind : Awaited) (left : ℕ) (b : Body) (cur : Current) : Type 0 where
  pub current : b.current ≡ Some cur
  pub same_kind : line_kind cur.head ≡ kind
  pub same_left : cur.left ≡ left
  pub some : 0 < left

-- with another file, other numbers of columns, and so many lines of the last piece counted
abbrev pub with_lines : Body → Draft → List ℕ → Current → ℕ → Body
with_lines b d columns cur n =
    record b { draft = d; columns = columns; current = unless_complete (less_lines cur n) }

-- a reader of the body that has this file awaits so many intervals
pub record AwaitsIntervals (d : Draft) (of_constraint : Bool) (left : ℕ) (b : Body)
    (cur : Current) : Type 0 where
  pub draft : b.draft ≡ d
  pub same : is_sides cur.head ≡ of_constraint
  pub awaits : AwaitsLines IntervalLine left b cur

-- there is one, which holds something
pub record HasIntervals (d : Draft) (of_constraint : Bool) (left : ℕ) : Type 0 where
  pub body : Body
  pub current : Current
  pub is : AwaitsIntervals d of_constraint left body current
  pub held : HoldsSome body

-- a reader of the body that has these numbers of columns awaits so many more
pub record AwaitsColumns (columns : List ℕ) (left : ℕ) (b : Body) (cur : Current) : Type 0 where
  pub columns_are : b.columns ≡ columns
  pub awaits : AwaitsLines ColumnCount left b cur
