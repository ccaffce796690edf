-- A row that is an interval alone.
use Rattle.std.specs.Prelude.{◌≡◌, ℕ, true, List, Some}
use Rattle.linear_program.specs.declared.interval.Interval.{Interval}
use Rattle.nl_lines.specs.Pieces.{interval_in}
use Rattle.nl_lines.specs.Tests.{has_sides}

-- as many words as the first of them wants, which are this interval
pub record IsIntervalRow (words : List (List ℕ)) (i : Interval) : Type 0 where
  pub sides : has_sides words ≡ true
  pub says : interval_in words ≡ Some i
