use Rattle.std.proofs.Common.{rules}
use Rattle.row_scaling.proofs.LineLemmas.{no_ranges_written}
use Rattle.row_scaling.proofs.LineLemmas.{ranges_written}
use Rattle.row_scaling.proofs.side_lines.put_ranges.Goals as goal

pub returns : goal.returns
returns c = search (rules, no_ranges_written, ranges_written)

pub returns-then-not-has_ranges : goal.returns-then-not-has_ranges
returns-then-not-has_ranges c = search (rules, no_ranges_written, ranges_written)
