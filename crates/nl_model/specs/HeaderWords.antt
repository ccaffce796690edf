-- What a header holds.
use Rattle.std.specs.Prelude.{ℤ, List}
use Rattle.nl_model.specs.declared.header_counts.Counts.{Counts}
use Rattle.nl_model.specs.declared.header.Header.{Header}

-- the options of its first line
abbrev pub header_options : Header → List ℤ
header_options h = h.options

-- the counts of its other lines
abbrev pub header_counts : Header → Counts
header_counts h = h.counts
