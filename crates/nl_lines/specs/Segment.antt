-- What there is to know of each segment, by its head: one table (Gay 2005, "Writing .nl Files",
-- segments).
use Rattle.std.specs.Prelude.{ℕ, ◌+◌, ◌==◌, ◌%◌, Bool, true, false, ◌&&◌, nat_le, nat_lt}
use Rattle.nl_model.specs.declared.header_counts.Counts.{Counts}
use Rattle.nl_model.specs.HeaderRules.{defined_count}
use Rattle.nl_model.specs.Rules.{object_count}
use Rattle.nl_model.specs.SuffixKinds.{wants_whole as is_whole_kind}
use Rattle.nl_lines.specs.declared.awaited.Awaited.{Awaited}
use Rattle.nl_lines.specs.declared.awaited.Awaited.TheVariants.{Pair, ColumnCount, Interval as IntervalLine}
use Rattle.nl_lines.specs.declared.head.Head.{Head}
use Rattle.nl_lines.specs.declared.head.Head.TheVariants.{Body, Objective, Definition, DualGuesses, PrimalGuesses, Sides, Bounds, ColumnCounts, Terms, Slopes, Suffix}
use Rattle.nl_lines.specs.declared.segment.Segment.{Segment}
use Rattle.nl_lines.specs.declared.segment.Lines.{Lines}
use Rattle.nl_lines.specs.declared.segment.Lines.TheVariants.{Pairs, EachConstraint, EachVariable, Columns}
use Rattle.nl_lines.specs.declared.segment.Indices.{Indices}
use Rattle.nl_lines.specs.declared.segment.Indices.TheVariants.{Variables, Constraints, Objects}
use Rattle.nl_lines.specs.declared.segment.Subject.{Subject}
use Rattle.nl_lines.specs.declared.segment.Subject.TheVariants.{File, Constraint, Objective as OfObjective, Defined, Suffixes}
use Rattle.nl_lines.specs.declared.segment.Total.{Total}
use Rattle.nl_lines.specs.declared.segment.Total.TheVariants.{Neither, Linear, SuffixValues}

-- a segment of these lines alone
abbrev pub plain : ℕ → Subject → Lines → Segment
plain letter subject lines =
    record {
      letter = letter;
      subject = subject;
      lines = lines;
      has_tree = false;
      indices = Variables;
      once = false;
      kept = false;
      total = Neither;
    }

-- letters in the order in which segments are written
abbrev pub segment_of : Head → Segment
segment_of (Suffix kind n) =
    record (plain 0 (Suffixes kind) (Pairs n)) {
      indices = Objects kind;
      once = true;
      kept = true;
      total = SuffixValues;
    }
segment_of (Definition i n usage) =
    record (plain 1 (Defined i) (Pairs n)) { has_tree = true; kept = true; total = Linear }
segment_of (Body i) = record (plain 2 (Constraint i) (Pairs 0)) { has_tree = true }
segment_of (Objective k maximise) =
    record (plain 3 (OfObjective k) (Pairs 0)) { has_tree = true }
segment_of (DualGuesses n) =
    record (plain 4 File (Pairs n)) { indices = Constraints; once = true }
segment_of (PrimalGuesses n) = record (plain 5 File (Pairs n)) { once = true }
segment_of Sides = plain 6 File EachConstraint
segment_of Bounds = plain 7 File EachVariable
segment_of (ColumnCounts n) = plain 8 File (Columns n)
segment_of (Terms i n) = record (plain 9 (Constraint i) (Pairs n)) { total = Linear }
segment_of (Slopes k n) = record (plain 10 (OfObjective k) (Pairs n)) { total = Linear }

-- ---- What segments are of.

-- its index; that of suffixes is the number of their objects, so that kinds for the same objects have
-- the same index
abbrev pub index_of : Subject → ℕ
index_of File = 0
index_of (Constraint i) = i
index_of (OfObjective k) = k
index_of (Defined i) = i
index_of (Suffixes kind) = kind % 4

-- the file has it
abbrev pub is_subject_of : Counts → Subject → Bool
is_subject_of c File = true
is_subject_of c (Constraint i) = nat_lt i c.n_con
is_subject_of c (OfObjective k) = nat_lt k c.n_obj
is_subject_of c (Defined i) = nat_le c.n_var i && nat_lt i (c.n_var + defined_count c)
is_subject_of c (Suffixes kind) = true

-- the same letter, and of the same
abbrev pub is_same_segment : Segment → Segment → Bool
is_same_segment s t = s.letter == t.letter && index_of s.subject == index_of t.subject

-- ---- The lines before an expression.

-- those of an index and a value
abbrev pub pairs_in : Lines → ℕ
pairs_in (Pairs n) = n
pairs_in _ = 0

-- all of them
abbrev pub lines_in : Counts → Lines → ℕ
lines_in c (Pairs n) = n
lines_in c EachConstraint = c.n_con
lines_in c EachVariable = c.n_var
lines_in c (Columns n) = n

abbrev pub kind_in : Lines → Awaited
kind_in (Pairs n) = Pair
kind_in EachConstraint = IntervalLine
kind_in EachVariable = IntervalLine
kind_in (Columns n) = ColumnCount

abbrev pub are_sides : Lines → Bool
are_sides EachConstraint = true
are_sides _ = false

-- ---- Pairs.

-- indices are below this
abbrev pub limit_in : Counts → Indices → ℕ
limit_in c Variables = c.n_var
limit_in c Constraints = c.n_con
limit_in c (Objects kind) = object_count c kind

-- each value of a suffix is whole unless the bit of value 4 is there
abbrev pub are_whole : Indices → Bool
are_whole (Objects kind) = is_whole_kind kind
are_whole _ = false

abbrev pub are_linear : Total → Bool
are_linear Linear = true
are_linear _ = false

abbrev pub are_suffix_values : Total → Bool
are_suffix_values SuffixValues = true
are_suffix_values _ = false
