-- What a reader holds of the heads that have come.
use Rattle.std.specs.Prelude.{ℕ, ◌+◌, ◌*◌, ◌<◌, max, Bool, true, false, List, replicate, length, get_or, slice_set}
use Rattle.nl_model.specs.declared.header_counts.Counts.{Counts}
use Rattle.nl_model.specs.HeaderRules.{defined_count}
use Rattle.nl_lines.specs.declared.head.Head.{Head}
use Rattle.nl_lines.specs.declared.segment.Segment.{Segment}
use Rattle.nl_lines.specs.Segment.{index_of, segment_of}

-- a mark for each letter at each index
abbrev pub Segments : Type 0
Segments = List Bool

-- there are so many letters
abbrev pub letters : ℕ
letters = 11

-- indices are below this: of constraints, objectives, variables, and what suffixes are for
abbrev pub most_indices : Counts → ℕ
most_indices c = max (max c.n_con c.n_obj) (max (c.n_var + defined_count c) 4)

-- where the mark of a segment stands
abbrev pub mark_in : Segment → ℕ
mark_in s = letters * index_of s.subject + s.letter

abbrev pub mark_of : Head → ℕ
mark_of head = mark_in (segment_of head)

abbrev pub no_segments : Counts → Segments
no_segments c = replicate (letters * most_indices c) false

abbrev pub has_segment : Segments → Head → Bool
has_segment marks head = get_or marks (mark_of head) false

abbrev pub with_segment : Segments → Head → Segments
with_segment marks head = slice_set marks (mark_of head) true

-- the head has a mark
abbrev pub IsSeenIn : Segments → Head → Type 0
IsSeenIn marks head = mark_of head < length marks
