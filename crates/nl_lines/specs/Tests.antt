-- What is wrong with a row of the body, or with the end: the first test that holds gives the
-- reason. The order is this project's own.
use Rattle.std.specs.Prelude.{◌≡◌, false, ◌<◌, ◌≤◌, ℕ, ◌+◌, ◌^◌, ◌==◌, pos, Bool, not, ◌&&◌, ◌||◌, nat_le, nat_lt, List, [], ◌∷◌, ◌++◌, length, sum_by, filter, Option, Some, None, is_some, is_none, unwrap_or, if◌then◌else◌, codes}
use Rattle.std.specs.List.{list_all, list_any, filter_map, flat_map}
use Rattle.std.specs.Option.{option_map_or}
use Rattle.std.specs.Str.{bytes_eq}
use Rattle.std.specs.Ordering.{is_lt}
use Rattle.exact_numbers.specs.Rational.{ℚ, whole}
use Rattle.code_tables.specs.Opcodes.{operands_of}
use Rattle.exact_numbers.specs.declared.dec.Dec.{Dec}
use Rattle.exact_numbers.specs.Values.{dec_value, order_of}
use Rattle.nl_model.specs.declared.header_counts.Counts.{Counts}
use Rattle.linear_program.specs.declared.interval.Interval.{Interval}
use Rattle.linear_program.specs.declared.kind.Kind.{Kind}
use Rattle.linear_program.specs.declared.kind.Kind.TheVariants.{Binary}
use Rattle.nl_model.specs.Draft.{Draft}
use Rattle.nl_model.specs.File.{Term}
use Rattle.nl_model.specs.HeaderRules.{defined_count}
use Rattle.nl_model.specs.Kinds.{variable_kind}
use Rattle.nl_model.specs.Rules.{is_defined, most_terms, term_count}
use Rattle.nl_model.specs.UseCounts.{terms_up_to}
use Rattle.nl_lines.specs.declared.awaited.Awaited.{Awaited}
use Rattle.nl_lines.specs.declared.awaited.Awaited.TheVariants.{Nothing, Pair, ColumnCount, Interval as IntervalLine, Node as NodeLine, OperandCount}
use Rattle.nl_lines.specs.declared.fault.NlReason.{NlReason}
use Rattle.nl_lines.specs.declared.fault.NlReason.TheVariants.{TooLarge, UnknownSegment, RefusedSegment, RepeatedSegment, BadHead, IndexOut, BadLine, BadNumber, ShortSegment, ExtraLine, RefusedOpcode, RefusedLeaf, Undefined, Complementarity, EmptyInterval, BinaryBounds, RepeatedIndex, SosSuffix, Missing, NonzeroCount, ColumnCount as BadColumnCount}
use Rattle.nl_lines.specs.declared.head.Head.{Head}
use Rattle.nl_lines.specs.declared.head.Head.TheVariants.{ColumnCounts}
use Rattle.exact_numbers.specs.Numbers.{are_digits, whole_of, dec_of, is_whole}
use Rattle.nl_lines.specs.Nodes.{dec_of_signed, leaf_text}
use Rattle.text_base.specs.Words.{word_at}
use Rattle.nl_lines.specs.Segment.{are_linear, are_sides, are_suffix_values, are_whole, is_same_segment, limit_in, segment_of}
use Rattle.nl_lines.specs.Heads.{letter_of, is_among, is_head, is_segment_letter, is_refused_letter, own_number, number_at, head_of, name_in, is_in_range}
use Rattle.nl_lines.specs.Pieces.{Piece, awaited_of, is_nothing, last_piece, piece_nodes, piece_pairs, interval_in}
use Rattle.nl_lines.specs.Rows.{row_words}

abbrev pub Tests : Type 0
Tests = List (Bool × NlReason)

-- the number is there and below a limit
abbrev pub is_some_below : ℕ → Option ℕ → Bool
is_some_below limit number = option_map_or (λ n. nat_lt n limit) number Bool.false

-- ---- How much there is in all pieces so far.

-- expression nodes
abbrev pub node_total : Counts → List Piece → ℕ
node_total c pieces = sum_by (λ p. length (piece_nodes c p)) pieces

-- linear terms of constraints, objectives and defined variables
abbrev pub is_linear : Head → Bool
is_linear head = are_linear (segment_of head).total

abbrev pub is_suffix : Head → Bool
is_suffix head = are_suffix_values (segment_of head).total

abbrev pub pair_total : (Head → Bool) → List Piece → ℕ
pair_total counts pieces = sum_by (λ p. length (piece_pairs p)) (filter (λ p. counts p.head) pieces)

abbrev pub suffix_count : List Piece → ℕ
suffix_count pieces = length (filter (λ p. is_suffix p.head) pieces)

-- ---- A head.

-- the same letter and index; suffixes, for the same objects
abbrev pub is_same_head : Head → Head → Bool
is_same_head a b = is_same_segment (segment_of a) (segment_of b)

-- a suffix is the same where its name is, too
abbrev pub is_same_piece : Head → List ℕ → Piece → Bool
is_same_piece head name p =
    is_same_head head p.head && (not (is_suffix head) || bytes_eq p.name name)

abbrev pub is_repeated : List Piece → Head → List ℕ → Bool
is_repeated pieces head name = list_any (is_same_piece head name) pieces

abbrev pub formed_head_tests : Counts → List Piece → List ℕ → Option Head → Tests
formed_head_tests c pieces name None = []
formed_head_tests c pieces name (Some head) =
    (not (is_in_range c head), IndexOut)
    ∷ (is_suffix head && bytes_eq name (codes "sosno"), SosSuffix)
    ∷ (is_repeated pieces head name, RepeatedSegment)
    ∷ (is_suffix head && nat_le 1024 (suffix_count pieces), TooLarge) ∷ []

-- of the words alone
unfoldable pub head_form_tests : Counts → List (List ℕ) → Tests
head_form_tests c words =
    (is_refused_letter (letter_of words), RefusedSegment)
    ∷ (not (is_segment_letter (letter_of words)), UnknownSegment)
    ∷ (is_none (head_of c words), BadHead) ∷ []

unfoldable pub head_tests : Counts → List Piece → List (List ℕ) → Tests
head_tests c pieces words =
    (not (is_nothing (awaited_of c pieces)), ShortSegment)
    ∷ (head_form_tests c words ++ formed_head_tests c pieces (name_in words) (head_of c words))

-- ---- A pair line.

-- indices of a piece are below this
abbrev pub index_limit : Counts → Head → ℕ
index_limit c head = limit_in c (segment_of head).indices

-- each value of a suffix is whole unless the bit of value 4 is there
abbrev pub wants_whole_values : Head → Bool
wants_whole_values head = are_whole (segment_of head).indices

-- an index comes once in a piece
abbrev pub holds_once : Head → Bool
holds_once head = (segment_of head).once

abbrev pub has_index : List Term → ℕ → Bool
has_index terms i = list_any (λ t. t.0 == i) terms

-- no more pairs of this kind may come
abbrev pub is_full : List Piece → Head → Bool
is_full pieces head =
    (is_linear head && nat_le most_terms (pair_total is_linear pieces))
    || (is_suffix head && nat_le most_terms (pair_total is_suffix pieces))

-- of the words alone, where indices are below a limit and values may have to be whole
unfoldable pub pair_form_tests : ℕ → Bool → List (List ℕ) → Tests
pair_form_tests limit whole_only words =
    let value = dec_of (word_at words 1) in
    (not (length words == 2 && are_digits (word_at words 0)), BadLine)
    ∷ (not (is_some_below limit (whole_of (word_at words 0))), IndexOut)
    ∷ (is_none value, BadNumber)
    ∷ (whole_only && not (option_map_or is_whole value Bool.true), BadNumber) ∷ []

unfoldable pub pair_tests : Counts → List Piece → Piece → List (List ℕ) → Tests
pair_tests c pieces p words =
    pair_form_tests (index_limit c p.head) (wants_whole_values p.head) words
    ++ (
      holds_once p.head && has_index (piece_pairs p) (unwrap_or (number_at words 0) 0),
      RepeatedIndex,
    )
    ∷ (is_full pieces p.head, TooLarge) ∷ []

-- ---- A line of k.

unfoldable pub column_tests : List (List ℕ) → Tests
column_tests words =
    (not (length words == 1 && are_digits (word_at words 0)), BadLine)
    ∷ (is_none (whole_of (word_at words 0)), BadNumber) ∷ []

-- ---- An interval line.

-- how many numbers follow the first word of an interval
abbrev pub side_count : List ℕ → Option ℕ
side_count kind =
    if bytes_eq kind (codes "0") then Some 2 else
    if bytes_eq kind (codes "1") then Some 1 else
    if bytes_eq kind (codes "2") then Some 1 else
    if bytes_eq kind (codes "3") then Some 0 else
    if bytes_eq kind (codes "4") then Some 1 else None

abbrev pub has_sides : List (List ℕ) → Bool
has_sides words =
    option_map_or (λ n. length words == n + 1) (side_count (word_at words 0)) Bool.false

abbrev pub is_value_below : ℚ → ℚ → Bool
is_value_below x y = is_lt (order_of x y)

-- the lower side is above the upper side
abbrev pub is_empty : Interval → Bool
is_empty i =
    option_map_or
    (λ lo. option_map_or (λ hi. is_value_below (dec_value hi) (dec_value lo)) i.hi Bool.false)
    i.lo Bool.false

-- both sides are there, from 0 to 1
abbrev pub is_within_unit : Interval → Bool
is_within_unit i =
    option_map_or (λ lo. not (is_value_below (dec_value lo) (whole (pos 0)))) i.lo Bool.false
    && option_map_or (λ hi. not (is_value_below (whole (pos 1)) (dec_value hi))) i.hi Bool.false

abbrev pub is_binary : Kind → Bool
is_binary Binary = Bool.true
is_binary _ = Bool.false

-- the intervals of constraints, where complementarity is refused
abbrev pub is_sides : Head → Bool
is_sides head = are_sides (segment_of head).lines

-- the interval of the next variable, which is binary
abbrev pub wants_unit : Counts → Piece → Bool
wants_unit c p = not (is_sides p.head) && is_binary (variable_kind c (length p.rows))

-- the words say this interval, which is not empty
pub record SaysInterval (words : List (List ℕ)) (i : Interval) : Type 0 where
  pub says : interval_in words ≡ Some i
  pub ordered : is_empty i ≡ false

-- of the words alone: those of a constraint, or of a variable that may be binary
unfoldable pub interval_form_tests : Bool → Bool → List (List ℕ) → Tests
interval_form_tests of_constraint unit words =
    let interval = interval_in words in
    (of_constraint && bytes_eq (word_at words 0) (codes "5"), Complementarity)
    ∷ (not (has_sides words), BadLine)
    ∷ (is_none interval, BadNumber)
    ∷ (option_map_or is_empty interval Bool.false, EmptyInterval)
    ∷ (unit && not (option_map_or is_within_unit interval Bool.true), BinaryBounds) ∷ []

unfoldable pub interval_tests : Counts → Piece → List (List ℕ) → Tests
interval_tests c p words = interval_form_tests (is_sides p.head) (wants_unit c p) words

-- ---- A node line.

-- the letter of a node, and digits after that of a variable or of an opcode
abbrev pub is_node_form : List (List ℕ) → Bool
is_node_form words =
    length words == 1 && is_among (codes "onslv") (letter_of words)
    && (not (is_among (codes "ov") (letter_of words)) || are_digits (leaf_text words))

-- the index of a defined variable that is not complete
abbrev pub is_undefined : Counts → Draft → ℕ → Bool
is_undefined c d i = nat_le c.n_var i && not (is_defined d.definitions i)

abbrev pub number_tests : Option Dec → Tests
number_tests value = (is_none value, BadNumber) ∷ []

abbrev pub variable_tests : Counts → Draft → Option ℕ → Tests
variable_tests c d index =
    (not (is_some_below (c.n_var + defined_count c) index), IndexOut)
    ∷ (is_undefined c d (unwrap_or index 0), Undefined) ∷ []

abbrev pub opcode_tests : Option ℕ → Tests
opcode_tests opcode =
    (is_none opcode, BadNumber)
    ∷ (is_none (operands_of (unwrap_or opcode 0)), RefusedOpcode (unwrap_or opcode 0)) ∷ []

-- the tests of a node by its letter
abbrev pub leaf_tests : Counts → Draft → List (List ℕ) → Tests
leaf_tests c d words =
    let letter = letter_of words in
    if letter == 110 then number_tests (dec_of (leaf_text words)) else
    if letter == 118 then variable_tests c d (own_number words) else
    if letter == 111 then opcode_tests (own_number words) else
    number_tests (dec_of_signed (leaf_text words))

-- of the words alone, after a draft
unfoldable pub node_form_tests : Counts → Draft → List (List ℕ) → Tests
node_form_tests c d words =
    (is_among (codes "fh") (letter_of words), RefusedLeaf)
    ∷ (not (is_node_form words), BadLine)
    ∷ leaf_tests c d words

unfoldable pub node_tests : Counts → Draft → List Piece → List (List ℕ) → Tests
node_tests c d pieces words =
    node_form_tests c d words ++ (nat_le (2 ^ 22) (node_total c pieces), TooLarge) ∷ []

-- ---- A line with a number of operands.

-- the words say this number of operands
pub record SaysOperandCount (words : List (List ℕ)) (n : ℕ) : Type 0 where
  pub says : whole_of (word_at words 0) ≡ Some n
  pub some : 0 < n
  pub few : n ≤ 2 ^ 22

unfoldable pub operand_tests : List (List ℕ) → Tests
operand_tests words =
    let count = whole_of (word_at words 0) in
    (not (length words == 1 && are_digits (word_at words 0)), BadLine)
    ∷ (not (nat_lt 0 (unwrap_or count 1)), BadNumber)
    ∷ (not (is_some_below (2 ^ 22 + 1) count), TooLarge) ∷ []

-- ---- Any row.

-- a line that the last piece awaits
abbrev pub awaited_tests : Counts → Draft → List Piece → Piece → List (List ℕ) → Awaited → Tests
awaited_tests c d pieces p words Nothing = (Bool.true, ExtraLine) ∷ []
awaited_tests c d pieces p words Pair = pair_tests c pieces p words
awaited_tests c d pieces p words ColumnCount = column_tests words
awaited_tests c d pieces p words IntervalLine = interval_tests c p words
awaited_tests c d pieces p words NodeLine = node_tests c d pieces words
awaited_tests c d pieces p words OperandCount = operand_tests words

-- a line that is no head
abbrev pub line_tests : Counts → Draft → List Piece → List (List ℕ) → Option Piece → Tests
line_tests c d pieces words None = (Bool.true, ExtraLine) ∷ []
line_tests c d pieces words (Some p) = awaited_tests c d pieces p words (awaited_of c pieces)

-- a row of the body with these words, after these pieces, which say the draft d
unfoldable pub row_tests : Counts → Draft → List Piece → List (List ℕ) → Tests
row_tests c d pieces words =
    if is_head words then head_tests c pieces words
    else line_tests c d pieces words (last_piece pieces)

-- ---- The end.

-- an objective, or an interval of a constraint or a variable, was not given
abbrev pub lacks_part : Draft → Bool
lacks_part d = not (list_all is_some d.objectives) || nat_lt (length d.sides) d.counts.n_con
    || nat_lt (length d.bounds) d.counts.n_var

-- the numbers of the piece of columns, if it is there
abbrev pub column_counts : Piece → Head → List ℕ
column_counts p (ColumnCounts n) = filter_map (λ r. number_at (row_words r) 0) p.rows
column_counts p head = []

abbrev pub all_column_counts : List Piece → List ℕ
all_column_counts pieces = flat_map (λ p. column_counts p p.head) pieces

-- the numbers, of which the first is that of variable j, are those of the terms up to each variable
abbrev pub are_column_counts : List (List Term) → ℕ → List ℕ → Bool
are_column_counts rows j [] = Bool.true
are_column_counts rows j (n ∷ ns) = (n == terms_up_to rows j) && are_column_counts rows (j + 1) ns

unfoldable pub end_tests : Counts → Draft → List Piece → Tests
end_tests c d pieces =
    (not (is_nothing (awaited_of c pieces)), ShortSegment)
    ∷ (lacks_part d, Missing)
    ∷ (not (term_count d.terms == c.nzc), NonzeroCount)
    ∷ (not (are_column_counts d.terms 0 (all_column_counts pieces)), BadColumnCount) ∷ []
