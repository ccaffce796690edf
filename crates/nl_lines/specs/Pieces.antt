-- The pieces of the body: a head, and the rows up to the next head (Gay 2005, "Writing .nl Files",
-- segments).
use Rattle.std.specs.Prelude.{ℕ, ◌==◌, Bool, nat_lt, List, [], ◌∷◌, ◌++◌, length, take, drop, Option, Some, None, option_map, option_and_then, if◌then◌else◌, codes}
use Rattle.std.specs.Option.{option_map_or}
use Rattle.std.specs.List.{fold, filter_map}
use Rattle.std.specs.Str.{bytes_eq}
use Rattle.exact_numbers.specs.declared.dec.Dec.{Dec}
use Rattle.nl_model.specs.declared.header_counts.Counts.{Counts}
use Rattle.linear_program.specs.declared.interval.Interval.{Interval}
use Rattle.nl_model.specs.File.{Term}
use Rattle.nl_model.specs.Nodes.{awaited}
use Rattle.nl_lines.specs.declared.awaited.Awaited.{Awaited}
use Rattle.nl_lines.specs.declared.awaited.Awaited.TheVariants.{Nothing, Node as NodeLine, OperandCount}
use Rattle.nl_lines.specs.declared.head.Head.{Head}
use Rattle.exact_numbers.specs.Numbers.{dec_of}
use Rattle.nl_lines.specs.Rows.{NumberedRow, row_words}
use Rattle.text_base.specs.Words.{word_at}
use Rattle.nl_lines.specs.Segment.{kind_in, lines_in, pairs_in, segment_of}
use Rattle.nl_lines.specs.Heads.{is_head, head_of, name_in, number_at}
use Rattle.nl_lines.specs.Nodes.{Placed, Pending, nodes_of, pending_from, only_nodes}

-- what the head says, its third word, which names a suffix, its line, and the rows after it
pub record Piece : Type 0 where
  pub head : Head
  pub name : List ℕ
  pub line : ℕ
  pub rows : List NumberedRow

-- a head begins a piece; one of a wrong form, after which nothing is asked, begins none
abbrev pub with_head : List Piece → NumberedRow → Option Head → List Piece
with_head pieces row None = pieces
with_head pieces row (Some head) =
    let name = name_in (row_words row) in
    pieces ++ record { head = head; name = name; line = row.line; rows = [] } ∷ []

-- with a row more in the last piece
unfoldable pub extended : List Piece → NumberedRow → List Piece
extended [] row = []
extended (p ∷ []) row = record p { rows = p.rows ++ row ∷ [] } ∷ []
extended (p ∷ q ∷ pieces) row = p ∷ extended (q ∷ pieces) row

abbrev pub with_row : Counts → List Piece → NumberedRow → List Piece
with_row c pieces row =
    if is_head (row_words row)
    then with_head pieces row (head_of c (row_words row))
    else extended pieces row

unfoldable pub pieces_of : Counts → List NumberedRow → List Piece
pieces_of c rows = fold (with_row c) [] rows

-- the piece that was begun last
unfoldable pub last_piece : List Piece → Option Piece
last_piece [] = None
last_piece (p ∷ []) = Some p
last_piece (p ∷ q ∷ pieces) = last_piece (q ∷ pieces)

-- ---- Which lines complete a piece.

-- lines of an index and a value that follow a head
abbrev pub pair_count : Head → ℕ
pair_count head = pairs_in (segment_of head).lines

-- the pairs of a piece are kept until it is complete
abbrev pub keeps_pairs : Head → Bool
keeps_pairs head = (segment_of head).kept

-- lines that follow a head, before any expression
abbrev pub line_count : Counts → Head → ℕ
line_count c head = lines_in c (segment_of head).lines

-- what each of these lines is
abbrev pub line_kind : Head → Awaited
line_kind head = kind_in (segment_of head).lines

-- an expression follows these lines
abbrev pub has_tree : Head → Bool
has_tree head = (segment_of head).has_tree

-- the rows of the expression of a piece, its nodes, and the opcode that is pending after them
abbrev pub tree_rows : Piece → List NumberedRow
tree_rows p = if has_tree p.head then drop (pair_count p.head) p.rows else []

abbrev pub piece_nodes : Counts → Piece → List Placed
piece_nodes c p = nodes_of c.n_var (tree_rows p)

abbrev pub piece_pending : Piece → Option Pending
piece_pending p = pending_from None (tree_rows p)

-- what an expression awaits
abbrev pub tree_awaits : List Placed → Option Pending → Awaited
tree_awaits nodes (Some p) = OperandCount
tree_awaits nodes None = if awaited (only_nodes nodes) == 0 then Nothing else NodeLine

-- the line that a piece awaits
unfoldable pub awaited_in : Counts → Piece → Awaited
awaited_in c p =
    if nat_lt (length p.rows) (line_count c p.head) then line_kind p.head else
    if has_tree p.head then tree_awaits (piece_nodes c p) (piece_pending p) else Nothing

abbrev pub is_nothing : Awaited → Bool
is_nothing Nothing = Bool.true
is_nothing a = Bool.false

abbrev pub is_complete : Counts → Piece → Bool
is_complete c p = is_nothing (awaited_in c p)

-- what the piece that was begun last awaits; nothing where no head has come yet
abbrev pub awaited_of : Counts → List Piece → Awaited
awaited_of c pieces = option_map_or (awaited_in c) (last_piece pieces) Nothing

-- ---- What lines say.

-- `index value`
unfoldable pub pair_in : List (List ℕ) → Option Term
pair_in words =
    option_and_then (λ i. option_map (λ d. (i, d)) (dec_of (word_at words 1))) (number_at words 0)

abbrev pub piece_pairs : Piece → List Term
piece_pairs p = filter_map (λ r. pair_in (row_words r)) (take (pair_count p.head) p.rows)

abbrev pub between : Option Dec → Option Dec → Option Interval
between None hi = None
between (Some lo) None = None
between (Some lo) (Some hi) = Some (record { lo = Some lo; hi = Some hi })

-- `0 lo hi`, `1 hi`, `2 lo`, `3` or `4 value`
unfoldable pub interval_in : List (List ℕ) → Option Interval
interval_in words =
    let kind = word_at words 0 in
    let side = dec_of (word_at words 1) in
    if bytes_eq kind (codes "0") then between side (dec_of (word_at words 2)) else
    if bytes_eq kind (codes "1") then option_map (λ d. record { lo = None; hi = Some d }) side else
    if bytes_eq kind (codes "2") then option_map (λ d. record { lo = Some d; hi = None }) side else
    if bytes_eq kind (codes "3") then Some (record { lo = None; hi = None }) else
    if bytes_eq kind (codes "4") then between side side else None

abbrev pub piece_intervals : Piece → List Interval
piece_intervals p = filter_map (λ r. interval_in (row_words r)) p.rows
