-- What the reader of the body holds, and how this stands to what the lines mean.
use Rattle.std.specs.Prelude.{◌≡◌, ℕ, ℤ, nat_lt, IsSomeAnd, ◌<◌, ◌≤◌, ◌^◌, Bool, true, false, IsTrue, List, [], ◌∷◌, ◌++◌, length, take, get_or, Option, Some, None, IfSome, Result, Ok, Err, All, AllPairs}
use Rattle.std.specs.List.{list_any}
use Rattle.text_base.specs.declared.stop.Stop.{Stop}
use Rattle.text_base.specs.declared.stop.Stop.TheVariants.{Fault, Memory}
use Rattle.text_base.specs.Judged.{first_reason}
use Rattle.nl_model.specs.declared.header_counts.Counts.{Counts}
use Rattle.nl_model.specs.Draft.{Draft, file_of}
use Rattle.nl_header.specs.Head.{options_in, counts_in}
use Rattle.nl_header.specs.Reading.{Taken, IsReading}
use Rattle.nl_model.specs.Rules.{AreTermsBelow, AreIndicesApart, most_terms}
use Rattle.nl_model.specs.UseCounts.{use_count}
use Rattle.nl_lines.specs.declared.awaited.Awaited.{Awaited}
use Rattle.nl_lines.specs.declared.fault.NlReason.{NlReason}
use Rattle.nl_segments.specs.declared.nl_read.NlRead.{NlRead}
use Rattle.nl_lines.specs.declared.head.Head.{Head}
use Rattle.nl_lines.specs.Rows.{NumberedRow, row_words}
use Rattle.nl_lines.specs.Pieces.{Piece, last_piece, is_complete, pair_count, piece_pairs, keeps_pairs}
use Rattle.nl_lines.specs.Tests.{all_column_counts, holds_once, index_limit, is_linear, is_same_piece, is_suffix, node_total, pair_total, row_tests, suffix_count, end_tests}
use Rattle.nl_lines.specs.PairTests.{IsMarked}
use Rattle.nl_lines.specs.NodeRows.{IsNodeKnown}
use Rattle.nl_lines.specs.Heads.{is_in_range}
use Rattle.nl_lines.specs.Saying.{PlaceLines, place_lines}
use Rattle.nl_lines.specs.SeenSegments.{Segments, IsSeenIn, has_segment}
use Rattle.nl_segments.specs.declared.body.BodyReader.{BodyReader}
use Rattle.nl_segments.specs.declared.stage.Stage.{Stage}
use Rattle.nl_segments.specs.declared.stage.Stage.TheVariants.{Header as HeaderStage, Body as BodyStage}
use Rattle.nl_segments.specs.Current.{Current, IsCurrent, current_awaits}
use Rattle.nl_segments.specs.Grammar.{Standing, is_in_header, counts_of, said}
use Rattle.nl_segments.specs.Steps.{after_body_row}

-- the file so far; the last piece, where it is not complete; the name of its suffix; marks for its
-- indices; the segments that came; how many nodes, linear terms, values of suffixes and suffixes
-- came; the numbers of columns; how often each variable stands in terms of constraints; and the
-- lines of places
pub record Body : Type 0 where
  pub draft : Draft
  pub current : Option Current
  pub name : Option (List ℕ)
  pub marks : List Bool
  pub seen : Segments
  pub nodes : ℕ
  pub linear : ℕ
  pub values : ℕ
  pub suffixes : ℕ
  pub columns : List ℕ
  pub uses : List ℕ
  pub places : PlaceLines

abbrev pub body_of : BodyReader → Body
body_of b = record {
  draft = b.builder;
  current = b.current;
  name = b.name;
  marks = b.marks;
  seen = b.seen;
  nodes = b.nodes;
  linear = b.linear;
  values = b.values;
  suffixes = b.suffixes;
  columns = b.columns.items;
  uses = b.uses.items;
  places = b.places;
}

-- ---- What holds of pieces without a fault.

-- its index is in range; so are the indices of its pairs, each of which says something; where an
-- index comes once, they are apart
pub record IsSoundPiece (c : Counts) (p : Piece) : Type 0 where
  pub range : is_in_range c p.head ≡ true
  pub below : AreTermsBelow (index_limit c p.head) (piece_pairs p)
  pub once : IsTrue (holds_once p.head) → AreIndicesApart (piece_pairs p)
  pub pairs : length (piece_pairs p) ≡ length (take (pair_count p.head) p.rows)

-- no piece is that of an earlier one again, and each but the last is complete
pub record AreSound (c : Counts) (pieces : List Piece) : Type 0 where
  pub each : All (IsSoundPiece c) pieces
  pub apart : AllPairs (λ p q. is_same_piece q.head q.name p ≡ false) pieces
  pub complete : (before : List Piece) (p : Piece) → pieces ≡ before ++ p ∷ []
      → All (λ q. is_complete c q ≡ true) before

-- ---- What is held of the last piece.

pub record IsOpen (c : Counts) (d : Draft) (name : Option (List ℕ)) (p : Piece)
    (cur : Current) : Type 0 where
  pub incomplete : is_complete c p ≡ false
  pub current : IsCurrent c p cur
  pub pairs : IsTrue (keeps_pairs p.head) → cur.pairs ≡ piece_pairs p
  pub known : All (IsNodeKnown c.n_var d.definitions) cur.nodes
  pub named : IsTrue (is_suffix p.head) → name ≡ Some p.name

-- the last piece is held where it is not complete
abbrev pub IsLast : Counts → Draft → Option (List ℕ) → Option Piece → Option Current → Type 0
IsLast c d name None None = Unit {0}
IsLast c d name None (Some cur) = ⊥
IsLast c d name (Some p) None = is_complete c p ≡ true
IsLast c d name (Some p) (Some cur) = IsOpen c d name p cur

-- the heads of segments that came, but for suffixes; each head has a mark
abbrev pub AreSeen : Counts → Segments → List Piece → Type 0
AreSeen c seen pieces =
    (head : Head) → is_in_range c head ≡ true → IsSeenIn seen head
    × (is_suffix head ≡ false
    → has_segment seen head ≡ list_any (is_same_piece head []) pieces)

-- an opcode that awaits its number of operands may still become a node
abbrev pub IsNodeLeft : Option Current → ℕ → Type 0
IsNodeLeft None nodes = Unit {0}
IsNodeLeft (Some cur) nodes = IfSome cur.pending (λ q. nodes < 2 ^ 22)

-- ---- What is held of all pieces.
pub record IsHeld (s : Standing) (b : Body) : Type 0 where
  pub body : is_in_header s ≡ false
  pub sound : AreSound (counts_of s) s.pieces
  pub draft : b.draft ≡ said s
  pub counts : b.draft.counts ≡ counts_of s
  pub last : IsLast (counts_of s) b.draft b.name (last_piece s.pieces) b.current
  pub marks : IfSome (last_piece s.pieces) (IsMarked (counts_of s) b.marks)
  pub room : (head : Head) → is_in_range (counts_of s) head ≡ true
      → index_limit (counts_of s) head ≤ length b.marks
  pub seen : AreSeen (counts_of s) b.seen s.pieces
  pub nodes : b.nodes ≡ node_total (counts_of s) s.pieces
  pub linear : b.linear ≡ pair_total is_linear s.pieces
  pub values : b.values ≡ pair_total is_suffix s.pieces
  pub suffixes : b.suffixes ≡ suffix_count s.pieces
  pub columns : b.columns ≡ all_column_counts s.pieces
  pub uses : (j : ℕ) → j < (counts_of s).n_var → get_or b.uses j 0 ≡ use_count b.draft.terms j
  pub users : length b.uses ≡ (counts_of s).n_var
  pub places : b.places ≡ place_lines (counts_of s) s.pieces
  pub few : IsNodeLeft b.current b.nodes
  pub few_terms : b.linear ≤ most_terms

-- it holds what some lines mean
abbrev pub HoldsSome : Body → Type 0
HoldsSome b = (s : Standing) × IsHeld s b

-- ---- What taking a row, or the end, answers.

-- the row of these words in this line
pub record IsRowOf (row : NumberedRow) (words : List (List ℕ)) (line : ℕ) : Type 0 where
  pub same_words : row_words row ≡ words
  pub same_line : row.line ≡ line

-- there is such a row
abbrev pub HasRow : List (List ℕ) → ℕ → Type 0
HasRow words line = (row : NumberedRow) × IsRowOf row words line

-- what is wrong with a row of these words
abbrev pub words_refusal : Standing → List (List ℕ) → Option NlReason
words_refusal s words = first_reason (row_tests (counts_of s) (said s) s.pieces words)

-- a row is taken where nothing is wrong with it; of want of memory nothing is said
abbrev pub TakesRow : Body → List (List ℕ) → ℕ → Result (Unit {0}) (Stop NlReason) → Body → Type 0
TakesRow old words line (Ok u) new = (s : Standing) (row : NumberedRow) → IsRowOf row words line
    → IsHeld s old → (words_refusal s words ≡ None) × IsHeld (after_body_row s row) new
TakesRow old words line (Err (Fault r)) new =
    (s : Standing) → IsHeld s old → words_refusal s words ≡ Some r
TakesRow old words line (Err Memory) new = Unit {0}

-- a row that is no head: the last piece awaits a line of this kind
abbrev pub IsAwaiting : Awaited → Body → Type 0
IsAwaiting kind b = IsSomeAnd b.current (λ c. current_awaits c ≡ kind)

-- the end is reached where nothing is missing; the file and its lines are what the pieces say
abbrev pub end_refusal_of : Standing → Option NlReason
end_refusal_of s = first_reason (end_tests (counts_of s) (said s) s.pieces)

abbrev pub Finishes : Body → Result NlRead (Stop NlReason) → Type 0
Finishes b (Ok r) = (s : Standing) → IsHeld s b → (end_refusal_of s ≡ None)
    × (r.file ≡ file_of (said s)) × (r.places ≡ place_lines (counts_of s) s.pieces)
Finishes b (Err (Fault r)) = (s : Standing) → IsHeld s b → end_refusal_of s ≡ Some r
Finishes b (Err Memory) = Unit {0}

-- these rows are the whole header
pub record IsHeaderOf (rows : List (List (List ℕ))) (options : List ℤ)
    (counts : Counts) : Type 0 where
  pub whole : nat_lt (length rows) 10 ≡ false
  pub same_options : options_in rows ≡ options
  pub same_counts : counts_in rows ≡ counts

-- no pieces after a header
abbrev pub only_header : List (List (List ℕ)) → Standing
only_header rows = record { header = rows; pieces = [] }

-- ---- The whole reader.

-- the header's reader, and that of the body once the header is whole
pub data Progress : Type 0 where
  in_header : Taken → Progress
  in_body : Body → Progress

abbrev pub progress_of : Stage → Progress
progress_of (HeaderStage header) = in_header header
progress_of (BodyStage body) = in_body (body_of body)

-- the reader holds what lines mean
abbrev pub HoldsStanding : Standing → Progress → Type 0
HoldsStanding s (in_header t) = (is_in_header s ≡ true) × (s.pieces ≡ []) × IsReading t s.header
HoldsStanding s (in_body b) = IsHeld s b

abbrev pub IsInHeader : Progress → Type 0
IsInHeader (in_header t) = Unit {0}
IsInHeader (in_body b) = ⊥

-- what holds of each reader: it holds what some lines mean
abbrev pub HoldsSomeLines : Progress → Type 0
HoldsSomeLines g = (s : Standing) × HoldsStanding s g
