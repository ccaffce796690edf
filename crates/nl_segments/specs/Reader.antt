-- What reading an .nl text answers, and what a reader of one stands for.
use Rattle.std.specs.Prelude.{◌≡◌, ◌<◌, ◌≤◌, ℕ, List, Option, Some, option_map, slice_get, IsSome, IsSomeAnd, Result, Ok, Err, refl}
use Rattle.std.specs.List.{Contains}
use Rattle.std.specs.Coded.{Coded, code_by, coded×, coded_option}
use Rattle.text_base.specs.contracts.lines.Lines.{the_row as lines_row}
use Rattle.text_base.specs.declared.stop.Stop.{Stop}
use Rattle.text_base.specs.declared.stop.Stop.TheVariants.{Fault, Memory}
use Rattle.text_base.specs.declared.fault.TextFault.{TextFault}
use Rattle.text_base.specs.Lines.{LinesState}
use Rattle.text_base.specs.Reading.{Stands, IsRead, HasFault, HasFaultSoFar}
use Rattle.nl_model.specs.declared.at.At.{At}
use Rattle.nl_model.specs.declared.at.Owner.{Owner}
use Rattle.nl_model.specs.declared.at.Owner.TheVariants.{Con, Def, Obj}
use Rattle.nl_model.specs.File.{File}
use Rattle.nl_model.specs.FilePlaces.{HasPlace, tree_at}
use Rattle.nl_model.specs.Nodes.{IsPrefix}
use Rattle.nl_model.specs.Trees.{Tree}
use Rattle.nl_lines.specs.declared.head.Head.{Head}
use Rattle.nl_lines.specs.declared.head.Head.TheVariants.{Body, Definition, Objective}
use Rattle.nl_lines.specs.Nodes.{only_nodes}
use Rattle.nl_lines.specs.Pieces.{Piece, piece_nodes}
use Rattle.nl_lines.specs.declared.fault.NlFault.{NlFault}
use Rattle.nl_lines.specs.declared.fault.NlReason.{NlReason}
use Rattle.nl_lines.specs.declared.fault.NlReason.TheVariants.{RefusedOpcode}
use Rattle.nl_segments.specs.declared.nl_read.NlRead.{NlRead}
use Rattle.nl_lines.specs.Saying.{place_line}
use Rattle.nl_segments.specs.Grammar.{Standing, standing, counts_of, nl_rules, NlValue, SaysFile}
use Rattle.nl_segments.specs.Held.{Progress, HoldsStanding}
use Rattle.nl_segments.specs.InsideHeldCode.{progress_code, stop_code}

-- ---- texts

-- the text has no fault, and says this
abbrev pub IsNl : List ℕ → NlValue → Type 0
IsNl text value = IsRead nl_rules SaysFile text value

-- the opcode that a reason names; 0 for any other reason
abbrev pub opcode_of : NlReason → ℕ
opcode_of (RefusedOpcode opcode) = opcode
opcode_of reason = 0

-- the text's first fault
pub record HasNlFault (text : List ℕ) (f : NlFault) : Type 0 where
  pub first : HasFault nl_rules text (record { reason = f.reason; line = f.line })
  pub opcode : f.opcode ≡ opcode_of f.reason

-- the same of a text of which more may come
pub record HasNlFaultSoFar (text : List ℕ) (f : NlFault) : Type 0 where
  pub first : HasFaultSoFar nl_rules text (record { reason = f.reason; line = f.line })
  pub opcode : f.opcode ≡ opcode_of f.reason

abbrev pub value_of : NlRead → NlValue
value_of r = record { file = r.file; places = r.places }

-- what reading a text answers; of want of memory nothing is said
abbrev pub ReadsNl : List ℕ → Result NlRead (Stop NlFault) → Type 0
ReadsNl text (Ok r) = IsNl text (value_of r)
ReadsNl text (Err (Fault f)) = HasNlFault text f
ReadsNl text (Err Memory) = Unit {0}

-- each place of the file has its line
abbrev pub HasLines : NlRead → Type 0
HasLines r = (at : At) → HasPlace r.file at → IsSome (place_line r.places at)

-- each place of the file has its line, which is one of so many lines
abbrev pub HasLinesUpTo : ℕ → NlValue → Type 0
HasLinesUpTo count v = (at : At) → HasPlace v.file at
    → IsSomeAnd (place_line v.places at) (λ line. (0 < line) × (line ≤ count))

-- a head begins the expression of an owner of the file
abbrev pub BeginsTree : File → Owner → Head → Type 0
BeginsTree f (Con i) (Body k) = k ≡ i
BeginsTree f (Obj k) (Objective j maximise) = j ≡ k
BeginsTree f (Def i) (Definition index j usage) =
    option_map (λ d. d.index) (slice_get f.definitions i) ≡ Some index
BeginsTree f owner head = ⊥

-- a tree of an owner has, in prefix form, the nodes of the rows of a piece that begins its
-- expression
pub record HasPiece (s : Standing) (f : File) (owner : Owner) (t : Tree) : Type 0 where
  pub piece : Piece
  pub among : Contains s.pieces piece
  pub begins : BeginsTree f owner piece.head
  pub nodes : IsPrefix t (only_nodes (piece_nodes (counts_of s) piece))

-- each expression of the file is read from a piece
abbrev pub HasPieces : Standing → File → Type 0
HasPieces s f = (owner : Owner) (t : Tree) → tree_at f owner ≡ Some t → HasPiece s f owner t

-- ---- readers

abbrev pub fault_of : TextFault NlReason → NlFault
fault_of f = record { reason = f.reason; line = f.line; opcode = opcode_of f.reason }

abbrev pub stop_of : Stop (TextFault NlReason) → Stop NlFault
stop_of (Fault f) = Fault (fault_of f)
stop_of Memory = Memory

-- the lines of the bytes so far, what is held of them, and why it stopped
pub record Reading : Type 0 where
  pub lines : LinesState
  pub progress : Progress
  pub stopped : Option (Stop (TextFault NlReason))

-- why the reader stopped, where it did
abbrev pub stop_in : Reading → Option (Stop NlFault)
stop_in r = option_map stop_of r.stopped

-- the reader was fed this text
abbrev pub IsFed : Reading → List ℕ → Type 0
IsFed r text =
    Stands r.stopped nl_rules (λ lines. HoldsStanding (standing lines) r.progress) r.lines text

-- what holds of each reader: it was fed some text
abbrev pub WasFed : Reading → Type 0
WasFed r = (text : List ℕ) × IsFed r text

-- the code of what a reader stands for
abbrev pub reading_code : Coded Reading
reading_code =
    code_by (LinesState × (Progress × Option (Stop (TextFault NlReason))))
    (coded× lines_row.coded (coded× progress_code (coded_option stop_code)))
    (λ r. (r.lines, (r.progress, r.stopped)))
    (λ p. record { lines = p.0; progress = p.1.0; stopped = p.1.1 })
    (λ _. refl)
