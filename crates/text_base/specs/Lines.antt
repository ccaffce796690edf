-- The lines of a text, and the line fault that may end them.
use Rattle.std.specs.Prelude.{◌≡◌, ◌+◌, ◌<◌, ◌≤◌, ◌-◌, ◌^◌, ◌==◌, ℕ, nat_le, Bool, List, [], ◌∷◌, ◌++◌, length, map, take, get_or, if◌then◌else◌, is_some, not, take_while}
use Rattle.std.specs.List.{suffix_len, slice_split, list_all}
use Rattle.std.specs.declared.option.Option.{Option}
use Rattle.std.specs.declared.option.Option.TheVariants.{None, Some}
use Rattle.text_base.specs.declared.lines.LineFault.{LineFault}
use Rattle.text_base.specs.declared.lines.LineFault.TheVariants.{LineTooLong, InputTooLong}
use Rattle.text_base.specs.declared.lines.Taken.{Taken}
use Rattle.text_base.specs.declared.lines.Taken.TheVariants.{Line, More, Fault}

-- the bytes without the CR bytes at their end
abbrev pub trimmed : List ℕ → List ℕ
trimmed bytes = take (length bytes - suffix_len (λ b. b == 13) bytes) bytes

-- a line has at most 65,536 bytes, without its LF
abbrev pub is_short : List ℕ → Bool
is_short part = nat_le (length part) 65536

-- The parts of a text that is cut at each LF. Byte 2^31 + 1 and what follows it are not in them.
abbrev pub parts_of : List ℕ → List (List ℕ)
parts_of text = slice_split (λ b. b == 10) (take (2 ^ 31) text)

-- the parts with an LF after them, up to the first that is too long
abbrev pub ended_parts : List (List ℕ) → List (List ℕ)
ended_parts parts = take_while is_short (take (length parts - 1) parts)

-- a part is too long, or else the text
abbrev pub line_fault : List (List ℕ) → Bool → Option LineFault
line_fault parts fits =
    if list_all is_short parts
    then (if fits then None else Some InputTooLong)
    else Some LineTooLong

-- How far the lines of a text go.
pub record Scan : Type 0 where
  -- the lines that have ended, without LF and without the CR bytes at their end
  pub lines : List (List ℕ)
  -- the bytes after them, as many as one line may have
  pub rest : List ℕ
  -- what is wrong with the line after them
  pub fault : Option LineFault

abbrev pub scan_of : List (List ℕ) → Bool → Scan
scan_of parts fits = record {
  lines = map trimmed (ended_parts parts);
  rest = take 65536 (get_or parts (length (ended_parts parts)) []);
  fault = line_fault parts fits;
}

unfoldable pub scan : List ℕ → Scan
scan text = scan_of (parts_of text) (nat_le (length text) (2 ^ 31))

-- ---- What a reader of lines stands for.

pub record LinesState : Type 0 where
  -- how many lines have ended
  pub count : ℕ
  -- the bytes after them
  pub rest : List ℕ
  -- the line that was given last, if that was the last call's answer
  pub line : Option (List ℕ)
  -- how many bytes were taken
  pub total : ℕ
  pub fault : Option LineFault

abbrev pub new_state : LinesState
new_state = record { count = 0; rest = []; line = None; total = 0; fault = None }

-- The reader has taken this text, and is where its lines end. After a fault only the count and the
-- fault are kept.
pub record StandsFor (text : List ℕ) (s : LinesState) : Type 0 where
  pub count : s.count ≡ length (scan text).lines
  pub fault : s.fault ≡ (scan text).fault
  pub rest : s.fault ≡ None → s.rest ≡ (scan text).rest
  pub total : s.fault ≡ None → s.total ≡ length text
  pub awaits : (fault : LineFault) → s.fault ≡ Some fault → s.line ≡ None

-- how the lines go on when these bytes come
abbrev pub GoesOn : Scan → Scan → Taken → LinesState → Type 0
GoesOn c next (Line n) s =
    (next.fault ≡ None)
    × ((line : List ℕ) × (s.line ≡ Some line) × (next.lines ≡ c.lines ++ line ∷ []))
GoesOn c next More s = (next.fault ≡ None) × (next.lines ≡ c.lines)
GoesOn c next (Fault fault) s = (next.fault ≡ Some fault) × (next.lines ≡ c.lines) × (s.line ≡ None)

-- the bytes of a piece that were taken; with a fault, all
abbrev pub taken_of : Taken → List ℕ → List ℕ
taken_of (Line n) piece = take n piece
taken_of More piece = piece
taken_of (Fault fault) piece = piece

-- What is said of an answer.
abbrev pub IfLine : Taken → (ℕ → Type 0) → Type 0
IfLine (Line n) P = P n
IfLine More P = Unit {0}
IfLine (Fault fault) P = Unit {0}

-- the bytes before the first line end
abbrev pub front_of : List ℕ → List ℕ
front_of bytes = take_while (λ b. not (b == 10)) bytes

-- what taking a piece answers and leaves, before any fault
abbrev pub TakesMore : LinesState → List ℕ → LinesState → Type 0
TakesMore s piece after =
    (front_of piece ≡ piece) × (length s.rest + length piece ≤ 65536)
    × (s.total + length piece ≤ 2 ^ 31)
    × (after ≡ record s { rest = s.rest ++ piece; line = None; total = s.total + length piece })

abbrev pub TakesLine : LinesState → List ℕ → ℕ → LinesState → Type 0
TakesLine s piece n after =
    (n ≡ length (front_of piece) + 1) × (n ≤ length piece)
    × (length s.rest + length (front_of piece) ≤ 65536) × (s.total + n ≤ 2 ^ 31)
    × (after ≡ record s {
      count = s.count + 1;
      rest = [];
      line = Some (trimmed (s.rest ++ front_of piece));
      total = s.total + n;
    })

-- a line that lies whole in a piece, where none was begun
abbrev pub TakesWhole : LinesState → List ℕ → List ℕ → ℕ → LinesState → Type 0
TakesWhole s piece line n after =
    (s.fault ≡ None) × (s.rest ≡ []) × (line ≡ trimmed (front_of piece))
    × (n ≡ length (front_of piece) + 1) × (n ≤ length piece)
    × (length (front_of piece) ≤ 65536) × (s.total + n ≤ 2 ^ 31)
    × (after ≡ record s { count = s.count + 1; line = None; total = s.total + n })

-- the lines go on by this line
abbrev pub EndsLine : Scan → Scan → List ℕ → Type 0
EndsLine c next line = (next.fault ≡ None) × (next.lines ≡ c.lines ++ line ∷ [])

-- byte 65,537 of a line comes, within the input's limit
abbrev pub HasLongLine : LinesState → List ℕ → Type 0
HasLongLine s piece =
    (length s.rest ≤ 65536) × (65536 < length s.rest + length (front_of piece))
    × (s.total + (65537 - length s.rest) ≤ 2 ^ 31)

-- byte 2^31 + 1 of the input comes, and no line before it is too long
abbrev pub IsLongInput : LinesState → List ℕ → Type 0
IsLongInput s piece =
    let k = 2 ^ 31 - s.total in
    (s.total ≤ 2 ^ 31) × (k < length piece) × (k ≤ length (front_of piece))
    × (length s.rest + k ≤ 65536)

abbrev pub Faulted : LineFault → LinesState → List ℕ → LinesState → Type 0
Faulted LineTooLong s piece after =
    HasLongLine s piece × (after ≡ record s { line = None; fault = Some LineTooLong })
Faulted InputTooLong s piece after =
    IsLongInput s piece × (after ≡ record s { line = None; fault = Some InputTooLong })

abbrev pub TakesNow : LinesState → List ℕ → Taken → LinesState → Type 0
TakesNow s piece (Line n) after = TakesLine s piece n after
TakesNow s piece More after = TakesMore s piece after
TakesNow s piece (Fault fault) after = Faulted fault s piece after

abbrev pub TakesBy : Option LineFault → LinesState → List ℕ → Taken → LinesState → Type 0
TakesBy None s piece taken after = TakesNow s piece taken after
TakesBy (Some fault) s piece taken after = (taken ≡ Fault fault) × (after ≡ s)

-- after a fault each piece answers it again
abbrev pub TakesPiece : LinesState → List ℕ → Taken → LinesState → Type 0
TakesPiece s piece taken after = TakesBy s.fault s piece taken after

-- what the end of the text leaves: the bytes after the last line end, if there are any, are the
-- line
abbrev pub end_done : LinesState → LinesState
end_done s =
    if length s.rest == 0
    then record s { line = None }
    else record s { count = s.count + 1; rest = []; line = Some (trimmed s.rest) }

-- the number of the line that was given, or of the one that is awaited
abbrev pub number_of : LinesState → ℕ
number_of s = if is_some s.line then s.count else s.count + 1
