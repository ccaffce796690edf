-- What the rows of an answer say, one by one.
use Rattle.std.specs.Prelude.{ℕ, Bool, true, false, nat_lt, List, length, drop, filter, Option, Some, None, option_map, if◌then◌else◌, codes}
use Rattle.std.specs.List.{filter_map}
use Rattle.std.specs.Str.{bytes_eq}
use Rattle.text_base.specs.Words.{row_of, without_blanks, word_at}
use Rattle.exact_numbers.specs.declared.dec.Dec.{Dec}
use Rattle.exact_numbers.specs.Numbers.{whole_of, dec_of}
use Rattle.nl_model.specs.SuffixKinds.{objects_of}
use Rattle.answer_file.specs.declared.keyword.Keyword.{Keyword}
use Rattle.answer_file.specs.declared.keyword.Keyword.TheVariants.{Status, Message, Sign, Objno, Col, Row, Suffix}
use Rattle.answer_file.specs.declared.target.Target.{Target}
use Rattle.answer_file.specs.declared.target.Target.TheVariants.{Place}
use Rattle.answer_file.specs.Names.{Setting, column_target, row_target, object_target}

-- ---- Words.

-- the word that a line begins with
unfoldable pub keyword_of : List ℕ → Option Keyword
keyword_of word =
    if bytes_eq word (codes "status") then Some Status else
    if bytes_eq word (codes "message") then Some Message else
    if bytes_eq word (codes "sign") then Some Sign else
    if bytes_eq word (codes "objno") then Some Objno else
    if bytes_eq word (codes "col") then Some Col else
    if bytes_eq word (codes "row") then Some Row else
    if bytes_eq word (codes "suffix") then Some Suffix else
    None

-- a whole number below a limit
abbrev pub below : ℕ → Option ℕ → Option ℕ
below limit None = None
below limit (Some n) = if nat_lt n limit then Some n else None

abbrev pub number_below : ℕ → List ℕ → Option ℕ
number_below limit word = below limit (whole_of word)

-- ---- Lines.

-- a value of a suffix: its kind and name, the place of its object, and the value
pub record SuffixLine : Type 0 where
  pub kind : ℕ
  pub name : List ℕ
  pub place : ℕ
  pub value : Dec

pub data Entry : Type 0 where
  StatusIs : ℕ → Entry
  MessageLine : List ℕ → Entry
  -- whether duals are given as for minimising
  SignIs : Bool → Entry
  ObjectiveIs : ℕ → Entry
  ColumnValue : ℕ → Dec → Entry
  RowValue : ℕ → Dec → Entry
  SuffixValue : SuffixLine → Entry

abbrev pub status_in : List (List ℕ) → Option ℕ
status_in words = number_below 1000 (word_at words 1)

-- all after the word and one blank
abbrev pub message_in : List ℕ → List ℕ
message_in line = drop 8 (without_blanks line)

abbrev pub sign_in : List (List ℕ) → Option Bool
sign_in words =
    if bytes_eq (word_at words 1) (codes "min") then Some true else
    if bytes_eq (word_at words 1) (codes "rate") then Some false else None

abbrev pub objective_in : List (List ℕ) → Option ℕ
objective_in words = whole_of (word_at words 1)

abbrev pub kind_in : List (List ℕ) → Option ℕ
kind_in words = number_below 8 (word_at words 1)

-- a value for the column or row that ties the objective says nothing
abbrev pub at_place : (ℕ → Dec → Entry) → Option Target → Option Dec → Option Entry
at_place entry (Some (Place i)) (Some value) = Some (entry i value)
at_place entry target value = None

abbrev pub suffix_entry : ℕ → List ℕ → ℕ → Dec → Entry
suffix_entry kind name place value = SuffixValue (record {
  kind = kind;
  name = name;
  place = place;
  value = value;
})

abbrev pub suffix_in : Setting → List (List ℕ) → Option ℕ → Option Entry
suffix_in s words None = None
suffix_in s words (Some kind) = at_place (suffix_entry kind (word_at words 2))
    (object_target s (objects_of kind) (word_at words 3)) (dec_of (word_at words 4))

abbrev pub entry_by : Setting → List ℕ → List (List ℕ) → Option Keyword → Option Entry
entry_by s line words None = None
entry_by s line words (Some Status) = option_map StatusIs (status_in words)
entry_by s line words (Some Message) = Some (MessageLine (message_in line))
entry_by s line words (Some Sign) = option_map SignIs (sign_in words)
entry_by s line words (Some Objno) = option_map ObjectiveIs (objective_in words)
entry_by s line words (Some Col) = at_place ColumnValue (column_target s (word_at words 1))
    (dec_of (word_at words 2))
entry_by s line words (Some Row) = at_place RowValue (row_target s (word_at words 1))
    (dec_of (word_at words 2))
entry_by s line words (Some Suffix) = suffix_in s words (kind_in words)

-- what a line without a fault says, after the first
unfoldable pub entry_in : Setting → List ℕ → Option Entry
entry_in s line = entry_by s line (row_of line) (keyword_of (word_at (row_of line) 0))

-- ---- All lines.

-- lines that hold words
abbrev pub rows_of : List (List ℕ) → List (List ℕ)
rows_of lines = filter (λ line. nat_lt 0 (length (row_of line))) lines

-- what the lines after the first say
unfoldable pub entries_of : Setting → List (List ℕ) → List Entry
entries_of s lines = filter_map (entry_in s) (drop 1 (rows_of lines))

-- ---- The lines of one kind.

abbrev pub status_of : Entry → Option ℕ
status_of (StatusIs n) = Some n
status_of entry = None

abbrev pub message_of : Entry → Option (List ℕ)
message_of (MessageLine text) = Some text
message_of entry = None

abbrev pub sign_of : Entry → Option Bool
sign_of (SignIs min) = Some min
sign_of entry = None

abbrev pub objective_of : Entry → Option ℕ
objective_of (ObjectiveIs k) = Some k
objective_of entry = None

abbrev pub column_of : Entry → Option (ℕ × Dec)
column_of (ColumnValue j value) = Some (j, value)
column_of entry = None

abbrev pub row_value_of : Entry → Option (ℕ × Dec)
row_value_of (RowValue i value) = Some (i, value)
row_value_of entry = None

abbrev pub suffix_line_of : Entry → Option SuffixLine
suffix_line_of (SuffixValue line) = Some line
suffix_line_of entry = None
