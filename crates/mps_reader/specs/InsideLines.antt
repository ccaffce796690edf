-- Lines at the front of a piece, which are taken at once.
use Rattle.std.specs.Prelude.{◌≡◌, ℕ, ◌<◌, ◌≤◌, ◌^◌, true, false, List, [], ◌∷◌, ◌++◌, length, get_or, Some, None}
use Rattle.std.specs.List.{AllByRecursion}
use Rattle.std.specs.Str.{bytes_eq}
use Rattle.text_base.specs.Fronts.{IsFront}
use Rattle.text_base.specs.Judged.{first_reason}
use Rattle.text_base.specs.Names.{IsName}
use Rattle.text_base.specs.Words.{word_at}
use Rattle.text_base.specs.declared.grammar.Front.{Front}
use Rattle.exact_numbers.specs.Numbers.{dec_of}
use Rattle.exact_numbers.specs.declared.dec.Dec.{Dec}
use Rattle.mps_model.specs.declared.kinds.BoundKind.{BoundKind}
use Rattle.mps_model.specs.declared.kinds.RowKind.{RowKind}
use Rattle.mps_model.specs.Valid.{marker_word}
use Rattle.mps_words.specs.declared.keyword.Keyword.{Keyword}
use Rattle.mps_words.specs.declared.keyword.Keyword.TheVariants.{Name, Sense, Rows, Columns, Rhs, Ranges, Bounds, End}
use Rattle.mps_reader.specs.Grammar.{line_reason}
use Rattle.mps_words.specs.InsideFronts.{IsLineOf, IsPairText, joined}
use Rattle.mps_reader.specs.InsideHeld.{Held, program}
use Rattle.mps_reader.specs.InsideHeldSteps.{with_sense_word, with_sensed, if_row, with_held_sides, with_held_column_line, with_held_bound_line}
use Rattle.mps_reader.specs.Saying.{bound_kind_of, is_current, needs_number, no_number, place_of, row_in, row_kind_of}
use Rattle.mps_words.specs.Sections.{last_of}
use Rattle.mps_reader.specs.Steps.{after}
use Rattle.mps_reader.specs.Tests.{Standing, data_tests_in, is_full, is_refused_row}

-- nothing is wrong with these lines, one after the other, and they lead to this
abbrev pub GoesOn : Standing → List (List ℕ) → Standing → Type 0
GoesOn s [] t = t ≡ s
GoesOn s (line ∷ lines) t = (line_reason s line ≡ None) × GoesOn (after s line) lines t

-- lines at the front of a piece were taken
pub record TakesLines (old : Held) (piece : List ℕ) (front : Front) (new : Held) : Type 0 where
  pub lines : List (List ℕ)
  pub is : IsFront piece front lines
  pub goes : GoesOn old.standing lines new.standing

-- ---- the next line

-- what a data line of a section does to what is held
abbrev pub held_after : Keyword → Held → List (List ℕ) → Held
held_after Name h words = h
held_after Sense h words = with_sensed (with_sense_word h (word_at words 0))
held_after Rows h words = if_row h (row_in words)
held_after Columns h words = with_held_column_line h words
held_after Rhs h words = with_held_sides Rhs h words
held_after Ranges h words = with_held_sides Ranges h words
held_after Bounds h words = with_held_bound_line h words
held_after End h words = h

-- a text begins with a data line of the section that was begun last, nothing is wrong with it, and
-- it leads to this
pub record IsNext (k : Keyword) (h g : Held) (text rest : List ℕ) : Type 0 where
  pub words : List (List ℕ)
  pub some : 0 < length words
  pub few : length words ≤ 12
  pub line : IsLineOf words text rest
  pub current : last_of h.standing.begun ≡ Some k
  pub none : first_reason (data_tests_in h.standing words (Some k)) ≡ None
  pub is : g ≡ held_after k h words

-- ---- the line of a row

-- a space, the word of this kind, a space, a name, LF, and what follows
pub record IsRowText (text : List ℕ) (kind : RowKind) (name rest : List ℕ) : Type 0 where
  pub word : List ℕ
  pub parts : text ≡ 32 ∷ word ++ 32 ∷ name ++ 10 ∷ rest
  pub is_word : IsName word
  pub is_name : IsName name
  pub says : row_kind_of word ≡ Some kind

-- ---- the line of a pair

-- the name of the row at a place, which is not the word of a marker line, a number, and what
-- follows the line
pub record IsRowPair (rows : List (List ℕ)) (text : List ℕ) (row : ℕ) (value : Dec) (rest : List ℕ)
    : Type 0 where
  pub name : List ℕ
  pub pair : IsPairText text name value rest
  pub other : bytes_eq name marker_word ≡ false
  pub at : place_of rows name ≡ Some row

-- the row may have a pair more
pub record IsFreeRow (k : Keyword) (h : Held) (row : ℕ) : Type 0 where
  pub new : get_or h.marks row false ≡ false
  pub room : is_full k (program h) ≡ false
  pub bounded : is_refused_row k (program h) row ≡ false

-- a new column of this name may come, with an entry
pub record MayBegin (h : Held) (name : List ℕ) : Type 0 where
  pub new : place_of h.columns name ≡ None
  pub few : length h.columns < 2 ^ 21
  pub room : is_full Columns (program h) ≡ false

-- its first word: the name of the last column, which may go on, or the set's name
abbrev pub IsHeadWord : Keyword → Held → List ℕ → Type 0
IsHeadWord Columns h name = is_current h.standing.draft name ≡ true
IsHeadWord keyword h name = h.standing.set ≡ Some name

-- that word, a space, and what follows
pub record IsAfterHead (k : Keyword) (h : Held) (text rest : List ℕ) : Type 0 where
  pub name : List ℕ
  pub parts : text ≡ name ++ 32 ∷ rest
  pub is_name : IsName name
  pub head : IsHeadWord k h name

-- ---- the line of a bound

-- a space, the word of this kind, a space, and what follows
pub record IsKindText (text : List ℕ) (kind : BoundKind) (rest : List ℕ) : Type 0 where
  pub word : List ℕ
  pub parts : text ≡ 32 ∷ word ++ 32 ∷ rest
  pub is_word : IsName word
  pub says : bound_kind_of word ≡ Some kind

-- what stands behind the column's name: the number of the record, or none where it needs none
abbrev pub SaysBound : BoundKind → List (List ℕ) → Dec → Type 0
SaysBound kind [] value = (needs_number kind ≡ false) × (no_number ≡ Some value)
SaysBound kind (word ∷ []) value = (needs_number kind ≡ true) × (dec_of word ≡ Some value)
SaysBound kind (word ∷ other ∷ words) value = ⊥

-- the column's name and that, LF, and what follows
pub record IsBoundText (kind : BoundKind) (text name : List ℕ) (value : Dec) (rest : List ℕ)
    : Type 0 where
  pub words : List (List ℕ)
  pub parts : text ≡ name ++ joined words (10 ∷ rest)
  pub is_name : IsName name
  pub each : AllByRecursion IsName words
  pub says : SaysBound kind words value

-- the name of the column at a place, and that
pub record IsColumnBound (columns : List (List ℕ)) (kind : BoundKind) (text : List ℕ) (column : ℕ)
    (value : Dec) (rest : List ℕ) : Type 0 where
  pub name : List ℕ
  pub bound : IsBoundText kind text name value rest
  pub at : place_of columns name ≡ Some column
