-- The sections of an MPS text: a section line, and the data lines up to the next one (usual
-- manuals, free form).
use Rattle.std.specs.Prelude.{ℕ, ◌==◌, Bool, ◌||◌, nat_le, ◌&&◌, not, List, [], ◌∷◌, ◌++◌, length, slice_index, Option, Some, None, if◌then◌else◌, codes}
use Rattle.std.specs.List.{fold, list_any}
use Rattle.std.specs.Str.{bytes_eq}
use Rattle.text_base.specs.Words.{is_blank, words_of, row_of, word_at}
use Rattle.mps_words.specs.declared.keyword.Keyword.{Keyword}
use Rattle.mps_words.specs.declared.keyword.Keyword.TheVariants.{Name, Sense, Rows, Columns, Rhs, Ranges, Bounds, End}

-- ---- Lines.

-- a comment, which begins with `*`, or a line without words
abbrev pub is_left_out : List ℕ → Bool
is_left_out line = (slice_index line 0 == 42) || (length (words_of line) == 0)

-- a data line begins with a blank; any other is a section line
abbrev pub is_data : List ℕ → Bool
is_data line = is_blank (slice_index line 0)

-- the section that a word names: those after the columns, and all
unfoldable pub later_keyword_of : List ℕ → Option Keyword
later_keyword_of word =
    if bytes_eq word (codes "RHS") then Some Rhs else
    if bytes_eq word (codes "RANGES") then Some Ranges else
    if bytes_eq word (codes "BOUNDS") then Some Bounds else
    if bytes_eq word (codes "ENDATA") then Some End else None

unfoldable pub keyword_of : List ℕ → Option Keyword
keyword_of word =
    if bytes_eq word (codes "NAME") then Some Name else
    if bytes_eq word (codes "OBJSENSE") then Some Sense else
    if bytes_eq word (codes "ROWS") then Some Rows else
    if bytes_eq word (codes "COLUMNS") then Some Columns else later_keyword_of word

-- ---- Sections.

-- which section it is, the words of its section line, and those of each data line; words past the
-- twelfth never matter
pub record Section : Type 0 where
  pub keyword : Keyword
  pub words : List (List ℕ)
  pub rows : List (List (List ℕ))

-- a section line begins a section; one of an unknown name, after which nothing is asked, begins
-- none
abbrev pub with_begun : List Section → List (List ℕ) → Option Keyword → List Section
with_begun sections words None = sections
with_begun sections words (Some keyword) =
    sections ++ record { keyword = keyword; words = words; rows = [] } ∷ []

-- with a data line more in the last section
unfoldable pub extended : List Section → List (List ℕ) → List Section
extended [] words = []
extended (s ∷ []) words = record s { rows = s.rows ++ words ∷ [] } ∷ []
extended (s ∷ t ∷ sections) words = s ∷ extended (t ∷ sections) words

abbrev pub with_words : List Section → Bool → List (List ℕ) → List Section
with_words sections data_line words =
    if data_line then extended sections words
    else with_begun sections words (keyword_of (word_at words 0))

abbrev pub with_line : List Section → List ℕ → List Section
with_line sections line =
    if is_left_out line then sections else with_words sections (is_data line) (row_of line)

unfoldable pub sections_of : List (List ℕ) → List Section
sections_of lines = fold with_line [] lines

-- the section that was begun last
unfoldable pub last_section : List Section → Option Section
last_section [] = None
last_section (s ∷ []) = Some s
last_section (s ∷ t ∷ sections) = last_section (t ∷ sections)

-- ---- Their order.

abbrev pub number_of : Keyword → ℕ
number_of Name = 0
number_of Sense = 1
number_of Rows = 2
number_of Columns = 3
number_of Rhs = 4
number_of Ranges = 5
number_of Bounds = 6
number_of End = 7

-- a section of this name was begun
abbrev pub has_begun : List Keyword → Keyword → Bool
has_begun begun keyword = list_any (λ k. number_of k == number_of keyword) begun

-- how far a section comes in a text: name and sense; rows; columns; right sides, ranges and bounds;
-- the end
abbrev pub stage_of : Keyword → ℕ
stage_of Name = 1
stage_of Sense = 1
stage_of Rows = 2
stage_of Columns = 3
stage_of Rhs = 4
stage_of Ranges = 4
stage_of Bounds = 4
stage_of End = 5

abbrev pub stage_after : Option Keyword → ℕ
stage_after None = 0
stage_after (Some keyword) = stage_of keyword

-- the name of the section that was begun last
unfoldable pub last_of : List Keyword → Option Keyword
last_of [] = None
last_of (k ∷ []) = Some k
last_of (k ∷ l ∷ begun) = last_of (l ∷ begun)

-- how far the sections have come
abbrev pub stage : List Keyword → ℕ
stage begun = stage_after (last_of begun)

-- the first and the last stage after which a section may come
abbrev pub first_stage : Keyword → ℕ
first_stage Name = 0
first_stage Sense = 0
first_stage Rows = 0
first_stage Columns = 2
first_stage Rhs = 3
first_stage Ranges = 3
first_stage Bounds = 3
first_stage End = 3

abbrev pub last_stage : Keyword → ℕ
last_stage Name = 1
last_stage Sense = 1
last_stage Rows = 1
last_stage Columns = 2
last_stage Rhs = 4
last_stage Ranges = 4
last_stage Bounds = 4
last_stage End = 4

-- the section is in order after these, and comes for the first time
unfoldable pub may_come : List Keyword → Keyword → Bool
may_come begun keyword =
    nat_le (first_stage keyword) (stage begun) && nat_le (stage begun) (last_stage keyword)
    && not (has_begun begun keyword)
