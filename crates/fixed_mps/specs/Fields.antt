-- The fields of a line of fixed columns (usual manuals), and the free form of the line.
use Rattle.std.specs.Prelude.{ℕ, ◌==◌, Bool, not, ◌||◌, nat_lt, List, [], ◌∷◌, ◌++◌, length, take, slice_range, if◌then◌else◌, codes}
use Rattle.std.specs.List.{list_any, list_all, flat_map}
use Rattle.std.specs.Str.{bytes_eq}
use Rattle.text_base.specs.Words.{words_of}
use Rattle.mps_words.specs.Sections.{is_left_out, is_data}

-- ---- Columns, counted from 0: the first one, and the one after the last.

abbrev pub bytes_in : List ℕ → ℕ × ℕ → List ℕ
bytes_in line columns = slice_range line columns.0 columns.1

-- the kind of a row or a bound
abbrev pub kind_field : ℕ × ℕ
kind_field = (1, 3)

-- the name of a column, a row or a set
abbrev pub name_field : ℕ × ℕ
name_field = (4, 12)

-- the name of a row or of a bounded column, and its number
abbrev pub row_field : ℕ × ℕ
row_field = (14, 22)

abbrev pub value_field : ℕ × ℕ
value_field = (24, 36)

-- a second row and its number
abbrev pub next_row_field : ℕ × ℕ
next_row_field = (39, 47)

abbrev pub next_value_field : ℕ × ℕ
next_value_field = (49, 61)

abbrev pub fields : List (ℕ × ℕ)
fields =
    kind_field ∷ name_field ∷ row_field ∷ value_field ∷ next_row_field ∷ next_value_field ∷ []

-- the columns between the fields
abbrev pub gaps : List (ℕ × ℕ)
gaps = (0, 1) ∷ (3, 4) ∷ (12, 14) ∷ (22, 24) ∷ (36, 39) ∷ (47, 49) ∷ []

-- ---- Lines that do not keep to the fields.

abbrev pub is_space_only : List ℕ → Bool
is_space_only bytes = list_all (λ b. b == 32) bytes

abbrev pub has_tab : List ℕ → Bool
has_tab line = list_any (λ b. b == 9) line

-- only spaces stand between the fields
abbrev pub has_clear_gaps : List ℕ → Bool
has_clear_gaps line = list_all (λ gap. is_space_only (bytes_in line gap)) gaps

-- a field has more than one word
abbrev pub has_crowded_field : List ℕ → Bool
has_crowded_field line =
    list_any (λ field. nat_lt 1 (length (words_of (bytes_in line field)))) fields

unfoldable pub is_misplaced : List ℕ → Bool
is_misplaced line = has_tab line || not (has_clear_gaps line) || has_crowded_field line

-- ---- The words of the fields.

-- the kind of a bound without a number
abbrev pub is_numberless : List ℕ → Bool
is_numberless word =
    bytes_eq word (codes "FR") || bytes_eq word (codes "MI") || bytes_eq word (codes "PL")
    || bytes_eq word (codes "BV")

abbrev pub has_no_number : List ℕ → Bool
has_no_number line = list_any is_numberless (take 1 (words_of (bytes_in line kind_field)))

-- a space before each word
abbrev pub spaced : List (List ℕ) → List ℕ
spaced words = flat_map (λ word. 32 ∷ word) words

-- the word of a field, if it is not empty
abbrev pub field_text : List ℕ → ℕ × ℕ → List ℕ
field_text line field = spaced (take 1 (words_of (bytes_in line field)))

abbrev pub names_text : List ℕ → List ℕ
names_text line =
    field_text line kind_field ++ field_text line name_field ++ field_text line row_field

-- a number after a kind that has none is left out
abbrev pub value_text : List ℕ → List ℕ
value_text line = if has_no_number line then [] else field_text line value_field

abbrev pub next_pair_text : List ℕ → List ℕ
next_pair_text line = field_text line next_row_field ++ field_text line next_value_field

abbrev pub fields_text : List ℕ → List ℕ
fields_text line = names_text line ++ value_text line ++ next_pair_text line

-- ---- The free form.

-- ` FR` is refused as a data line of each section
unfoldable pub columns_text : List ℕ → List ℕ
columns_text line = if is_misplaced line then codes " FR" else fields_text line

-- by the words of the line
abbrev pub text_by : List (List ℕ) → List ℕ → List ℕ
text_by [] line = 32 ∷ []
text_by (word ∷ []) line = 32 ∷ word
text_by (word ∷ next ∷ words) line = columns_text line

abbrev pub cut_text : List ℕ → List ℕ
cut_text line = text_by (words_of line) line

-- a line that is no data line: a comment, one without words, or a section line
abbrev pub is_as_it_is : List ℕ → Bool
is_as_it_is line = is_left_out line || not (is_data line)

-- the free form of a line; nothing counts after the last field
unfoldable pub free : List ℕ → List ℕ
free line = if is_as_it_is line then line else cut_text (take 61 line)
