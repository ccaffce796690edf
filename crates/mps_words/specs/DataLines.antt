-- What the words of a data line are (usual manuals; set names and markers are an own profile).
use Rattle.std.specs.Prelude.{ℕ, ◌+◌, ◌==◌, Bool, true, false, ◌&&◌, ◌||◌, not, nat_le, nat_lt, List, [], length, drop, Option, Some, None, option_map, is_none, if◌then◌else◌, codes}
use Rattle.std.specs.Str.{bytes_eq}
use Rattle.text_base.specs.Names.{is_name}
use Rattle.text_base.specs.Words.{word_at}
use Rattle.exact_numbers.specs.Rational.{zero_ℚ}
use Rattle.exact_numbers.specs.declared.dec.Dec.{Dec}
use Rattle.exact_numbers.specs.Numbers.{dec_of, dec_from}
use Rattle.mps_model.specs.declared.kinds.RowKind.{RowKind}
use Rattle.mps_model.specs.declared.kinds.RowKind.TheVariants.{N, L, G, E}
use Rattle.mps_model.specs.declared.kinds.BoundKind.{BoundKind}
use Rattle.mps_model.specs.declared.kinds.BoundKind.TheVariants.{Lo, Up, Fx, Fr, Mi, Pl, Bv, Li, Ui}
use Rattle.mps_model.specs.Mps.{MpsRow}
use Rattle.mps_model.specs.Valid.{marker_word}

-- ---- Sense, rows and columns.

-- whether the objective is maximised
unfoldable pub sense_of : List ℕ → Option Bool
sense_of word =
    if bytes_eq word (codes "MAX") || bytes_eq word (codes "MAXIMIZE") then Some true else
    if bytes_eq word (codes "MIN") || bytes_eq word (codes "MINIMIZE") then Some false else None

unfoldable pub row_kind_of : List ℕ → Option RowKind
row_kind_of word =
    if bytes_eq word (codes "N") then Some N else
    if bytes_eq word (codes "L") then Some L else
    if bytes_eq word (codes "G") then Some G else
    if bytes_eq word (codes "E") then Some E else None

-- a name that a row may have
abbrev pub is_row_name : List ℕ → Bool
is_row_name word = is_name word && not (bytes_eq word marker_word)

-- kind and name
unfoldable pub row_in : List (List ℕ) → Option MpsRow
row_in words =
    if length words == 2 && is_row_name (word_at words 1)
    then option_map (λ kind. record { name = word_at words 1; kind = kind })
    (row_kind_of (word_at words 0))
    else None

-- a marker line: its name, which is not looked at, the marker's word, and what begins or ends
abbrev pub is_marker : List (List ℕ) → Bool
is_marker words = length words == 3 && bytes_eq (word_at words 1) marker_word

abbrev pub is_stretch_begin : List ℕ → Bool
is_stretch_begin word = bytes_eq word (codes "'INTORG'")

abbrev pub is_stretch_end : List ℕ → Bool
is_stretch_end word = bytes_eq word (codes "'INTEND'")

-- ---- Right sides and ranges: an optional set name, and one or two pairs.

-- a word, and one or two pairs
abbrev pub is_word_with_pairs : List (List ℕ) → Bool
is_word_with_pairs words = (length words == 3) || (length words == 5)

-- one or two pairs, with a set name or without
abbrev pub has_side_form : List (List ℕ) → Bool
has_side_form words = nat_le 2 (length words) && nat_le (length words) 5

-- a missing set name is the empty one
abbrev pub side_set : List (List ℕ) → List ℕ
side_set words = if is_word_with_pairs words then word_at words 0 else []

-- a set name that is given and is no name
abbrev pub is_bad_set : List ℕ → Bool
is_bad_set set = not (length set == 0) && not (is_name set)

abbrev pub side_pairs : List (List ℕ) → List (List ℕ)
side_pairs words = if is_word_with_pairs words then drop 1 words else words

-- ---- Bounds.

-- the kind of a word: those without a number, and all
unfoldable pub later_bound_kind_of : List ℕ → Option BoundKind
later_bound_kind_of word =
    if bytes_eq word (codes "FR") then Some Fr else
    if bytes_eq word (codes "MI") then Some Mi else
    if bytes_eq word (codes "PL") then Some Pl else
    if bytes_eq word (codes "BV") then Some Bv else None

unfoldable pub bound_kind_of : List ℕ → Option BoundKind
bound_kind_of word =
    if bytes_eq word (codes "LO") then Some Lo else
    if bytes_eq word (codes "UP") then Some Up else
    if bytes_eq word (codes "FX") then Some Fx else
    if bytes_eq word (codes "LI") then Some Li else
    if bytes_eq word (codes "UI") then Some Ui else later_bound_kind_of word

-- records of this kind have a number
abbrev pub needs_number : BoundKind → Bool
needs_number Lo = true
needs_number Up = true
needs_number Fx = true
needs_number Li = true
needs_number Ui = true
needs_number Fr = false
needs_number Mi = false
needs_number Pl = false
needs_number Bv = false

-- from the kind to the number that may be ignored, or must be there
abbrev pub has_bound_form : BoundKind → List (List ℕ) → Bool
has_bound_form kind words =
    nat_le (if needs_number kind then 3 else 2) (length words) && nat_le (length words) 4

-- a record without a number may have an ignored one, behind a set name
abbrev pub has_bound_set : BoundKind → List (List ℕ) → Bool
has_bound_set kind words = if needs_number kind then length words == 4 else nat_le 3 (length words)

abbrev pub bound_set : BoundKind → List (List ℕ) → List ℕ
bound_set kind words = if has_bound_set kind words then word_at words 1 else []

-- the place of the column's name among the words
abbrev pub bound_place : BoundKind → List (List ℕ) → ℕ
bound_place kind words = if has_bound_set kind words then 2 else 1

abbrev pub bound_column : BoundKind → List (List ℕ) → List ℕ
bound_column kind words = word_at words (bound_place kind words)

abbrev pub bound_number : BoundKind → List (List ℕ) → List ℕ
bound_number kind words = word_at words (bound_place kind words + 1)

-- a number that stands there must be one
abbrev pub has_bad_number : BoundKind → List (List ℕ) → Bool
has_bad_number kind words =
    nat_lt (bound_place kind words + 1) (length words) && is_none (dec_of (bound_number kind words))

-- the number 0, of a record that needs none
abbrev pub no_number : Option Dec
no_number = dec_from zero_ℚ

-- the number of a record
abbrev pub bound_value : BoundKind → List (List ℕ) → Option Dec
bound_value kind words = if needs_number kind then dec_of (bound_number kind words) else no_number
