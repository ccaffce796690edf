-- The heads of segments (Gay 2005, "Writing .nl Files", segments).
use Rattle.std.specs.Prelude.{ℕ, ◌+◌, ◌==◌, Bool, ◌&&◌, ◌||◌, not, nat_le, nat_lt, List, length, drop, slice_index, Option, Some, None, option_map, option_and_then, if◌then◌else◌, codes}
use Rattle.std.specs.List.{list_any}
use Rattle.text_base.specs.Names.{is_name}
use Rattle.nl_model.specs.declared.header_counts.Counts.{Counts}
use Rattle.nl_lines.specs.declared.head.Head.{Head}
use Rattle.nl_lines.specs.declared.head.Head.TheVariants.{Body, Objective, Definition, DualGuesses, PrimalGuesses, Sides, Bounds, ColumnCounts, Terms, Slopes, Suffix}
use Rattle.exact_numbers.specs.Numbers.{whole_of}
use Rattle.text_base.specs.Words.{word_at}
use Rattle.nl_lines.specs.Segment.{is_subject_of, segment_of}

-- the first byte of the first word
abbrev pub letter_of : List (List ℕ) → ℕ
letter_of words = slice_index (word_at words 0) 0

-- one of the letters of a text
abbrev pub is_among : List ℕ → ℕ → Bool
is_among letters letter = list_any (λ l. l == letter) letters

abbrev pub is_ascii_letter : ℕ → Bool
is_ascii_letter b = (nat_le 65 b && nat_le b 90) || (nat_le 97 b && nat_le b 122)

-- a row is a head where its first letter begins no line of an expression
abbrev pub is_head : List (List ℕ) → Bool
is_head words =
    is_ascii_letter (letter_of words) && not (is_among (codes "onslvhf") (letter_of words))

-- imported functions and logical constraints, which are refused
abbrev pub is_refused_letter : ℕ → Bool
is_refused_letter letter = is_among (codes "FLK") letter

abbrev pub is_segment_letter : ℕ → Bool
is_segment_letter letter = is_among (codes "COVdxrbkJGS") letter

-- ---- The forms of heads: none where the number of words or a number is wrong.

-- the number that directly follows the letter
abbrev pub own_number : List (List ℕ) → Option ℕ
own_number words = whole_of (drop 1 (word_at words 0))

-- the number that another word is
abbrev pub number_at : List (List ℕ) → ℕ → Option ℕ
number_at words i = whole_of (word_at words i)

-- a letter alone: `r`
abbrev pub bare_head : Head → List (List ℕ) → Option Head
bare_head head words =
    if length words == 1 && (length (word_at words 0) == 1) then Some head else None

-- a letter and a number: `C0`
abbrev pub numbered_head : (ℕ → Option Head) → List (List ℕ) → Option Head
numbered_head head words =
    if length words == 1 then option_and_then head (own_number words) else None

-- the number after the letter, and the next word's
abbrev pub of_two_numbers : (ℕ → ℕ → Option Head) → List (List ℕ) → Option Head
of_two_numbers head words =
    option_and_then (λ i. option_and_then (head i) (number_at words 1)) (own_number words)

-- a letter and two numbers: `J0 2`
abbrev pub counted_head : (ℕ → ℕ → Option Head) → List (List ℕ) → Option Head
counted_head head words = if length words == 2 then of_two_numbers head words else None

-- `O0 1`: the sense is 0 or 1
abbrev pub with_sense : ℕ → ℕ → Option Head
with_sense k sense = if nat_le sense 1 then Some (Objective k (sense == 1)) else None

-- `V4 1 0`
abbrev pub definition_head : List (List ℕ) → Option Head
definition_head words =
    if length words == 3
    then of_two_numbers (λ i j. option_map (Definition i j) (number_at words 2)) words
    else None

-- `k3`: one number less than there are variables
abbrev pub of_columns : Counts → ℕ → Option Head
of_columns c n = if n + 1 == c.n_var then Some (ColumnCounts n) else None

-- `S0 2 name`: the kind is below 256
abbrev pub of_kind : ℕ → ℕ → Option Head
of_kind kind n = if nat_lt kind 256 then Some (Suffix kind n) else None

abbrev pub suffix_head : List (List ℕ) → Option Head
suffix_head words =
    if length words == 3 && is_name (word_at words 2) then of_two_numbers of_kind words else None

-- what a head says, where its form is right
unfoldable pub head_of : Counts → List (List ℕ) → Option Head
head_of c words =
    let letter = letter_of words in
    if letter == 67 then numbered_head (λ i. Some (Body i)) words else
    if letter == 79 then counted_head with_sense words else
    if letter == 86 then definition_head words else
    if letter == 100 then numbered_head (λ n. Some (DualGuesses n)) words else
    if letter == 120 then numbered_head (λ n. Some (PrimalGuesses n)) words else
    if letter == 114 then bare_head Sides words else
    if letter == 98 then bare_head Bounds words else
    if letter == 107 then numbered_head (of_columns c) words else
    if letter == 74 then counted_head (λ i n. Some (Terms i n)) words else
    if letter == 71 then counted_head (λ k n. Some (Slopes k n)) words else
    if letter == 83 then suffix_head words else None

-- the name of a suffix is the third word
abbrev pub name_in : List (List ℕ) → List ℕ
name_in words = word_at words 2

-- what a head is of is the file's
unfoldable pub is_in_range : Counts → Head → Bool
is_in_range c head = is_subject_of c (segment_of head).subject
