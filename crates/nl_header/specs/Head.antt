-- What the ten header lines of an .nl file say (Gay 2005, "Writing .nl Files"), and what is wrong
-- with one.
-- A line is the list of its words; lines, places and rows are counted from 1. Which numbers are
-- refused, and the order of faults, are this project's own.
use Rattle.std.specs.Prelude.{◌≡◌, ℕ, ◌+◌, ◌-◌, ◌^◌, ◌==◌, Bool, true, false, not, ◌&&◌, ◌||◌, nat_lt, nat_le, ℤ, List, [], ◌∷◌, ◌++◌, length, drop, slice_index, slice_index_or, Option, Some, None, is_none, Result, Ok, Err, unwrap_or, if◌then◌else◌}
use Rattle.std.specs.List.{list_any, filter_map}
use Rattle.std.specs.Option.{option_map_or, option_or}
use Rattle.text_base.specs.Judged.{first_reason}
use Rattle.text_base.specs.Words.{word_at}
use Rattle.code_tables.specs.declared.field.Field.{Field}
use Rattle.code_tables.specs.declared.field.FieldRow.{FieldRow}
use Rattle.code_tables.specs.Header.{header_rows, field_at}
use Rattle.nl_model.specs.declared.header_counts.Counts.{Counts}
use Rattle.nl_model.specs.HeaderRules.{are_shared_within, are_whole_within, are_definitions_within}
use Rattle.nl_model.specs.Options.{has_second_three}
use Rattle.exact_numbers.specs.Numbers.{whole_of, signed_of}
use Rattle.nl_header.specs.declared.fault.HeadFault.{HeadFault}
use Rattle.nl_header.specs.declared.fault.HeadFault.TheVariants.{BinaryFile, BadFirstLine, Options, BadHeaderNumber, CountsDisagree, RefusedCount, TooLarge}

abbrev pub header_line : List (List (List ℕ)) → ℕ → List (List ℕ)
header_line lines line = slice_index_or lines (line - 1) []

-- ---- What the lines say.

-- a field that is missing is 0
abbrev pub number_in : List (List ℕ) → ℕ → ℕ
number_in words place = unwrap_or (whole_of (word_at words (place - 1))) 0

abbrev pub header_number : List (List (List ℕ)) → ℕ → ℕ → ℕ
header_number lines line place = number_in (header_line lines line) place

-- nothing asks for a row past the last
abbrev pub no_field_row : FieldRow
no_field_row =
    record { line = 0; place = 0; field = record { row = 0; required = false; zero = false } }

-- what a row's number is after a line with these words, when it was `number` before
abbrev pub number_after : FieldRow → ℕ → List (List ℕ) → ℕ → ℕ
number_after row line words number = if row.line == line then number_in words row.place else number

-- the counts, where a number stands at each line and place
unfoldable pub counts_by : (ℕ → ℕ → ℕ) → Counts
counts_by number =
    record {
      n_var = number 2 1;
      n_con = number 2 2;
      n_obj = number 2 3;
      n_ranges = number 2 4;
      n_eqns = number 2 5;
      n_lcon = number 2 6;
      nlc = number 3 1;
      nlo = number 3 2;
      nlnc = number 4 1;
      lnc = number 4 2;
      nlvc = number 5 1;
      nlvo = number 5 2;
      nlvb = number 5 3;
      nwv = number 6 1;
      nfunc = number 6 2;
      arith = number 6 3;
      flags = number 6 4;
      nbv = number 7 1;
      niv = number 7 2;
      nlvbi = number 7 3;
      nlvci = number 7 4;
      nlvoi = number 7 5;
      nzc = number 8 1;
      nzo = number 8 2;
      row_name_len = number 9 1;
      col_name_len = number 9 2;
      comb = number 10 1;
      comc = number 10 2;
      como = number 10 3;
      comc1 = number 10 4;
      como1 = number 10 5;
    }

-- the counts of lines 2 to 10
unfoldable pub counts_in : List (List (List ℕ)) → Counts
counts_in lines = counts_by (header_number lines)

-- the options of a first line: the words after the first
abbrev pub options_of : List (List ℕ) → List ℤ
options_of words = filter_map signed_of (drop 1 words)

unfoldable pub options_in : List (List (List ℕ)) → List ℤ
options_in lines = options_of (header_line lines 1)

-- ---- What is wrong with a line: the first test that holds gives the fault.

-- what judging answers: the fault; or that all but `rest` of the rules is kept
abbrev pub Judges : Option HeadFault → Option HeadFault → Result (Unit {0}) HeadFault → Type 0
Judges fault rest (Ok u) = fault ≡ rest
Judges fault rest (Err f) = fault ≡ Some f

abbrev pub begins_with : ℕ → List ℕ → Bool
begins_with byte word = slice_index word 0 == byte

-- `g`, and directly after it the number of options
abbrev pub option_count : List (List ℕ) → Option ℕ
option_count words =
    if begins_with 103 (word_at words 0) then whole_of (drop 1 (word_at words 0)) else None

-- so many words after the first, at most four, which are signed whole numbers and the second of
-- which is not 3
abbrev pub has_options : List (List ℕ) → ℕ → Bool
has_options words count =
    nat_le count 4 && (length (drop 1 words) == count) && (length (options_of words) == count)
    && not (has_second_three (options_of words))

unfoldable pub first_line_tests : List (List ℕ) → List (Bool × HeadFault)
first_line_tests words =
    (begins_with 98 (word_at words 0), BinaryFile)
    ∷ (is_none (option_count words), BadFirstLine)
    ∷ (not (has_options words (unwrap_or (option_count words) 0)), Options) ∷ []

-- the largest number of a field
abbrev pub limit_of_row : ℕ → ℕ
limit_of_row row =
    if row == 2 || row == 3 then 2 ^ 20 else
    if row == 4 then 256 else
    if row == 24 then 2 ^ 22 else 2 ^ 31

-- a place without a field is 0 too
abbrev pub must_be_zero : Option Field → Bool
must_be_zero field = option_map_or (λ f. f.zero) field true

abbrev pub limit_of : Option Field → ℕ
limit_of field = option_map_or (λ f. limit_of_row f.row) field 0

unfoldable pub field_tests : Option Field → ℕ → List (Bool × HeadFault)
field_tests field number =
    (must_be_zero field && not (number == 0), RefusedCount)
    ∷ (nat_lt (limit_of field) number, TooLarge) ∷ []

-- of one word where a field stands
unfoldable pub word_tests : Option Field → List ℕ → List (Bool × HeadFault)
word_tests field word =
    (is_none (whole_of word), BadHeaderNumber) ∷ field_tests field (unwrap_or (whole_of word) 0)

-- the first fault of the words of a line from a place on
unfoldable pub words_fault : ℕ → ℕ → List (List ℕ) → Option HeadFault
words_fault line place [] = None
words_fault line place (word ∷ words) =
    option_or (first_reason (word_tests (field_at line place) word))
    (words_fault line (place + 1) words)

-- a field that must be there has no word
unfoldable pub lacks_number : List FieldRow → ℕ → ℕ → Bool
lacks_number rows line count =
    list_any (λ r. (r.line == line) && r.field.required && nat_lt count r.place) rows

-- the rule of a line, once its numbers are known
unfoldable pub rule_tests : ℕ → Counts → List (Bool × HeadFault)
rule_tests line counts =
    (line == 5 && not (are_shared_within counts), CountsDisagree)
    ∷ (line == 7 && not (are_whole_within counts), CountsDisagree)
    ∷ (line == 10 && not (are_definitions_within counts), TooLarge) ∷ []

-- the first fault of a line of numbers, where the counts are those of all lines up to it
unfoldable pub number_line_fault : ℕ → Counts → List (List ℕ) → Option HeadFault
number_line_fault line counts words =
    option_or (words_fault line 1 words)
    (first_reason ((lacks_number header_rows line (length words), BadHeaderNumber)
    ∷ rule_tests line counts))

-- the first fault of the header line that comes after these
unfoldable pub header_line_fault : List (List (List ℕ)) → List (List ℕ) → Option HeadFault
header_line_fault before words =
    if length before == 0 then first_reason (first_line_tests words) else
    number_line_fault (length before + 1) (counts_in (before ++ words ∷ [])) words
