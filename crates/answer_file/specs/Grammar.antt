-- Which texts are answers for a file, what they say, and what is wrong with the others. The order
-- of faults is this project's own.
use Rattle.std.specs.Prelude.{◌≡◌, ℕ, ◌^◌, ◌/◌, ◌%◌, ◌==◌, Bool, true, false, not, ◌&&◌, ◌||◌, nat_lt, nat_le, List, [], ◌∷◌, length, map, get_or, slice_get, count_by, Option, Some, None, is_some, is_none, unwrap_or, if◌then◌else◌, codes}
use Rattle.std.specs.Option.{option_map_or}
use Rattle.std.specs.List.{filter_map}
use Rattle.std.specs.Str.{bytes_eq}
use Rattle.text_base.specs.Judged.{Rules, first_reason}
use Rattle.text_base.specs.Names.{is_name}
use Rattle.text_base.specs.Words.{row_of, word_at}
use Rattle.text_base.specs.declared.lines.LineFault.{LineFault}
use Rattle.text_base.specs.declared.lines.LineFault.TheVariants.{LineTooLong as LongLine, InputTooLong as LongInput}
use Rattle.exact_numbers.specs.declared.dec.Dec.{Dec}
use Rattle.exact_numbers.specs.Numbers.{dec_of, is_whole}
use Rattle.nl_model.specs.declared.suffix.Suffix.{Suffix as SuffixOf}
use Rattle.nl_model.specs.SuffixKinds.{objects_of, wants_whole}
use Rattle.answer_file.specs.declared.keyword.Keyword.{Keyword}
use Rattle.answer_file.specs.declared.keyword.Keyword.TheVariants.{Status, Message, Sign, Objno, Col, Row, Suffix}
use Rattle.answer_file.specs.declared.fault.AnswerReason.{AnswerReason}
use Rattle.answer_file.specs.declared.fault.AnswerReason.TheVariants.{BadFirst, BadLine, BadNumber, UnknownName, Repeated, Partial, TooLarge, LineTooLong, InputTooLong}
use Rattle.answer_file.specs.declared.target.Target.{Target}
use Rattle.answer_file.specs.declared.target.Target.TheVariants.{Tied, Place}
use Rattle.answer_file.specs.Names.{Setting, column_target, row_target, object_target, exported_count}
use Rattle.answer_file.specs.Entries.{keyword_of, status_in, message_in, sign_in, objective_in, kind_in, rows_of, entries_of, status_of, message_of, sign_of, objective_of, column_of, row_value_of, suffix_line_of}
use Rattle.answer_file.specs.Suffixes.{values_of, has_place, suffixes_of, suffix_named, value_count, with_objective}

-- ---- What lines mean.

-- whether the first row has come, and what the rows after it say; values by column and by row, and
-- suffixes with the places of their objects
pub record Standing : Type 0 where
  pub begun : Bool
  pub status : Option ℕ
  pub message : List (List ℕ)
  pub sign : Option Bool
  pub objective : Option ℕ
  pub columns : List (Option Dec)
  pub rows : List (Option Dec)
  pub suffixes : List SuffixOf

-- the first of a list, if there is one
abbrev pub first : {A : Type 0} → List A → Option A
first xs = slice_get xs 0

unfoldable pub standing : Setting → List (List ℕ) → Standing
standing s lines =
    let entries = entries_of s lines in
    record {
      begun = nat_lt 0 (length (rows_of lines));
      status = first (filter_map status_of entries);
      message = filter_map message_of entries;
      sign = first (filter_map sign_of entries);
      objective = first (filter_map objective_of entries);
      columns = values_of s.columns (filter_map column_of entries);
      rows = values_of (length s.exported) (filter_map row_value_of entries);
      suffixes = suffixes_of (filter_map suffix_line_of entries);
    }

-- ---- What is said.

-- an answer: a status where one was given; the lines of a message; whether duals are given as for
-- minimising; the objective's number; values by variable and by constraint, where they were given;
-- suffixes
pub record AnswerValue : Type 0 where
  pub status : Option ℕ
  pub message : List (List ℕ)
  pub min_sign : Bool
  pub objective : ℕ
  pub columns : List (Option Dec)
  pub rows : List (Option Dec)
  pub suffixes : List SuffixOf

abbrev pub answer_of : Standing → AnswerValue
answer_of st =
    record {
      status = st.status;
      message = st.message;
      min_sign = unwrap_or st.sign false;
      objective = unwrap_or st.objective 0;
      columns = st.columns;
      rows = st.rows;
      suffixes = map (with_objective (unwrap_or st.objective 0)) st.suffixes;
    }

-- these lines say this answer
abbrev pub SaysAnswer : Setting → List (List ℕ) → AnswerValue → Type 0
SaysAnswer s lines answer = answer ≡ answer_of (standing s lines)

-- ---- What is wrong: the first test that holds gives the reason.

abbrev pub Tests : Type 0
Tests = List (Bool × AnswerReason)

unfoldable pub first_tests : List (List ℕ) → Tests
first_tests words = (
  not (length words == 2 && bytes_eq (word_at words 0) (codes "answer")
      && bytes_eq (word_at words 1) (codes "1")),
  BadFirst,
) ∷ []

unfoldable pub status_tests : Standing → List (List ℕ) → Tests
status_tests st words =
    (not (length words == 2), BadLine)
    ∷ (is_none (status_in words), BadNumber)
    ∷ (is_some st.status, Repeated) ∷ []

unfoldable pub message_tests : Standing → List ℕ → Tests
message_tests st text =
    (bytes_eq text (codes "Options"), BadLine)
    ∷ (nat_le (2 ^ 16) (length st.message), TooLarge) ∷ []

unfoldable pub sign_tests : Standing → List (List ℕ) → Tests
sign_tests st words =
    (not (length words == 2) || is_none (sign_in words), BadLine)
    ∷ (is_some st.sign, Repeated) ∷ []

unfoldable pub objective_tests : Standing → List (List ℕ) → Tests
objective_tests st words =
    (not (length words == 2), BadLine)
    ∷ (is_none (objective_in words), BadNumber)
    ∷ (is_some st.objective, Repeated) ∷ []

-- a value was given for the place
abbrev pub is_given : List (Option Dec) → Option Target → Bool
is_given values (Some (Place i)) = is_some (get_or values i None)
is_given values target = false

-- a value of a column or of a row
unfoldable pub value_tests : List (Option Dec) → Option Target → List (List ℕ) → Tests
value_tests values target words =
    (not (length words == 3), BadLine)
    ∷ (is_none target, UnknownName)
    ∷ (is_none (dec_of (word_at words 2)), BadNumber)
    ∷ (is_given values target, Repeated) ∷ []

-- ---- A value of a suffix.

abbrev pub is_tied : Option Target → Bool
is_tied (Some Tied) = true
is_tied target = false

-- the kinds differ in bit 4
abbrev pub differs : Option SuffixOf → ℕ → Bool
differs suffix kind = option_map_or (λ s. not ((s.kind / 4) % 2 == (kind / 4) % 2)) suffix false

-- the suffix has a value for the place
abbrev pub is_given_in : Option SuffixOf → Option Target → Bool
is_given_in (Some s) (Some (Place i)) = has_place s.values i
is_given_in suffix target = false

-- no Dec, or not whole where it must be
abbrev pub is_bad_value : ℕ → Option Dec → Bool
is_bad_value kind value = is_none value || (wants_whole kind
    && not (option_map_or is_whole value true))

-- a further suffix or a further value would be too many
abbrev pub is_full : List SuffixOf → Option SuffixOf → Bool
is_full suffixes suffix = (is_none suffix && nat_le (2 ^ 10) (length suffixes))
    || nat_le (2 ^ 22) (value_count suffixes)

abbrev pub object_tests : List SuffixOf → ℕ → Option SuffixOf → Option Target → Option Dec → Tests
object_tests suffixes kind suffix target value =
    (not (is_tied target) && differs suffix kind, BadLine)
    ∷ (is_none target, UnknownName)
    ∷ (is_bad_value kind value, BadNumber)
    ∷ (is_given_in suffix target, Repeated)
    ∷ (not (is_tied target) && is_full suffixes suffix, TooLarge) ∷ []

-- the object is judged where the kind is one
abbrev pub kind_tests : Setting → List SuffixOf → List (List ℕ) → Option ℕ → Tests
kind_tests s suffixes words None = (true, BadNumber) ∷ []
kind_tests s suffixes words (Some kind) =
    object_tests suffixes kind (suffix_named suffixes kind (word_at words 2))
    (object_target s (objects_of kind) (word_at words 3)) (dec_of (word_at words 4))

unfoldable pub suffix_tests : Setting → List SuffixOf → List (List ℕ) → Tests
suffix_tests s suffixes words =
    (not (length words == 5), BadLine)
    ∷ (not (is_name (word_at words 2)), BadLine)
    ∷ kind_tests s suffixes words (kind_in words)

-- ---- A line.

abbrev pub tests_by : Setting → Standing → List ℕ → List (List ℕ) → Option Keyword → Tests
tests_by s st line words None = (true, BadLine) ∷ []
tests_by s st line words (Some Status) = status_tests st words
tests_by s st line words (Some Message) = message_tests st (message_in line)
tests_by s st line words (Some Sign) = sign_tests st words
tests_by s st line words (Some Objno) = objective_tests st words
tests_by s st line words (Some Col) = value_tests st.columns
    (column_target s (word_at words 1)) words
tests_by s st line words (Some Row) = value_tests st.rows (row_target s (word_at words 1)) words
tests_by s st line words (Some Suffix) = suffix_tests s st.suffixes words

-- a row after the first
unfoldable pub row_tests : Setting → Standing → List ℕ → Tests
row_tests s st line = tests_by s st line (row_of line) (keyword_of (word_at (row_of line) 0))

-- a line that holds no word is left out
unfoldable pub line_tests : Setting → Standing → List ℕ → Tests
line_tests s st line =
    if length (row_of line) == 0 then [] else
    if st.begun then row_tests s st line else first_tests (row_of line)

-- ---- The end.

abbrev pub given_count : List (Option Dec) → ℕ
given_count values = count_by is_some values

-- some of them, but not all
abbrev pub is_part : ℕ → ℕ → Bool
is_part given all = nat_lt 0 given && nat_lt given all

unfoldable pub end_tests : Setting → Standing → Tests
end_tests s st =
    (not st.begun, BadFirst)
    ∷ (
      is_part (given_count st.columns) s.columns || is_part (given_count st.rows)
          (exported_count s),
      Partial,
    ) ∷ []

abbrev pub reason_of : LineFault → AnswerReason
reason_of LongLine = LineTooLong
reason_of LongInput = InputTooLong

abbrev pub answer_rules : Setting → Rules AnswerReason
answer_rules s = record {
  at_line = λ before line. first_reason (line_tests s (standing s before) line);
  at_fault = λ before fault. reason_of fault;
  at_end = λ lines. first_reason (end_tests s (standing s lines));
}
