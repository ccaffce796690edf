-- What is wrong with a line: the first test that holds gives the reason. The order is this
-- project's own.
use Rattle.std.specs.Prelude.{ℕ, ◌+◌, ◌^◌, ◌==◌, ℤ, pos, Bool, not, ◌&&◌, ◌||◌, nat_le, nat_lt, List, [], ◌∷◌, ◌++◌, length, Option, is_some, is_none, if◌then◌else◌, codes}
use Rattle.std.specs.List.{list_any}
use Rattle.std.specs.Option.{option_map_or}
use Rattle.std.specs.Ordering.{int_eq}
use Rattle.exact_numbers.specs.declared.dec.Dec.{Dec}
use Rattle.text_base.specs.Names.{is_name}
use Rattle.text_base.specs.Words.{row_of, word_at, begins}
use Rattle.text_base.specs.declared.lines.LineFault.{LineFault}
use Rattle.text_base.specs.declared.lines.LineFault.TheVariants.{LineTooLong as LongLine, InputTooLong as LongInput}
use Rattle.exact_numbers.specs.Numbers.{are_digits, dec_of, is_whole, signed_of, whole_of}
use Rattle.nl_model.specs.SuffixKinds.{object_limit, wants_whole}
use Rattle.sol_files.specs.Plan.{LineKind, Message, OptionCount, OptionRow, ConstraintCount, DualCount, VariableCount, PrimalCount, DualRow, PrimalRow, NameLine, TableLine, ValueRow, Tail}
use Rattle.sol_files.specs.declared.fault.Refusal.{Refusal}
use Rattle.sol_files.specs.declared.fault.Refusal.TheVariants.{Here, Late}
use Rattle.sol_files.specs.declared.fault.SolReason.{SolReason}
use Rattle.sol_files.specs.declared.fault.SolReason.TheVariants.{NoOptions, BadNumber, Options as BadOptions, CountsDisagree, Short, BadLine, IndexOut, RepeatedIndex, Extra, TooLarge, LineTooLong, InputTooLong}
use Rattle.sol_files.specs.declared.suffix.SolSuffix.{SolSuffix}
use Rattle.sol_files.specs.Rows.{Row, number_in}
use Rattle.sol_files.specs.Parts.{is_options, is_tail, last_of}
use Rattle.sol_files.specs.Sol.{Sol}
use Rattle.sol_files.specs.Standing.{Standing, is_message, message_count}

abbrev pub Tests : Type 0
Tests = List (Bool × Refusal)

-- ---- The message has at most 65,536 lines.

-- Line 65,537 is one too many, unless it is empty: it is no message line where `Options` comes
-- next. So an empty line 65,537 is judged when the next line is seen: by that line where it is
-- anything else, by its line fault, or by the end of the text. The fault is then late, and is told
-- for line 65,537.
abbrev pub is_over : Standing → Bool
is_over s = is_message s.awaited && (message_count s == 65537)

abbrev pub message_tests : Standing → List ℕ → Tests
message_tests s line =
    (is_over s && not (is_options line), Late)
    ∷ (
      (message_count s == 65536) && not (is_options line)
          && not (length line == 0),
      Here TooLarge,
    ) ∷ []

-- ---- Lines of one word.

-- the number is there and below a limit
abbrev pub is_below : ℕ → Option ℕ → Bool
is_below limit number = option_map_or (λ n. nat_lt n limit) number Bool.false

-- a number below a limit, where one that is not has this reason
abbrev pub limited_tests : ℕ → SolReason → Row → Tests
limited_tests limit wide words =
    (not (length words == 1), Here BadLine)
    ∷ (not (are_digits (word_at words 0)), Here BadNumber)
    ∷ (not (is_below limit (whole_of (word_at words 0))), Here wide) ∷ []

-- the number of options is from 0 to 9
abbrev pub count_tests : Row → Tests
count_tests words = limited_tests 10 BadOptions words

-- the second option is not 3, which announces a further line
abbrev pub is_three : Option ℤ → Bool
is_three number = option_map_or (λ z. int_eq z (pos 3)) number Bool.false

-- an option after so many
abbrev pub option_tests : ℕ → Row → Tests
option_tests before words =
    (not (length words == 1), Here BadLine)
    ∷ (is_none (signed_of (word_at words 0)), Here BadNumber)
    ∷ ((before == 1) && is_three (signed_of (word_at words 0)), Here BadOptions) ∷ []

-- at most 2^20 constraints, variables and values
abbrev pub size_tests : Row → Tests
size_tests words = limited_tests (2 ^ 20 + 1) TooLarge words

-- so many values are given: none or all
abbrev pub is_given_count : ℕ → ℕ → Bool
is_given_count full n = (n == 0) || (n == full)

abbrev pub given_tests : ℕ → Row → Tests
given_tests full words = size_tests words
    ++ (not (is_given_count full (number_in words 0)), Here CountsDisagree) ∷ []

abbrev pub dec_tests : Row → Tests
dec_tests words =
    (not (length words == 1), Here BadLine)
    ∷ (is_none (dec_of (word_at words 0)), Here BadNumber) ∷ []

-- ---- After the values: one `objno` line may come, and then suffixes.

abbrev pub objno_tests : Bool → Row → Tests
objno_tests is_past words =
    (is_past, Here Extra)
    ∷ (not (length words == 3), Here BadLine)
    ∷ (
      is_none (signed_of (word_at words 1))
          || is_none (signed_of (word_at words 2)),
      Here BadNumber,
    ) ∷ []

abbrev pub are_all_digits : Row → Bool
are_all_digits words =
    are_digits (word_at words 1) && are_digits (word_at words 2) && are_digits (word_at words 3)
    && are_digits (word_at words 4) && are_digits (word_at words 5)

-- the kind is below 256, and the number of values and the two lengths below 2^31
abbrev pub are_head_numbers : Row → Bool
are_head_numbers words =
    is_below 256 (whole_of (word_at words 1)) && is_some (whole_of (word_at words 2))
    && is_some (whole_of (word_at words 3)) && is_some (whole_of (word_at words 4))

-- after so many table lines, there is room for as many more as the number says
abbrev pub has_table_room : ℕ → Option ℕ → Bool
has_table_room before number = option_map_or (λ n. nat_le (before + n) 65536) number Bool.false

-- at most 1,024 suffixes, with 65,536 table lines together
abbrev pub suffix_tests : ℕ → ℕ → Row → Tests
suffix_tests suffixes tables words =
    (not (length words == 6), Here BadLine)
    ∷ (not (are_all_digits words), Here BadNumber)
    ∷ (not (are_head_numbers words), Here BadNumber)
    ∷ (nat_le 1024 suffixes, Here TooLarge)
    ∷ (not (has_table_room tables (whole_of (word_at words 5))), Here TooLarge) ∷ []

-- nothing else may come; `objno` comes once, and before all suffixes
unfoldable pub tail_tests : Standing → Row → Tests
tail_tests s words =
    let is_past = is_some s.sol.objno || nat_lt 0 s.suffix_count in
    if begins words (codes "objno") then objno_tests is_past words else
    if begins words (codes "suffix") then suffix_tests s.suffix_count s.table_count words else
    (Bool.true, Here Extra) ∷ []

-- ---- The lines of a suffix.

-- one word, which is a name
abbrev pub name_tests : Row → Tests
name_tests words = (not ((length words == 1) && is_name (word_at words 0)), Here BadLine) ∷ []

abbrev pub has_index : List (ℕ × Dec) → ℕ → Bool
has_index values i = list_any (λ t. t.0 == i) values

-- of the words alone, where indices are below a limit and values may have to be whole
abbrev pub pair_tests : ℕ → Bool → Row → Tests
pair_tests limit whole_only words =
    let value = dec_of (word_at words 1) in
    (not (length words == 2), Here BadLine)
    ∷ (not (are_digits (word_at words 0)), Here BadNumber)
    ∷ (not (is_below limit (whole_of (word_at words 0))), Here IndexOut)
    ∷ (
      is_none value || (whole_only
          && not (option_map_or is_whole value Bool.true)),
      Here BadNumber,
    ) ∷ []

-- the kind and the values of the last suffix
abbrev pub last_kind : List SolSuffix → ℕ
last_kind suffixes = option_map_or (λ s. s.kind) (last_of suffixes) 0

abbrev pub last_values : List SolSuffix → List (ℕ × Dec)
last_values suffixes = option_map_or (λ s. s.values) (last_of suffixes) []

-- the indices of the last suffix are below this; of objectives there are 256 at most
abbrev pub index_limit : Sol → ℕ
index_limit s = object_limit s.n_var s.n_con 256 (last_kind s.suffixes)

-- at most 2^22 values of all suffixes; an index comes once in a suffix
abbrev pub value_tests : Standing → Row → Tests
value_tests s words =
    pair_tests (index_limit s.sol) (wants_whole (last_kind s.sol.suffixes)) words
    ++ (has_index (last_values s.sol.suffixes) (number_in words 0), Here RepeatedIndex)
    ∷ (nat_le (2 ^ 22) s.value_count, Here TooLarge) ∷ []

-- ---- Any line.

-- a row, where this is awaited
unfoldable pub row_tests : LineKind → Standing → Row → Tests
row_tests OptionCount s words = count_tests words
row_tests OptionRow s words = option_tests (length s.sol.options) words
row_tests ConstraintCount s words = size_tests words
row_tests DualCount s words = given_tests s.sol.n_con words
row_tests VariableCount s words = size_tests words
row_tests PrimalCount s words = given_tests s.sol.n_var words
row_tests DualRow s words = dec_tests words
row_tests PrimalRow s words = dec_tests words
row_tests Tail s words = tail_tests s words
row_tests ValueRow s words = value_tests s words
row_tests a s words = []

-- the row of a line; one without words means nothing
abbrev pub row_line_tests : LineKind → Standing → Row → Tests
row_line_tests a s words = if length words == 0 then [] else row_tests a s words

unfoldable pub line_tests_at : LineKind → Standing → List ℕ → Tests
line_tests_at Message s line = message_tests s line
line_tests_at NameLine s line = name_tests (row_of line)
line_tests_at TableLine s line = []
line_tests_at a s line = row_line_tests a s (row_of line)

abbrev pub line_tests : Standing → List ℕ → Tests
line_tests s line = line_tests_at s.awaited s line

-- a line with a line fault
abbrev pub reason_of : LineFault → SolReason
reason_of LongLine = LineTooLong
reason_of LongInput = InputTooLong

abbrev pub fault_refusal : Standing → LineFault → Refusal
fault_refusal s fault = if is_over s then Late else Here (reason_of fault)

-- the end of the text
abbrev pub end_tests : Standing → Tests
end_tests s =
    (is_over s, Late)
    ∷ (is_message s.awaited, Here NoOptions)
    ∷ (not (is_tail s.awaited), Here Short) ∷ []
