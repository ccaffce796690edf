-- The names of a file: one in each line that holds words. The order of the tests is this project's
-- own.
use Rattle.std.specs.Prelude.{◌≡◌, ℕ, ◌+◌, ◌==◌, Bool, not, ◌&&◌, ◌||◌, nat_le, nat_lt, List, [], ◌∷◌, ◌++◌, length, take, Option, Some, None, is_some, if◌then◌else◌}
use Rattle.std.specs.List.{flat_map}
use Rattle.text_base.specs.Judged.{Rules, first_reason}
use Rattle.text_base.specs.Names.{is_name, place_of}
use Rattle.text_base.specs.Words.{words_of, word_at}
use Rattle.text_base.specs.declared.lines.LineFault.{LineFault}
use Rattle.text_base.specs.declared.lines.LineFault.TheVariants.{LineTooLong as LongLine, InputTooLong as LongInput}
use Rattle.name_files.specs.declared.fault.NameReason.{NameReason}
use Rattle.name_files.specs.declared.fault.NameReason.TheVariants.{BadName, Repeated, Reserved, OtherCount, LineTooLong, InputTooLong}
use Rattle.mps_model.specs.Names.{is_reserved}

-- how many names are used, and how many may follow that are not
pub record Counts : Type 0 where
  pub used : ℕ
  pub further : ℕ

-- ---- What lines say.

-- the first word of each line that holds words
unfoldable pub names_of : List (List ℕ) → List (List ℕ)
names_of lines = flat_map (λ line. take 1 (words_of line)) lines

-- the names that are used
abbrev pub used_names : Counts → List (List ℕ) → List (List ℕ)
used_names counts lines = take counts.used (names_of lines)

-- what lines mean for the next one: how many names there are, and those that are used
pub record Standing : Type 0 where
  pub count : ℕ
  pub names : List (List ℕ)

abbrev pub standing : Counts → List (List ℕ) → Standing
standing counts lines =
    record { count = length (names_of lines); names = used_names counts lines }

-- ---- The tests of a line that holds words, and of the end.

-- the next name is used
abbrev pub is_used : Counts → Standing → Bool
is_used counts s = nat_lt (length s.names) counts.used

abbrev pub Tests : Type 0
Tests = List (Bool × NameReason)

-- the tests of a name that is used
abbrev pub used_tests : Standing → List ℕ → Tests
used_tests s name =
    (is_reserved name, Reserved) ∷ (is_some (place_of s.names name), Repeated) ∷ []

-- one word, which is a name
abbrev pub is_sole_name : List (List ℕ) → Bool
is_sole_name words = length words == 1 && is_name (word_at words 0)

abbrev pub tests_if : Bool → Tests → Tests
tests_if used tests = if used then tests else []

unfoldable pub name_tests : Counts → Standing → List (List ℕ) → Tests
name_tests counts s words =
    (nat_le (counts.used + counts.further) s.count, OtherCount)
    ∷ (not (is_sole_name words), BadName)
    ∷ tests_if (is_used counts s) (used_tests s (word_at words 0))

-- with a name more
abbrev pub with_name : Counts → Standing → List ℕ → Standing
with_name counts s name = record {
  count = s.count + 1;
  names = if is_used counts s then s.names ++ name ∷ [] else s.names;
}

-- what is wrong with a line; one without words is left out
unfoldable pub line_reason : Counts → Standing → List (List ℕ) → Option NameReason
line_reason counts s words =
    if length words == 0 then None else first_reason (name_tests counts s words)

-- no further names, or all of them
abbrev pub is_full : Counts → ℕ → Bool
is_full counts count = (count == counts.used) || (count == counts.used + counts.further)

unfoldable pub end_reason : Counts → Standing → Option NameReason
end_reason counts s = if is_full counts s.count then None else Some OtherCount

abbrev pub fault_reason : LineFault → NameReason
fault_reason LongLine = LineTooLong
fault_reason LongInput = InputTooLong

abbrev pub name_rules : Counts → Rules NameReason
name_rules counts = record {
  at_line = λ before line. line_reason counts (standing counts before) (words_of line);
  at_fault = λ before fault. fault_reason fault;
  at_end = λ lines. end_reason counts (standing counts lines);
}

-- these lines say these names
abbrev pub SaysNames : Counts → List (List ℕ) → List (List ℕ) → Type 0
SaysNames counts lines names = names ≡ used_names counts lines
