-- Values by place, and suffixes by their lines.
use Rattle.std.specs.Prelude.{◌≡◌, ℕ, ◌==◌, Bool, not, ◌&&◌, List, [], ◌∷◌, map, filter, find, length, nat_eq, position, sum_by, slice_get, Option, option_map, option_and_then, if◌then◌else◌}
use Rattle.std.specs.List.{list_any, range_with_len}
use Rattle.std.specs.Str.{bytes_eq}
use Rattle.exact_numbers.specs.declared.dec.Dec.{Dec}
use Rattle.nl_model.specs.File.{Term}
use Rattle.nl_model.specs.declared.suffix.Suffix.{Suffix}
use Rattle.nl_model.specs.Rules.{is_suffix_of}
use Rattle.nl_model.specs.SuffixKinds.{has_same_objects, is_for_objectives}
use Rattle.answer_file.specs.Entries.{SuffixLine}

-- ---- values

-- the first value for place i
abbrev pub value_at : List Term → ℕ → Option Dec
value_at terms i = option_map (λ t. t.1) (find (λ t. t.0 == i) terms)

-- the values for n places
unfoldable pub values_of : ℕ → List Term → List (Option Dec)
values_of n terms = map (value_at terms) (range_with_len 0 n)

abbrev pub has_place : List Term → ℕ → Bool
has_place terms i = list_any (λ t. t.0 == i) terms

-- ---- suffixes

-- lines of one suffix: the same name for the same objects
abbrev pub is_same_suffix : SuffixLine → SuffixLine → Bool
is_same_suffix a b = has_same_objects a.kind b.kind && bytes_eq a.name b.name

-- the first line of each suffix, in order
unfoldable pub first_lines : List SuffixLine → List SuffixLine
first_lines [] = []
first_lines (line ∷ lines) = line ∷ filter (λ other. not (is_same_suffix line other))
    (first_lines lines)

-- the values of the lines of this one's suffix, in order
abbrev pub values_like : List SuffixLine → SuffixLine → List Term
values_like lines line = map (λ other. (other.place, other.value))
    (filter (is_same_suffix line) lines)

abbrev pub suffix_like : List SuffixLine → SuffixLine → Suffix
suffix_like lines line = record {
  kind = line.kind;
  name = line.name;
  values = values_like lines line;
}

-- suffixes in order of first appearance, and their values in the order of their lines
unfoldable pub suffixes_of : List SuffixLine → List Suffix
suffixes_of lines = map (suffix_like lines) (first_lines lines)

-- where the first suffix of this name and these objects stands
abbrev pub place_named : List Suffix → ℕ → List ℕ → Option ℕ
place_named suffixes kind name = position (is_suffix_of kind name) suffixes

-- the suffix at a place
abbrev pub suffix_at : List Suffix → Option ℕ → Option Suffix
suffix_at suffixes place = option_and_then (slice_get suffixes) place

abbrev pub suffix_named : List Suffix → ℕ → List ℕ → Option Suffix
suffix_named suffixes kind name = suffix_at suffixes (place_named suffixes kind name)

-- how many values all suffixes have
abbrev pub value_count : List Suffix → ℕ
value_count suffixes = sum_by (λ s. length s.values) suffixes

-- the suffix with its objective's number, where it is for the objectives
abbrev pub with_objective : ℕ → Suffix → Suffix
with_objective k s = if is_for_objectives s.kind then record {
  kind = s.kind;
  name = s.name;
  values = map (λ t. (k, t.1)) s.values;
} else s

-- ---- what is kept beside a suffix

-- the marked places are those with a value
pub record AreMarks (marks : List ℕ) (terms : List Term) : Type 0 where
  pub each : (i : ℕ) → list_any (nat_eq i) marks ≡ has_place terms i
