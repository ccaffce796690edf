-- What one line without a fault does to the standing.
use Rattle.std.specs.Prelude.{ℕ, ◌==◌, true, List, [], ◌∷◌, ◌++◌, length, get_or, slice_set, Option, Some, None, if◌then◌else◌}
use Rattle.std.specs.Option.{option_or}
use Rattle.text_base.specs.Words.{row_of}
use Rattle.exact_numbers.specs.declared.dec.Dec.{Dec}
use Rattle.nl_model.specs.declared.suffix.Suffix.{Suffix}
use Rattle.nl_model.specs.Rules.{is_suffix_of}
use Rattle.answer_file.specs.declared.target.Target.{Target}
use Rattle.answer_file.specs.declared.target.Target.TheVariants.{Place}
use Rattle.answer_file.specs.Names.{Setting}
use Rattle.answer_file.specs.Entries.{SuffixLine, Entry, StatusIs, MessageLine, SignIs, ObjectiveIs, ColumnValue, RowValue, SuffixValue, entry_in}
use Rattle.answer_file.specs.Grammar.{Standing}

-- the value stands at place i, unless one does
abbrev pub with_value : List (Option Dec) → ℕ → Dec → List (Option Dec)
with_value values i value = slice_set values i (option_or (get_or values i None) (Some value))

abbrev pub new_suffix : SuffixLine → Suffix
new_suffix line = record {
  kind = line.kind;
  name = line.name;
  values = (line.place, line.value)
      ∷ [];
}

abbrev pub with_line : Suffix → SuffixLine → Suffix
with_line s line = record {
  kind = s.kind;
  name = s.name;
  values = s.values
      ++ (line.place, line.value) ∷ [];
}

-- the line's suffix has its value too, or follows as a new one
abbrev pub with_suffix_line : List Suffix → SuffixLine → List Suffix
with_suffix_line [] line = new_suffix line ∷ []
with_suffix_line (s ∷ suffixes) line = if is_suffix_of line.kind line.name s then with_line s line
    ∷ suffixes else s ∷ with_suffix_line suffixes line

abbrev pub with_entry : Standing → Entry → Standing
with_entry st (StatusIs n) = record st { status = option_or st.status (Some n) }
with_entry st (MessageLine text) = record st { message = st.message ++ text ∷ [] }
with_entry st (SignIs min) = record st { sign = option_or st.sign (Some min) }
with_entry st (ObjectiveIs k) = record st { objective = option_or st.objective (Some k) }
with_entry st (ColumnValue j value) = record st { columns = with_value st.columns j value }
with_entry st (RowValue i value) = record st { rows = with_value st.rows i value }
with_entry st (SuffixValue line) = record st { suffixes = with_suffix_line st.suffixes line }

abbrev pub with_said : Standing → Option Entry → Standing
with_said st None = st
with_said st (Some entry) = with_entry st entry

unfoldable pub after : Setting → Standing → List ℕ → Standing
after s st line =
    if length (row_of line) == 0 then st else
    if st.begun then with_said st (entry_in s line) else record st { begun = true }

-- a value for what a name stands for
abbrev pub with_given : List (Option Dec) → Option Target → Option Dec → List (Option Dec)
with_given values (Some (Place i)) (Some value) = with_value values i value
with_given values target value = values

-- a value of a suffix for an object
abbrev pub with_object : List Suffix → ℕ → List ℕ → Option Target → Option Dec → List Suffix
with_object suffixes kind name (Some (Place i)) (Some value) = with_suffix_line suffixes
    (record { kind = kind; name = name; place = i; value = value })
with_object suffixes kind name target value = suffixes
