-- The setting of an MPS program is that of its linear program.
use Rattle.std.proofs.Common.{◌≡◌, ◌∙◌, ◌<◌, length, sym, ap, subst}
use Rattle.std.proofs.lemmas.List.{length-map}
use Rattle.linear_program.specs.Linear.{Variable, row_count}
use Rattle.linear_program.specs.Intervals.{is_whole_kind}
use Rattle.linear_program.specs.declared.kind.Kind.TheVariants.{Continuous}
use Rattle.exact_numbers.specs.Values.{dec_value}
use Rattle.exact_numbers.specs.declared.dec.Dec.{Dec}
use Rattle.mps_model.specs.Mps.{Mps, column_with, with_values}
use Rattle.mps_program.specs.Kinds.{column_kind, is_whole, is_zero_to_one}
use Rattle.mps_program.specs.Program.{linear_of, values_of}
use Rattle.mps_program.proofs.FirstLemmas.{listed_at, listed_length}
use Rattle.mps_program.proofs.LawLemmas.{count_lem, variable_lem}
use Rattle.mps_program.proofs.ProgramLemmas.{whole_kind}
use Rattle.certificates.specs.Setting.{IsSettingOf}
use Rattle.problems.specs.MpsSetting.{mps_setting}
use Rattle.problems.proofs.Meaning.{constraints_counted}

same_columns : (m : Mps Dec) → length m.columns ≡ length (values_of m).columns
unfolding with_values
same_columns m = sym (length-map m.columns (column_with dec_value))

same_kinds : (m : Mps Dec) → length (mps_setting m).kinds ≡ length m.columns
same_kinds m = listed_length (column_kind m) (length m.columns)

same_rows : (m : Mps Dec) → (mps_setting m).rows ≡ row_count (linear_of (values_of m))
unfolding with_values
same_rows m = constraints_counted (values_of m)

pub program_setting : (m : Mps Dec) → IsSettingOf (linear_of (values_of m)) (mps_setting m)
program_setting m = record {
  rows = same_rows m;
  variables = same_kinds m ∙ same_columns m ∙ sym (count_lem (values_of m));
  whole = λ j h.
      let here : j < length m.columns = subst (λ n. j < n) (same_kinds m) h in
      let there : j < length (values_of m).columns = subst (λ n. j < n) (same_columns m) here in
      ap is_whole_kind (listed_at (column_kind m) (length m.columns) j Continuous here)
      ∙ whole_kind (is_whole m j) (is_zero_to_one m j) ∙ sym
      (ap (λ (v : Variable). v.whole) (variable_lem (values_of m) j there));
}
