-- The program that an imported file is exported as.
use Rattle.std.proofs.Common.{◌≡◌, ◌∙◌, ◌↔◌, ℕ, List, length, sym, ap, subst, Option, Some, None}
use Rattle.std.proofs.lemmas.List.{get_or-replicate}
use Rattle.exact_numbers.specs.Rational.{ℚ}
use Rattle.linear_program.specs.Linear.{IsFeasible, Linear, objective_value as program_objective, row_at, variable_count}
use Rattle.exact_numbers.specs.declared.dec.Dec.{Dec}
use Rattle.nl_model.specs.Trees.{Tree}
use Rattle.nl_model.specs.Expressions.{tree_or_zero}
use Rattle.nl_model.specs.LinearFile.{HasLines, IsFormedFile, IsNumber, IsPlain, linear_of}
use Rattle.nl_model.proofs.Files.{linear_lem, same_feasible, same_objective as same_value, same_sense as sense_of}
use Rattle.nl_model.proofs.Formed.{file_formed}
use Rattle.nl_model.proofs.Plain.{plain_has_lines}
use Rattle.mps_model.specs.Mps.{IsMpsFeasible, Mps, mps_objective}
use Rattle.scaled_program.specs.Fits.{IsDecimal, IsScaledProgramOf, factor_of_row}
use Rattle.scaled_program.specs.Program.{ScaledProgram}
use Rattle.scaled_program.specs.ExportedProgram.{mps_of}
use Rattle.scaled_program.specs.Factor.{row_numbers}
use Rattle.scaled_program.proofs.Export.{same_objective as objective_of_program, same_points as points_of, same_sense as sense_of_program}
use Rattle.scaled_program.proofs.Factor.{factor_above}
use Rattle.mps_import.specs.Faults.{import_fault}
use Rattle.mps_program.specs.Program.{constraints, values_of}
use Rattle.mps_import.specs.Import.{import_counts, import_of}
use Rattle.mps_import.specs.Variables.{in_order}
use Rattle.mps_import.proofs.LawLemmas.{feasible_lem, objective_lem, sense_lem}
use Rattle.round_trips.proofs.Files.{is_file}

-- each tree of an imported file is one number
pub plain_import : (m : Mps Dec) → IsPlain (import_of m) 0
unfolding import_of import_counts
plain_import m = record {
  bodies = λ i lt. subst (λ (o : Option Tree). IsNumber (tree_or_zero o)) (sym (get_or-replicate (length (constraints m.rows)) i None None lt)) tt;
  objective = tt;
}

the_same : (a b : ℚ) → Some a ≡ Some b → b ≡ a
the_same a b e = cc

module _ (m : Mps Dec) (clean : import_fault m ≡ None) (s : ScaledProgram) (scaled : IsScaledProgramOf (linear_of (import_of m) 0) s) (d : IsDecimal (linear_of (import_of m) 0)) where
  abbrev folded : Linear
  folded = linear_of (import_of m) 0

  abbrev factors : ℕ → ℕ
  factors = factor_of_row folded

  formed : IsFormedFile (import_of m) 0
  formed = file_formed (import_of m) (is_file m clean) 0

  lines : HasLines (import_of m) 0
  lines = plain_has_lines (import_of m) 0 formed (plain_import m)

  pub same_points : (xs : List ℚ) → IsMpsFeasible (values_of m) xs ↔ IsMpsFeasible (mps_of s) (in_order m xs)
  same_points xs =
      let ys = in_order m xs in
      let imported = feasible_lem m clean xs in
      let meant = same_feasible (import_of m) 0 lines ys in
      let program_points = points_of folded factors ys (linear_lem (import_of m) 0 formed) (λ i. factor_above (row_numbers (variable_count folded) (row_at folded i))) in
      let exported : IsMpsFeasible (mps_of s) ys ↔ IsFeasible folded ys = subst (λ t. IsMpsFeasible (mps_of t) ys ↔ IsFeasible folded ys) (sym (scaled.plain d)) program_points in
      (λ h. exported.1 (meant.0 (imported.0 h)), λ h. imported.1 (meant.1 (exported.0 h)))

  pub same_objective : (xs : List ℚ) → mps_objective (mps_of s) (in_order m xs) ≡ mps_objective (values_of m) xs
  same_objective xs =
      let ys = in_order m xs in
      ap (λ t. mps_objective (mps_of t) ys) (scaled.plain d)
      ∙ objective_of_program folded factors ys
      ∙ the_same (mps_objective (values_of m) xs) (program_objective folded ys) (sym (objective_lem m xs) ∙ same_value (import_of m) 0 lines ys)

  pub same_sense : (mps_of s).maximise ≡ m.maximise
  same_sense = ap (λ t. (mps_of t).maximise) (scaled.plain d) ∙ sense_of_program folded factors ∙ sense_of (import_of m) 0 ∙ sense_lem m
