-- An exported program has the names that are renamed.
use Rattle.std.proofs.Common.{inl, inr, ℕ, zero, suc, List, [], ◌∷◌, ◌++◌, length, map, refl, arith, All}
use Rattle.std.specs.List.{AllByRecursion}
use Rattle.std.proofs.lemmas.Bool.{cond_both}
use Rattle.std.proofs.lemmas.List.Elements.{All-cons, recursion_from_All}
use Rattle.linear_program.specs.Linear.{Form, Row, Variable, Linear, has_side}
use Rattle.linear_program.specs.Names.{row_name, variable_name}
use Rattle.text_base.proofs.AllLemmas.{all_push}
use Rattle.mps_model.specs.Mps.{MpsRow, Column}
use Rattle.exact_numbers.specs.Rational.{ℚ}
use Rattle.scaled_program.specs.Program.{ScaledRow, scaled_row, exported_rows, tie, z_form, z_variable}
use Rattle.scaled_program.specs.ExportedProgram.{mps_row, columns_of, mps_of, program, tied_program}
use Rattle.name_files.specs.Renamed.{IsExportedName, HasExportedNames, IsNamedLinear}

module _ (P : List ℕ → Type 0) where
  exported : (factor : ℕ → ℕ) (i : ℕ) (rows : List Row) → AllByRecursion (λ (r : Row). P r.name) rows → AllByRecursion (λ (r : ScaledRow). P r.name) (exported_rows factor i rows)
  unfolding exported_rows
  exported factor i [] all = tt
  exported factor i (r ∷ rows) all =
      let rest = exported factor (suc i) rows all.1 in
      cond_both (has_side r.side) _ _ (AllByRecursion (λ (r : ScaledRow). P r.name)) (λ e. (all.0, rest)) (λ e. rest)

  rows_named : (rows : List ScaledRow) → AllByRecursion (λ (r : ScaledRow). P r.name) rows → All P (map (λ (r : MpsRow). r.name) (map mps_row rows))
  rows_named [] all k d lt = absurd (omega arith)
  rows_named (r ∷ rows) all zero d lt = all.0
  rows_named (r ∷ rows) all (suc k) d lt = rows_named rows all.1 k d (omega arith)

  columns_named : (objective : Form) (rows : List ScaledRow) (j : ℕ) (variables : List Variable)
      → AllByRecursion (λ (v : Variable). P v.name) variables
      → All P (map (λ (c : Column ℚ). c.name) (columns_of objective rows j variables))
  unfolding columns_of
  columns_named objective rows j [] all k d lt = absurd (omega arith)
  columns_named objective rows j (v ∷ variables) all zero d lt = all.0
  columns_named objective rows j (v ∷ variables) all (suc k) d lt = columns_named objective rows (suc j) variables all.1 k d (omega arith)

module _ (f : Linear) (factor : ℕ → ℕ) (is : IsNamedLinear f) where
  RowName : List ℕ → Type 0
  RowName name = IsExportedName row_name (length f.rows) name

  VariableName : List ℕ → Type 0
  VariableName name = IsExportedName variable_name (length f.variables) name

  row_names : AllByRecursion (λ (r : Row). RowName r.name) f.rows
  unfolding RowName
  row_names = recursion_from_All (λ (r : Row). RowName r.name) f.rows (λ k d lt. inr (is.rows k d lt))

  variable_names : AllByRecursion (λ (v : Variable). VariableName v.name) f.variables
  unfolding VariableName
  variable_names = recursion_from_All (λ (v : Variable). VariableName v.name) f.variables (λ k d lt. inr (is.variables k d lt))

  pub plain_names : HasExportedNames (length f.rows) (length f.variables) (program f factor)
  unfolding mps_of RowName VariableName
  plain_names = record {
    rows = record {
      few = is.few_rows;
      each = All-cons RowName _ _ (inl (inl refl)) (rows_named RowName (exported_rows factor 0 f.rows) (exported RowName factor 0 f.rows row_names));
    };
    columns = record { few = is.few_variables; each = columns_named VariableName f.objective (exported_rows factor 0 f.rows) 0 f.variables variable_names };
  }

  pub tied_names : (g : ℕ) → HasExportedNames (length f.rows) (length f.variables) (tied_program f factor g)
  unfolding mps_of RowName VariableName
  tied_names g =
      let last : ScaledRow = scaled_row g (tie (length f.variables) f.objective) in
      let rows = all_push (λ (r : ScaledRow). RowName r.name) (exported_rows factor 0 f.rows) last (exported RowName factor 0 f.rows row_names) (inl (inr (inl refl))) in
      record {
        rows = record {
          few = is.few_rows;
          each = All-cons RowName _ _ (inl (inl refl)) (rows_named RowName (exported_rows factor 0 f.rows ++ last ∷ []) rows);
        };
        columns = record {
          few = is.few_variables;
          each = columns_named VariableName (z_form (length f.variables)) (exported_rows factor 0 f.rows ++ last ∷ []) 0 (f.variables ++ z_variable ∷ [])
              (all_push (λ (v : Variable). VariableName v.name) f.variables z_variable variable_names (inl (inr (inr refl))));
        };
      }
