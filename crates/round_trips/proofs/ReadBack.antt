-- What a linear program is exported as is read as what was exported.
use Rattle.std.proofs.Common.{◌≡◌, ◌∙◌, inl, inr, ◌⊎◌, ℕ, suc, ◌+◌, ◌<◌, ◌≤◌, ◌^◌, Bool, true, false, cond, nat_eq, List, [], ◌∷◌, ◌++◌, length, pos, refl, sym, ap, subst, arith}
use Rattle.std.proofs.lemmas.Bool.{eqb-true}
use Rattle.std.specs.Prelude.{All}
use Rattle.std.proofs.lemmas.List.{length-append}
use Rattle.std.proofs.lemmas.List.Elements.{All-push}
use Rattle.exact_numbers.specs.Rational.{ℚ, zero_ℚ, one_ℚ, neg_ℚ, whole, ◌*ℚ◌}
use Rattle.exact_numbers.proofs.RationalLaws.{*ℚ_zero}
use Rattle.exact_numbers.specs.declared.dec.Dec.{Dec}
use Rattle.exact_numbers.specs.Values.{value_text}
use Rattle.linear_program.specs.Linear.{Form, Linear, Variable, row_count, variable_count}
use Rattle.linear_program.specs.Names.{row_name}
use Rattle.mps_model.specs.Mps.{Mps, with_values}
use Rattle.mps_model.specs.Text.{mps_text_by}
use Rattle.mps_model.specs.Valid.{IsMps}
use Rattle.scaled_program.specs.Fits.{ExportFits, IsDecimal, IsScaledProgramOf, ObjectiveFits, ScaledFits, factor_of_objective, factor_of_row}
use Rattle.scaled_program.specs.ExportedProgram.{IsProgramOf, program, mps_of, tied_program}
use Rattle.scaled_program.specs.Factor.{objective_numbers}
use Rattle.scaled_program.specs.Program.{ScaledProgram, ScaledRow, exported_rows, nonzero, scaled_row, tie, z_form, z_variable}
use Rattle.round_trips.specs.Exportable.{HasDecimalBounds, IsExportable, form_count}
use Rattle.round_trips.specs.ReadAs.{IsReadAs}
use Rattle.round_trips.proofs.Counting.{counted, exported_count, exported_rows_count, few_coefficients, form_less}
use Rattle.round_trips.proofs.Counting.{in_columns, most_entries, range_last, range_ones, range_sum, sums, sums-append}
use Rattle.round_trips.proofs.Counting.{there_or_not}
use Rattle.round_trips.proofs.Exports.{constant_fits, costs_fit, rows_written, tie_written, z_constant, z_costs, z_decimal}
use Rattle.exact_numbers.proofs.Fitting.{picked}
use Rattle.round_trips.proofs.Names.{scaled_of}
use Rattle.round_trips.proofs.Picked.{IsDecimalProgram, values_back, whole_picked}
use Rattle.round_trips.proofs.ProgramNames.{AreRowsFrom, exported_named, tied_named, tied_variables_named, variables_named}
use Rattle.round_trips.proofs.Reading.{is_decimal, read_back}
use Rattle.round_trips.proofs.Whole.{CanBeWritten, IsWritten, program_is_decimal, program_is_whole}

module _ (l : Linear) (is : IsExportable l) (fits : (i : ℕ) → ExportFits l i) where
  -- how many variables
  abbrev n : ℕ
  n = variable_count l

  -- the exported rows
  abbrev own : List ScaledRow
  own = exported_rows (factor_of_row l) 0 l.rows

  rows_from : AreRowsFrom 0 l.rows
  rows_from i lt = is.named.rows i lt ∙ ap row_name (omega arith)

  -- every exported row can be written, with coefficients below m
  written : (m : ℕ) → All (IsWritten m) own
  written m = rows_written n m (factor_of_row l) l.rows is.linear.within fits

  few_exported : length own ≤ row_count l
  few_exported = exported_rows_count (factor_of_row l) 0 l.rows

  -- ---- a decimal objective

  plain_can : IsDecimal l → CanBeWritten own l.objective l.variables
  plain_can decimal = record {
    named = exported_named (factor_of_row l) l.rows rows_from (omega (arith, is.named.few_rows));
    variables = variables_named l.variables is.named.variables (omega (arith, is.named.few_variables));
    few_rows = omega (arith, few_exported, is.named.few_rows);
    few_variables = omega (arith, is.named.few_variables);
    few_entries = omega (
      arith,
      in_columns l.objective own 0 n l.variables refl,
      is.named.few_variables,
      form_less l.objective.coefficient l.objective n (λ j lt none. none),
      exported_count (factor_of_row l) n 0 l.rows,
      few_coefficients l is,
    );
    costs = λ j lt. costs_fit n l.objective decimal j lt;
    constant = constant_fits n l.objective decimal;
    written = written n;
    bounds = is.bounds;
  }

  -- ---- a tied objective

  -- one coefficient more in each row
  one_wider : (rs : List ScaledRow) → sums (λ r. range_sum (counted r.coefficient) 0 (suc n)) rs ≤ sums (λ r. range_sum (counted r.coefficient) 0 n) rs + length rs
  one_wider [] = omega arith
  one_wider (r ∷ rs) = omega (arith, range_last (counted r.coefficient) 0 n, there_or_not (nonzero (r.coefficient (0 + n))), one_wider rs)

  -- the row of the tie, times g
  abbrev tie_row : ℕ → ScaledRow
  tie_row g = scaled_row g (tie n l.objective)

  tie_count : (g : ℕ) → range_sum (counted (tie_row g).coefficient) 0 n ≤ form_count n l.objective
  tie_count g = form_less (tie_row g).coefficient l.objective n (λ j lt none. at j lt none (nat_eq j n) refl)
    where
      at : (j : ℕ) → j < n → l.objective.coefficient j ≡ zero_ℚ → (b : Bool) → nat_eq j n ≡ b → whole (pos g) *ℚ cond b (neg_ℚ one_ℚ) (l.objective.coefficient j) ≡ zero_ℚ
      at j lt none true e = absurd (let same = eqb-true j n e in omega (arith, lt, same))
      at j lt none false e = ap (λ (x : ℚ). whole (pos g) *ℚ x) none ∙ *ℚ_zero (whole (pos g))

  tied_entries : (g : ℕ) (rs : List ScaledRow) → rs ≡ own → most_entries (z_form n) (rs ++ tie_row g ∷ []) 0 (suc n) ≤ 2 ^ 24
  tied_entries g rs e =
      let last = tie_row g in
      let wide : ScaledRow → ℕ = λ r. range_sum (counted r.coefficient) 0 (suc n) in
      let narrow : ScaledRow → ℕ = λ r. range_sum (counted r.coefficient) 0 n in
      let before : sums narrow rs ≤ sums (λ r. form_count n r.body) l.rows = rw e (exported_count (factor_of_row l) n 0 l.rows) in
      let few : length rs ≤ row_count l = rw e few_exported in
      omega (
        arith,
        range_ones (counted (z_form n).coefficient) 0 (suc n) (λ i. there_or_not (nonzero ((z_form n).coefficient i))),
        sums-append wide rs (last ∷ []),
        one_wider rs,
        one_wider (last ∷ []),
        tie_count g,
        before,
        few,
        is.named.few_rows,
        is.named.few_variables,
        few_coefficients l is,
      )

  tied_can : (g : ℕ) → g < 2 ^ 127 → All (ScaledFits g) (objective_numbers n l.objective) → CanBeWritten (own ++ tie_row g ∷ []) (z_form n) (l.variables ++ z_variable ∷ [])
  tied_can g few parts =
      let last = tie_row g in
      let rs = own ++ last ∷ [] in
      let vs = l.variables ++ z_variable ∷ [] in
      let h : All (IsWritten (suc n)) rs = All-push (IsWritten (suc n)) own last (written (suc n)) (tie_written n g l.objective few parts) in
      let count : length vs ≡ suc n = omega (arith, length-append l.variables (z_variable ∷ [])) in
      record {
        named = tied_named (factor_of_row l) l.rows last rows_from (omega (arith, is.named.few_rows)) refl;
        variables = tied_variables_named l.variables is.named.variables (omega (arith, is.named.few_variables));
        few_rows = omega (arith, few_exported, is.named.few_rows, length-append own (last ∷ []));
        few_variables = omega (arith, count, is.named.few_variables);
        few_entries = omega (arith, in_columns (z_form n) rs 0 (suc n) vs count, tied_entries g own refl);
        costs = λ j lt. z_costs n j;
        constant = z_constant;
        written = subst (λ (m : ℕ). All (IsWritten m) rs) (sym count) h;
        bounds = All-push HasDecimalBounds l.variables z_variable is.bounds z_decimal;
      }

  -- ---- the program

  -- a whole decimal program
  pub record IsWhole (m : Mps ℚ) : Type 0 where
    pub valid : IsMps (λ x. x) m
    pub decimal : IsDecimalProgram m

  whole_of : (rs : List ScaledRow) (objective : Form) (vs : List Variable) (maximise : Bool) → CanBeWritten rs objective vs → IsWhole (mps_of (scaled_of rs objective vs maximise))
  whole_of rs objective vs maximise can = record { valid = program_is_whole rs objective vs maximise can; decimal = program_is_decimal rs objective vs maximise can }

  plain_whole : IsDecimal l → IsWhole (program l (factor_of_row l))
  plain_whole decimal = whole_of own l.objective l.variables l.maximise (plain_can decimal)

  tied_whole : ObjectiveFits l → IsWhole (tied_program l (factor_of_row l) (factor_of_objective l))
  tied_whole tied = let g = factor_of_objective l in whole_of (own ++ tie_row g ∷ []) (z_form n) (l.variables ++ z_variable ∷ []) l.maximise (tied_can g tied.factor tied.parts)

  -- the program that it is exported as
  pub program_whole : (s : ScaledProgram) → (IsDecimal l ⊎ ObjectiveFits l) → IsScaledProgramOf l s → IsWhole (mps_of s)
  program_whole s objective exports = by (is_decimal l) objective
    where
      by : (IsDecimal l ⊎ (IsDecimal l → ⊥)) → (IsDecimal l ⊎ ObjectiveFits l) → IsWhole (mps_of s)
      by (inl d) o = subst (λ p. IsWhole (mps_of p)) (sym (exports.plain d)) (plain_whole d)
      by (inr not) (inl d) = absurd (not d)
      by (inr not) (inr t) = subst (λ p. IsWhole (mps_of p)) (sym (exports.tied not)) (tied_whole t)

  pub exported_back : (s : ScaledProgram) → (IsDecimal l ⊎ ObjectiveFits l) → IsScaledProgramOf l s → IsReadAs (mps_text_by value_text (mps_of s)) (mps_of s)
  exported_back s objective exports =
      let m = mps_of s in
      let whole = program_whole s objective exports in
      let values = values_back m whole.decimal in
      let own : Mps Dec = with_values picked m in
      let read : IsProgramOf l own = record { plain = λ d. values ∙ ap mps_of (exports.plain d); tied = λ not. values ∙ ap mps_of (exports.tied not) } in
      subst (λ (p : Mps ℚ). IsReadAs (mps_text_by value_text p) p) values (read_back l own is.named read (whole_picked m whole.valid whole.decimal))
