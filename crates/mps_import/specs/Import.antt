-- The .nl file that an MPS program is imported as (Gay 2005, "Writing .nl Files").
use Rattle.std.specs.Prelude.{ℕ, suc, Bool, pos, ℤ, List, [], ◌∷◌, ◌++◌, length, map, get_or, replicate, None}
use Rattle.std.specs.List.{filter_map, count_by}
use Rattle.std.specs.Ordering.{is_eq, is_ne}
use Rattle.std.specs.declared.cmp.Ordering.{Ordering}
use Rattle.exact_numbers.specs.Rational.{ℚ, neg_ℚ}
use Rattle.exact_numbers.specs.declared.dec.Dec.{Dec}
use Rattle.nl_model.specs.declared.header_counts.Counts.{Counts}
use Rattle.nl_model.specs.File.{Term, File}
use Rattle.nl_model.specs.declared.objective.Objective.{Objective}
use Rattle.nl_model.specs.Rules.{term_count}
use Rattle.mps_model.specs.Mps.{Entry, Mps, no_column, row_interval, column_interval, rhs_at, objective_row}
use Rattle.mps_program.specs.Decimals.{sides_from}
use Rattle.mps_program.specs.Faults.{both_sides}
use Rattle.mps_program.specs.Program.{values_of, constraints}
use Rattle.mps_program.specs.Terms.{term_of}
use Rattle.mps_import.specs.Decimals.{number_tree}
use Rattle.mps_import.specs.Variables.{columns_that, is_binary, is_integer, order_of_columns}

-- ---- rows
-- the sides of row i are there, and the test passes their order
abbrev pub has_sides : (Ordering → Bool) → Mps Dec → ℕ → Bool
has_sides test m i =
    both_sides test (row_interval (values_of m) i).lower (row_interval (values_of m) i).upper

-- ---- terms
-- the entries of column j
abbrev pub entries_at : Mps Dec → ℕ → List (Entry Dec)
entries_at m j = (get_or m.columns j no_column).entries

-- the terms of row i from columns, of which the first is variable p
unfoldable pub terms_from : Mps Dec → ℕ → ℕ → List ℕ → List Term
terms_from m i p [] = []
terms_from m i p (j ∷ js) = filter_map (term_of i p) (entries_at m j) ++ terms_from m i (suc p) js

-- the terms of row i, by ascending variable
unfoldable pub row_terms : Mps Dec → ℕ → List Term
row_terms m i = terms_from m i 0 (order_of_columns m)

-- of all constraints
abbrev pub constraint_terms : Mps Dec → List (List Term)
constraint_terms m = map (row_terms m) (constraints m.rows)

-- of the objective
abbrev pub objective_terms : Mps Dec → List Term
objective_terms m = row_terms m (objective_row m.rows)

-- ---- the file
-- no nonlinear parts, no names, no defined variables; suffixes are announced as in usual files
abbrev pub counts_with : (variables constraints ranges equations binary integer terms slopes : ℕ)
    → Counts
counts_with variables constraints ranges equations binary integer terms slopes =
    record {
      n_var = variables;
      n_con = constraints;
      n_obj = 1;
      n_ranges = ranges;
      n_eqns = equations;
      n_lcon = 0;
      nlc = 0;
      nlo = 0;
      nlnc = 0;
      lnc = 0;
      nlvc = 0;
      nlvo = 0;
      nlvb = 0;
      nwv = 0;
      nfunc = 0;
      arith = 0;
      flags = 1;
      nbv = binary;
      niv = integer;
      nlvbi = 0;
      nlvci = 0;
      nlvoi = 0;
      nzc = terms;
      nzo = slopes;
      row_name_len = 0;
      col_name_len = 0;
      comb = 0;
      comc = 0;
      como = 0;
      comc1 = 0;
      como1 = 0;
    }

-- ranges and equations are the constraints with two sides that differ, or are equal
unfoldable pub import_counts : Mps Dec → Counts
import_counts m =
    counts_with (length m.columns) (length (constraints m.rows))
    (count_by (has_sides is_ne m) (constraints m.rows))
    (count_by (has_sides is_eq m) (constraints m.rows))
    (length (columns_that is_binary m)) (length (columns_that is_integer m))
    (term_count (constraint_terms m)) (length (objective_terms m))

abbrev pub import_options : List ℤ
import_options = pos 1 ∷ pos 1 ∷ pos 0 ∷ []

-- the number that the objective adds to its terms: its right side with the other sign
abbrev pub objective_constant : Mps Dec → ℚ
objective_constant m = neg_ℚ (rhs_at (values_of m) (objective_row m.rows))

abbrev pub import_objective : Mps Dec → Objective
import_objective m = record { maximise = m.maximise; tree = number_tree (objective_constant m) }

-- the file of a program without a fault
unfoldable pub import_of : Mps Dec → File
import_of m =
    record {
      options = import_options;
      counts = import_counts m;
      bodies = replicate (length (constraints m.rows)) None;
      objectives = import_objective m ∷ [];
      definitions = [];
      terms = constraint_terms m;
      slopes = objective_terms m ∷ [];
      sides = map (λ i. sides_from (row_interval (values_of m) i)) (constraints m.rows);
      bounds = map (λ j. sides_from (column_interval (values_of m) j)) (order_of_columns m);
      dual_guesses = [];
      primal_guesses = [];
      suffixes = [];
    }
