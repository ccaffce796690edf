-- What the parts of a program are from which its file is made.
use Rattle.std.specs.Prelude.{◌≡◌, Bool, cond, [], ◌∷◌, length, map, Some, None}
use Rattle.std.specs.Ordering.{is_eq, is_ne}
use Rattle.exact_numbers.specs.declared.dec.Dec.{Dec}
use Rattle.linear_program.specs.Intervals.{interval_of}
use Rattle.mps_model.specs.Mps.{Mps, row_interval, column_interval, objective_row}
use Rattle.nl_model.specs.Draft.{Draft, empty_draft}
use Rattle.nl_model.specs.Rules.{term_count}
use Rattle.linear_program.specs.declared.interval.Interval.{Interval as Sides}
use Rattle.mps_import.specs.declared.build.Parts.{Parts}
use Rattle.mps_program.specs.Decimals.{sides_from}
use Rattle.mps_import.specs.Faults.{import_fault}
use Rattle.mps_program.specs.Faults.{both_sides}
use Rattle.mps_program.specs.Program.{constraints, values_of}
use Rattle.mps_import.specs.Import.{constraint_terms, objective_terms, import_counts, import_options, import_objective}
use Rattle.mps_program.specs.Places.{listed}
use Rattle.mps_import.specs.InsideUses.{use_of}
use Rattle.mps_import.specs.Variables.{columns_that, is_binary, is_integer, order_of_columns}

-- both sides are there, and are equal or differ
abbrev pub side_test : Bool → Sides → Bool
side_test equal s = both_sides (cond equal is_eq is_ne) (interval_of s).lower (interval_of s).upper

-- the header and the objective alone
abbrev pub begun_draft : Mps Dec → Draft
begun_draft m =
    record (empty_draft import_options (import_counts m))
    { objectives = Some (import_objective m) ∷ [] }

-- the parts of a program without a fault
pub record ArePartsOf (m : Mps Dec) (p : Parts) : Type 0 where
  pub clean : import_fault m ≡ None
  pub uses : p.uses.items ≡ listed (use_of m.rows) (length m.rows)
  pub objective : p.objective ≡ objective_row m.rows
  pub sides : p.sides.items
      ≡ map (λ i. sides_from (row_interval (values_of m) i)) (constraints m.rows)
  pub bounds : p.bounds.items
      ≡ listed (λ j. sides_from (column_interval (values_of m) j)) (length m.columns)
  pub order : p.variables.columns.items ≡ order_of_columns m
  pub binary : p.variables.binary ≡ length (columns_that is_binary m)
  pub integer : p.variables.integer ≡ length (columns_that is_integer m)
  pub terms : p.count.constraints ≡ term_count (constraint_terms m)
  pub slopes : p.count.objective ≡ length (objective_terms m)
