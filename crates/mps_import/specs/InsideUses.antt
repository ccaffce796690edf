-- What the rows of a program are in the file, and the terms that their entries become.
use Rattle.std.specs.Prelude.{◌≡◌, ℕ, suc, ◌<◌, Bool, true, false, not, cond, nat_eq, ◌&&◌, List, [], ◌∷◌, ◌++◌, length, get_or, slice_set}
use Rattle.std.specs.List.{sum_by, filter_map}
use Rattle.exact_numbers.specs.declared.dec.Dec.{Dec}
use Rattle.nl_model.specs.Draft.{Draft}
use Rattle.nl_model.specs.File.{Term}
use Rattle.nl_model.specs.Rules.{most_terms, term_count}
use Rattle.mps_model.specs.Mps.{MpsRow, Entry, Mps, objective_row}
use Rattle.mps_import.specs.declared.rows.RowUse.{RowUse}
use Rattle.mps_import.specs.declared.rows.RowUse.TheVariants.{Unused, Objective, Constraint}
use Rattle.mps_program.specs.Program.{is_constraint, constraints}
use Rattle.mps_program.specs.Terms.{is_zero_dec, term_of}
use Rattle.mps_import.specs.Import.{entries_at, terms_from, row_terms, objective_terms, import_counts}
use Rattle.mps_program.specs.Places.{places, one_if}

-- the number of constraints before row i
abbrev pub rank : List MpsRow → ℕ → ℕ
rank rows i = length (places (is_constraint rows) i)

-- row i is the next constraint, or the objective, or neither
abbrev pub use_of : List MpsRow → ℕ → RowUse
use_of rows i =
    cond (is_constraint rows i) (Constraint (rank rows i))
    (cond (nat_eq i (objective_row rows)) Objective Unused)

-- ---- counts
-- an entry that is not 0 in a row that passes
abbrev pub is_hit : (ℕ → Bool) → Entry Dec → Bool
is_hit test e = test e.row && not (is_zero_dec e.value)

-- how many entries of some columns are not 0, in rows that pass
abbrev pub hits : (ℕ → Bool) → List (Entry Dec) → ℕ
hits test es = sum_by (λ e. one_if (is_hit test e)) es

abbrev pub hits_in : (ℕ → Bool) → Mps Dec → List ℕ → ℕ
hits_in test m js = sum_by (λ j. hits test (entries_at m j)) js

-- by what the rows are
abbrev pub is_constraint_use : RowUse → Bool
is_constraint_use Unused = false
is_constraint_use Objective = false
is_constraint_use (Constraint k) = true

abbrev pub is_objective_use : RowUse → Bool
is_objective_use Unused = false
is_objective_use Objective = true
is_objective_use (Constraint k) = false

abbrev pub is_constraint_at : List RowUse → ℕ → Bool
is_constraint_at uses i = is_constraint_use (get_or uses i Unused)

abbrev pub is_objective_at : List RowUse → ℕ → Bool
is_objective_at uses i = is_objective_use (get_or uses i Unused)

-- ---- terms
-- row i's terms that are still to come: from the columns js, of which the first is variable p
abbrev pub terms_left : Mps Dec → ℕ → List ℕ → ℕ → List Term
terms_left m p js i = terms_from m i p js

-- the same, where the entries es of variable p come before the columns js
abbrev pub entries_left : Mps Dec → ℕ → List (Entry Dec) → List ℕ → ℕ → List Term
entries_left m p es js i = filter_map (term_of i p) es ++ terms_from m i (suc p) js

-- the terms so far, and those that are still to come, are those of all constraints and of the
-- objective
pub record IsOnItsWay (m : Mps Dec) (left : ℕ → List Term) (d : Draft) : Type 0 where
  pub counts : d.counts ≡ import_counts m
  pub rows : length d.terms ≡ length (constraints m.rows)
  pub costs : length d.slopes ≡ 1
  pub terms : (c : ℕ) → c < length (constraints m.rows)
      → get_or d.terms c [] ++ left (get_or (constraints m.rows) c 0)
      ≡ row_terms m (get_or (constraints m.rows) c 0)
  pub slopes : get_or d.slopes 0 [] ++ left (objective_row m.rows) ≡ objective_terms m

-- the term may be added
abbrev pub CanAddTerm : RowUse → Draft → Type 0
CanAddTerm Unused d = Unit {0}
CanAddTerm Objective d = (0 < d.counts.n_obj) × (length (get_or d.slopes 0 []) < most_terms)
CanAddTerm (Constraint k) d = (k < d.counts.n_con) × (term_count d.terms < most_terms)

-- with one term more
abbrev pub with_term : RowUse → ℕ → Dec → Draft → Draft
with_term Unused p v d = d
with_term Objective p v d =
    record d { slopes = slice_set d.slopes 0 (get_or d.slopes 0 [] ++ (p, v) ∷ []) }
with_term (Constraint k) p v d =
    record d { terms = slice_set d.terms k (get_or d.terms k [] ++ (p, v) ∷ []) }
