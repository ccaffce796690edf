-- The file of a program that is imported keeps the rules of values.
use Rattle.std.proofs.Common.{◌≡◌, ◌∙◌, ℕ, suc, ◌+◌, ◌<◌, ◌≤◌, Bool, true, false, ◌&&◌, List, [], ◌∷◌, length, get_or, All, refl, arith, Option, Some, None, replicate, nat_eq, if◌then◌else◌, not}
use Rattle.std.specs.Prelude.{IfSome}
use Rattle.std.specs.List.{filter_map, cons_option}
use Rattle.std.specs.Ordering.{is_eq, is_ne}
use Rattle.std.proofs.Math.ListN.{length-replicate}
use Rattle.std.proofs.lemmas.List.{length-map}
use Rattle.std.proofs.lemmas.List.Elements.{All-append, All-cons, All-map, All-nil, All-replicate}
use Rattle.std.proofs.lemmas.List.Sums.{count_by-le-length}
use Rattle.exact_numbers.specs.declared.dec.Dec.{Dec}
use Rattle.nl_model.specs.Trees.{Tree}
use Rattle.nl_model.specs.File.{Term}
use Rattle.nl_model.specs.declared.objective.Objective.{Objective}
use Rattle.nl_model.specs.Rules.{AreBodies, AreGuesses, AreObjectives, AreTerms, AreTermsBelow, IsFile, IsSuffix, IsTreeKnown, most_terms}
use Rattle.linear_program.specs.Intervals.{IsOrdered}
use Rattle.mps_model.specs.Mps.{Entry, Mps, column_interval, objective_row, row_interval}
use Rattle.mps_program.specs.Decimals.{sides_from}
use Rattle.mps_import.specs.Faults.{import_fault}
use Rattle.mps_import.specs.Import.{constraint_terms, entries_at, has_sides, import_counts, import_objective, import_of, objective_terms, row_terms, terms_from}
use Rattle.mps_program.specs.Program.{constraints, values_of}
use Rattle.mps_program.specs.Terms.{is_zero_dec, term_of}
use Rattle.mps_program.specs.Kinds.{is_whole, is_zero_to_one}
use Rattle.mps_import.specs.Variables.{order_of_columns}
use Rattle.mps_import.proofs.MeaningLemmas.{order_length}
use Rattle.mps_program.proofs.OrderLemmas.{column_ordered, rows_ordered}
use Rattle.mps_import.proofs.PartLemmas.{clean_large, few_columns, few_constraints, header_fits, not_empty, clean_wide}
use Rattle.mps_program.proofs.PlaceLemmas.{all_parted, parts_length}
use Rattle.mps_import.proofs.TermLemmas.{few_terms}

-- ---- terms

module _ (P : Term → Type 0) where
  entry_terms : (p : ℕ) (d : Dec) (tail : List Term) (a z : Bool) → P (p, d) → All P tail → All P (cons_option (if a && not z then Some (p, d) else None) tail)
  entry_terms p d tail true true is h = h
  entry_terms p d tail true false is h = All-cons P (p, d) tail is h
  entry_terms p d tail false z is h = h

  -- what holds of each term of variable p holds of those of a column
  pub column_terms : (i p : ℕ) (es : List (Entry Dec)) → ((d : Dec) → P (p, d)) → All P (filter_map (term_of i p) es)
  column_terms i p [] each = All-nil P
  column_terms i p (e ∷ es) each = entry_terms p e.value (filter_map (term_of i p) es) (nat_eq e.row i) (is_zero_dec e.value) (each e.value) (column_terms i p es each)

  -- and so for the columns from p on
  pub all_terms_from : (m : Mps Dec) (i p : ℕ) (js : List ℕ) → ((q : ℕ) (d : Dec) → p ≤ q → q < p + length js → P (q, d)) → All P (terms_from m i p js)
  unfolding terms_from
  all_terms_from m i p [] each = All-nil P
  all_terms_from m i p (j ∷ js) each =
      All-append P (filter_map (term_of i p) (entries_at m j)) (terms_from m i (suc p) js) (column_terms i p (entries_at m j) (λ d. each p d (omega arith) (omega arith)))
      (all_terms_from m i (suc p) js (λ q d from below. each q d (omega (arith, from)) (omega (arith, below))))

row_below : (m : Mps Dec) (i : ℕ) → AreTermsBelow (length m.columns) (row_terms m i)
unfolding row_terms
row_below m i = all_terms_from (λ t. t.0 < length m.columns) m i 0 (order_of_columns m) (λ q d from below. omega (arith, below, order_length m))

always : (P : ℕ → Type 0) (js : List ℕ) → ((j : ℕ) → P j) → All P js
always P js h k d lt = h (get_or js k d)

pub one : {A : Type 0} (P : A → Type 0) (x : A) → P x → All P (x ∷ [])
one P x h = All-cons P x [] h (All-nil P)

module _ (m : Mps Dec) (clean : import_fault m ≡ None) where
  all_terms : AreTerms (import_counts m) (constraint_terms m) (objective_terms m ∷ [])
  unfolding import_counts
  all_terms =
      let n = length m.columns in
      let few = few_terms m (clean_large m clean) in
      record {
        rows = length-map (constraints m.rows) (row_terms m);
        costs = refl;
        terms_below = All-map (AreTermsBelow n) (row_terms m) (constraints m.rows) (always (λ i. AreTermsBelow n (row_terms m i)) (constraints m.rows) (row_below m));
        slopes_below = one (AreTermsBelow n) (objective_terms m) (row_below m (objective_row m.rows));
        few_terms = omega (arith, few);
        few_slopes = one (λ ts. length ts ≤ most_terms) (objective_terms m) (omega (arith, few));
      }

  -- ---- the other parts

  all_bodies : AreBodies (import_counts m) [] (replicate (length (constraints m.rows)) None)
  unfolding import_counts
  all_bodies = record {
    count = length-replicate (length (constraints m.rows)) None;
    known = All-replicate (λ (b : Option Tree). IfSome b (IsTreeKnown (length m.columns) [])) (length (constraints m.rows)) None tt;
  }

  the_objective : AreObjectives (import_counts m) [] (import_objective m ∷ [])
  unfolding import_counts
  the_objective = record {
    count = refl;
    known = one (λ (o : Objective). IsTreeKnown (length m.columns) [] o.tree) (import_objective m) (record { formed = tt; within = tt });
  }

  no_guesses : (n : ℕ) → AreGuesses n []
  no_guesses n = record { below = All-nil (λ t. t.0 < n); apart = λ i j d lt within. absurd (omega (arith, within)) }

  all_bounds : All (λ j. IsOrdered (sides_from (column_interval (values_of m) j))) (order_of_columns m)
  unfolding order_of_columns
  all_bounds = all_parted (is_whole m) (is_zero_to_one m) (λ j. IsOrdered (sides_from (column_interval (values_of m) j))) (length m.columns) (λ j lt. column_ordered m j (not_empty m clean j lt))

  -- ---- the file

  pub is_file : IsFile (import_of m)
  unfolding import_of import_counts
  is_file =
      let rows = few_constraints m clean in
      let ranges = count_by-le-length (has_sides is_ne m) (constraints m.rows) in
      let equations = count_by-le-length (has_sides is_eq m) (constraints m.rows) in
      let parts = parts_length (is_whole m) (is_zero_to_one m) (length m.columns) in
      record {
        ruled = header_fits _ _ _ _ _ _ _ _ (few_columns m clean) rows (omega (arith, rows, ranges)) (omega (arith, rows, equations)) (omega (arith, parts)) (few_terms m (clean_large m clean));
        definitions = tt;
        bodies = all_bodies;
        objectives = the_objective;
        terms = all_terms;
        all_terms = refl;
        side_count = length-map (constraints m.rows) (λ i. sides_from (row_interval (values_of m) i));
        sides = rows_ordered m (clean_wide m clean);
        bound_count = length-map (order_of_columns m) (λ j. sides_from (column_interval (values_of m) j)) ∙ order_length m;
        bounds = All-map IsOrdered (λ j. sides_from (column_interval (values_of m) j)) (order_of_columns m) all_bounds;
        dual_guesses = no_guesses (length (constraints m.rows));
        primal_guesses = no_guesses (length m.columns);
        suffixes = record { each = All-nil (IsSuffix (import_counts m)); apart = λ i j d lt within. absurd (omega (arith, within)) };
      }
