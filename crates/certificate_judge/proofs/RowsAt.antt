-- The rows of a program, and loops over them and over its variables.
use Rattle.std.proofs.Common.{◌≡◌, ℕ, ◌<◌, ◌∙◌, sym, ap, ap₂, subst, List, length, get_or, Bool, Option, Some, None}
use Rattle.std.specs.Prelude.{if◌then◌else◌, slice_get, not, ◌&&◌}
use Rattle.exact_numbers.specs.Rational.{ℚ, zero_ℚ}
use Rattle.linear_program.specs.Linear.{Form, Interval, variable_at, variable_count}
use Rattle.certificates.specs.Certificate.{can_compare, fitting_bound_fault, is_whole_number, wholeness}
use Rattle.certificates.specs.Points.{bounds_of}
use Rattle.certificates.specs.Ray.{RayFault, ray_bound_broken, ray_bound_fault, ray_row_check, ray_row_fault, recession, run_change}
use Rattle.certificates.specs.Verdict.{Fault, at_bound, bound_broken, bound_fault, is_inside, row_check, row_fault, run_form, too_wide}
use Rattle.exact_numbers.specs.declared.frac.Frac.{Frac}
use Rattle.exact_numbers.specs.Values.{frac_value}
use Rattle.linear_program.specs.Intervals.{interval_of}
use Rattle.exact_checks.specs.declared.program.Program.{Program}
use Rattle.exact_checks.specs.declared.form.Row.{Row}
use Rattle.exact_checks.specs.Programs.{form_of, program_value}
use Rattle.exact_checks.specs.Terms.{AreTerms}
use Rattle.exact_checks.proofs.Rows.{body_here, item_at, side_here, variables_counted, rows_counted}
use Rattle.certificate_judge.specs.InsidePoints.{point_of}
use Rattle.exact_checks.proofs.FormPoints.{form_with, point_at}

module _ (c : Program) (items : List Row) (same : items ≡ c.rows.items) (i : ℕ) (r : Row) (l : i < length items)
    (is : r ≡ get_or items i r) (xs : List Frac) (len : length xs ≡ variable_count (program_value c)) where
  at : slice_get c.rows.items i ≡ Some r
  at = item_at c.rows.items items i r same l is

  pub row_terms : AreTerms 0 (length xs) r.body.terms
  row_terms = subst (λ n. AreTerms 0 n r.body.terms) (sym (len ∙ variables_counted c)) (c.sound.rows_terms i r at)

  pub row_fault_is : (o : Option ℚ) (g : Option Fault) → o ≡ run_form (length xs) (form_of r.body) (point_of xs)
      → g ≡ row_check i (interval_of r.side) o → g ≡ row_fault (program_value c) (point_of xs) i
  unfolding row_fault
  row_fault_is o g e h =
      h ∙ ap₂ (row_check i) (sym (side_here c i r at)) (e ∙ ap₂ (λ n b. run_form n b (point_of xs)) len (sym (body_here c i r at)))

  pub ray_row_fault_is : (z : ℚ) (o : Option ℚ) (g : Option RayFault) → z ≡ zero_ℚ
      → o ≡ run_form (length xs) (form_with z r.body.terms) (point_of xs) → g ≡ ray_row_check i (interval_of r.side) o
      → g ≡ ray_row_fault (program_value c) (point_of xs) i
  unfolding ray_row_fault run_change
  ray_row_fault_is z o g zero e h =
      h
      ∙ ap₂ (ray_row_check i) (sym (side_here c i r at))
      (e ∙ ap (λ k. run_form (length xs) (form_with k r.body.terms) (point_of xs)) zero
      ∙ ap₂ (λ n (b : Form). run_form n (record { constant = zero_ℚ; coefficient = b.coefficient }) (point_of xs)) len (sym (body_here c i r at)))

module _ (c : Program) (xs : List Frac) (j : ℕ) (x : Frac) (l : j < length xs) (is : x ≡ get_or xs j x) where
  pub bound_fault_is : (s : Interval) (g : Option Fault) → s ≡ bounds_of (program_value c) j
      → g ≡ (if can_compare s.lower && can_compare s.upper then (if is_inside (frac_value x) s then None else Some (bound_broken j)) else Some (too_wide (at_bound j)))
      → g ≡ fitting_bound_fault (program_value c) (point_of xs) j
  unfolding fitting_bound_fault bound_fault
  bound_fault_is s g e h =
      h ∙ ap₂ (λ (t : Interval) v. if can_compare t.lower && can_compare t.upper then
      (if is_inside v t then None else Some (bound_broken j)) else Some (too_wide (at_bound j))) e
      (sym (point_at xs j x l is))

  pub ray_bound_fault_is : (s : Interval) (b : Bool) → s ≡ bounds_of (program_value c) j
      → b ≡ is_inside (frac_value x) (recession s) → (if b then None else Some (ray_bound_broken j))
      ≡ ray_bound_fault (program_value c) (point_of xs) j
  unfolding ray_bound_fault
  ray_bound_fault_is s b e h = ap (λ t. if t then None else Some (ray_bound_broken j)) (h ∙ ap₂ (λ t v. is_inside v (recession t)) e (sym (point_at xs j x l is)))

  pub wholeness_is : (a b : Bool) → a ≡ (variable_at (program_value c) j).whole
      → b ≡ (a && not (is_whole_number (frac_value x))) → (if b then Some j else None)
      ≡ wholeness (program_value c) (point_of xs) j
  wholeness_is a b e h = ap (λ t. if t then Some j else None) (h ∙ ap₂ (λ t v. t && not (is_whole_number v)) e (sym (point_at xs j x l is)))

-- ---- the objective
module _ (c : Program) (xs : List Frac) (len : length xs ≡ variable_count (program_value c)) where
  pub objective_terms : AreTerms 0 (length xs) c.objective.terms
  objective_terms = subst (λ n. AreTerms 0 n c.objective.terms) (sym (len ∙ variables_counted c)) c.sound.objective_terms

  pub objective_is : run_form (length xs) (form_of c.objective) (point_of xs) ≡ run_form (variable_count (program_value c)) (program_value c).objective (point_of xs)
  unfolding program_value
  objective_is = ap (λ n. run_form n (form_of c.objective) (point_of xs)) len

  pub change_is : (z : ℚ) → z ≡ zero_ℚ → run_form (length xs) (form_with z c.objective.terms) (point_of xs) ≡ run_change (variable_count (program_value c)) (program_value c).objective (point_of xs)
  unfolding program_value run_change
  change_is z e = ap₂ (λ k n. run_form n (form_with k c.objective.terms) (point_of xs)) e len

pub ruleset rows_read = (rows_counted, row_terms)

pub ruleset bounds_read = (variables_counted, bound_fault_is)
