-- The bound of a leaf, by its costs.
use Rattle.std.proofs.Common.{◌≡◌, ℕ, ◌+◌, ◌∙◌, sym, ap, ap₂, subst, refl, List, [], length, Bool, true, false, Option, Some, None}
use Rattle.std.specs.Prelude.{if◌then◌else◌}
use Rattle.std.specs.Option.{option_or}
use Rattle.exact_numbers.specs.Fits.{fits}
use Rattle.exact_numbers.specs.Rational.{ℚ, zero_ℚ}
use Rattle.linear_program.specs.Linear.{Form, Interval, Linear, row_count, value_at, variable_count}
use Rattle.certificates.specs.Checked.{run}
use Rattle.certificates.specs.Parts.{maximising}
use Rattle.certificates.specs.Points.{Box, Numbers}
use Rattle.certificates.specs.Verdict.{Fault as Cause, BoundVerdict as Answer, at_cost, bound_side_missing}
use Rattle.certificates.specs.Verdict.{bound_or_fault, bound_total, no_bound, cost_check, cost_fault, dual_bound}
use Rattle.certificates.specs.Verdict.{dual_fault, first_fault, has_needed, IsDualFault, reduced_cost, row_part}
use Rattle.certificates.specs.Verdict.{side_fault, too_wide}
use Rattle.linear_program.specs.Coefs.{Term, coef_in}
use Rattle.linear_program.specs.Numbers.{Pair, spread}
use Rattle.linear_program.proofs.FracLemmas.{coef_fits}
use Rattle.exact_checks.specs.declared.program.Program.{Program}
use Rattle.exact_checks.specs.declared.form.Row.{Row}
use Rattle.exact_checks.specs.declared.verdict.Goal.{Goal}
use Rattle.exact_checks.specs.declared.verdict.Goal.TheVariants.{Zero}
use Rattle.exact_checks.specs.Leaves.{AreIndices, HasRows, IsGoal, IsOver, cost_act, run_pairs}
use Rattle.exact_checks.specs.Programs.{asked}
use Rattle.exact_checks.specs.Sums.{bound_by, bound_from}
use Rattle.exact_checks.specs.Terms.{AreTerms}
use Rattle.exact_checks.proofs.PartRows.{cost_paired}

-- ---- what costs can lack
if_fault : (b : Bool) (f v : Cause) → IsDualFault f → (if b then None else Some f) ≡ Some v → IsDualFault v
if_fault true f v q h = absurd (cc)
if_fault false f v q h = let e : f ≡ v = cc in subst IsDualFault e q

pub cost_fault_kind : (max : Bool) (i : Interval) (j : ℕ) (o : Option ℚ) (v : Cause) → cost_check max i j o ≡ Some v → IsDualFault v
cost_fault_kind max i j None v h = let e : too_wide (at_cost j) ≡ v = cc in subst IsDualFault e tt
cost_fault_kind max i j (Some d) v h = if_fault (has_needed max d i) (bound_side_missing j) v tt h

-- ---- the bound
bound_by_reduced : (f : Linear) (box : Box) (ys : List ℚ) → first_fault (side_fault f (value_at ys)) (row_count f)
    ≡ None → dual_bound f box ys ≡ bound_by f box (value_at ys) (λ j. reduced_cost f (value_at ys) j) (variable_count f)
unfolding dual_bound dual_fault cost_fault bound_total
bound_by_reduced f box ys none = ap (λ o. bound_or_fault (option_or o
    (first_fault (λ j. cost_check f.maximise (box j) j (reduced_cost f (value_at ys) j)) (variable_count f)))
    (bound_total f box (value_at ys))) none

pub by_parts : (f : Linear) (box : Box) (y : Numbers) (costs : ℕ → Option ℚ) (n : ℕ) (max : Bool) (constant : ℚ) (start : Option ℚ) (v : Answer) → f.maximise ≡ max → f.objective.constant ≡ constant
    → start ≡ run (row_part f y) constant (row_count f) → v ≡ bound_from max box costs n start → v ≡ bound_by f box y costs n
by_parts f box y costs n max constant start v sense same rows h = h ∙ ap₂ (λ m o. bound_from m box costs n o) (sym sense) (rows ∙ ap (λ s. run (row_part f y) s (row_count f)) (sym same))

pub side_lacks : (f : Linear) (box : Box) (ys : List ℚ) (g : Cause) → Some g ≡ first_fault (side_fault f (value_at ys)) (row_count f) → no_bound g ≡ dual_bound f box ys
unfolding dual_bound dual_fault
side_lacks f box ys g e = ap (λ o. bound_or_fault (option_or o (first_fault (cost_fault f box (value_at ys)) (variable_count f))) (bound_total f box (value_at ys))) e

pub bound_is : (c : Program) (planes : List Row) (f : Linear) (held : HasRows c planes f) (max : Bool) (constant : ℚ)
    (terms : List Term) (goal : IsGoal max constant terms f) (box : Box) (ps : List Pair) (start costs : ℕ → Option ℚ)
    (n : ℕ) (v : Answer)
    → AreIndices 0 (length c.rows.items + length planes) ps
    → None ≡ first_fault (side_fault f (value_at (spread (row_count f) ps))) (row_count f)
    → ((j : ℕ) → start j ≡ Some (coef_in terms j))
    → ((j : ℕ) → costs j ≡ run_pairs (cost_act f j) (start j) ps)
    → n ≡ length c.lower.items
    → v ≡ bound_by f box (value_at (spread (row_count f) ps)) costs n
    → v ≡ dual_bound f box (spread (row_count f) ps)
bound_is c planes f held max constant terms goal box ps start costs n v ok none starts taken count h =
    h
    ∙ ap₂ (bound_by f box (value_at (spread (row_count f) ps))) (λ q j. reduced j q) (count ∙ sym held.variables)
    ∙ sym (bound_by_reduced f box (spread (row_count f) ps) (sym none))
  where
    coefficient : (j : ℕ) → coef_in terms j ≡ f.objective.coefficient j
    coefficient j = ap (λ (g : Form). g.coefficient j) (sym goal.sum)

    reduced : (j : ℕ) → costs j ≡ reduced_cost f (value_at (spread (row_count f) ps)) j
    reduced j =
        taken j
        ∙ ap (λ o. run_pairs (cost_act f j) o ps) (starts j ∙ ap Some (coefficient j))
        ∙ sym (cost_paired c planes f held ps ok j (ap fits (sym (coefficient j)) ∙ coef_fits terms j))

-- the held program with a goal, and with a sum to be maximised
pub rows_asked : (c : Program) (planes : List Row) (f : Linear) (goal : Goal) → IsOver c planes f → HasRows c planes (asked goal f)
rows_asked c planes f goal over = record { rows = over.rows; row = λ i r at. let h = over.row i r at in record { body = h.body; side = h.side; terms = h.terms }; variables = over.variables }

pub rows_maximised : (c : Program) (planes : List Row) (f : Linear) (form : Form) → HasRows c planes f → HasRows c planes (maximising f form)
rows_maximised c planes f form held = record { rows = held.rows; row = λ i r at. let h = held.row i r at in record { body = h.body; side = h.side; terms = h.terms }; variables = held.variables }

-- a sum without terms
pub no_terms : (n : ℕ) → AreTerms 0 n []
unfolding AreTerms
no_terms n = tt

pub zero_goal : (f : Linear) (z : ℚ) → z ≡ zero_ℚ → IsGoal false z [] (asked Zero f)
zero_goal f z e = record { sense = refl; sum = ap (λ (x : ℚ). record { constant = x; coefficient = λ j. zero_ℚ }) (sym e) }

pub sum_goal : (f : Linear) (terms : List Term) (z : ℚ) → z ≡ zero_ℚ → IsGoal true z terms (maximising f (record { constant = zero_ℚ; coefficient = coef_in terms }))
sum_goal f terms z e = record { sense = refl; sum = ap (λ (x : ℚ). record { constant = x; coefficient = coef_in terms }) (sym e) }
