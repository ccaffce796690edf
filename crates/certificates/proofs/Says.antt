-- What each verdict says.
use Rattle.std.proofs.Common.{◌≡◌, ℕ, ◌<◌, sym, subst, refl, Bool, true, false, Option, Some, None, List}
use Rattle.std.specs.Prelude.{if◌then◌else◌, ◌&&◌, IfSome}
use Rattle.exact_numbers.specs.Rational.{ℚ}
use Rattle.linear_program.specs.Linear.{Interval, Linear, IsInside, IsRelaxed, no_row, value_at, variable_count, objective_value, row_count, row_at}
use Rattle.linear_program.proofs.Sides.{AtLeast, AtMost}
use Rattle.certificates.specs.Checked.{is_same}
use Rattle.certificates.specs.Points.{bounds_of}
use Rattle.certificates.specs.Verdict.{Fault, row_broken, bound_broken, row_side_missing, bound_side_missing, too_wide}
use Rattle.certificates.specs.Verdict.{at_row, at_bound, at_cost, at_objective, at_total, yes, gap, sides_fit}
use Rattle.certificates.specs.Verdict.{is_inside, is_not_below, is_not_above, first_fault, row_fault, row_check}
use Rattle.certificates.specs.Verdict.{bound_fault, run_form, point_fault, early_fault, dual_fault, last_of}
use Rattle.certificates.specs.Verdict.{bound_total, verdict, IsDualFault}
use Rattle.certificates.specs.Says.{IsMetBeforeRow, IsMetBeforeBound, IsWithinGap, FaultSays, VerdictSays}
use Rattle.exact_numbers.proofs.Tests.{option_or-none}
use Rattle.certificates.proofs.Feasible.{bound_met, relaxed_at, row_met}
use Rattle.certificates.proofs.Checks.{at_most_of, no_fault, same_yes}
use Rattle.certificates.proofs.DualFaults.{dual_kind, first_says, both_say}
use Rattle.certificates.proofs.Good.{good_not_better}
use Rattle.certificates.proofs.Weak.{form_some, total_good}

-- what is inside passes the test
inside_of : (v : ℚ) (i : Interval) → IsInside i v → is_inside v i ≡ true
inside_of v i h = both (is_not_below i.lower v) (is_not_above i.upper v) (low i.lower h.above) (high i.upper h.below)
  where
    low : (o : Option ℚ) → AtLeast o v → is_not_below o v ≡ true
    low None k = refl
    low (Some s) k = at_most_of s v k

    high : (o : Option ℚ) → AtMost o v → is_not_above o v ≡ true
    high None k = refl
    high (Some s) k = at_most_of v s k

    both : (a b : Bool) → a ≡ true → b ≡ true → (a && b) ≡ true
    both true b e k = k
    both false b e k = absurd (cc)

not_inside : (v : ℚ) (i : Interval) → is_inside v i ≡ false → ¬ IsInside i v
not_inside v i e h = let k = inside_of v i h in cc

-- ---- the faults of a point
module _ (f : Linear) (xs : List ℚ) where
  row_says : (i : ℕ) → IsMetBeforeRow f xs i → (o : Option ℚ) → run_form (variable_count f) (row_at f i).body (value_at xs) ≡ o → IfSome (row_check i (row_at f i).side o) (FaultSays f xs)
  row_says i met None e = met
  row_says i met (Some r) e = by (sides_fit (row_at f i).side) (is_inside r (row_at f i).side) refl
    where
      by : (a b : Bool) → is_inside r (row_at f i).side ≡ b → IfSome (if a then (if b then None else Some (row_broken i)) else Some (too_wide (at_row i))) (FaultSays f xs)
      by true true t = tt
      by true false t =
          let value = form_some (variable_count f) (row_at f i).body xs r e in
          (met, record { within = met.within; broken = λ ok. not_inside r (row_at f i).side t (subst (λ z. IsInside (row_at f i).side z) value ok) })
      by false b t = met

  row_fault_says : (i : ℕ) → IsMetBeforeRow f xs i → IfSome (row_fault f (value_at xs) i) (FaultSays f xs)
  unfolding row_fault
  row_fault_says i met = row_says i met (run_form (variable_count f) (row_at f i).body (value_at xs)) refl

  pub rows_say : IfSome (first_fault (row_fault f (value_at xs)) (row_count f)) (FaultSays f xs)
  rows_say = first_says (FaultSays f xs) (row_fault f (value_at xs)) (row_count f) (λ i l none. row_fault_says i (record { within = l; rows = λ h g. row_met f xs h (none h g) }))

  pub bound_says : (j : ℕ) → IsMetBeforeBound f xs j → IfSome (bound_fault f (value_at xs) j) (FaultSays f xs)
  unfolding bound_fault
  bound_says j met = by (is_inside (value_at xs j) (bounds_of f j)) refl
    where
      by : (b : Bool) → is_inside (value_at xs j) (bounds_of f j) ≡ b → IfSome (if b then None else Some (bound_broken j)) (FaultSays f xs)
      by true t = tt
      by false t = (met, record { within = met.within; broken = not_inside (value_at xs j) (bounds_of f j) t })

  -- before bound j no row has a fault, and no bound
  pub before_bound : (j : ℕ) → j < variable_count f → first_fault (row_fault f (value_at xs)) (row_count f) ≡ None → ((k : ℕ) → k < j → bound_fault f (value_at xs) k ≡ None) → IsMetBeforeBound f xs j
  before_bound j l rows bounds =
      record {
        within = l;
        rows = λ i g. row_met f xs i (no_fault (row_fault f (value_at xs)) (row_count f) rows i g);
        bounds = λ k g. bound_met f xs k (bounds k g);
      }

  point_says : IfSome (point_fault f (value_at xs)) (FaultSays f xs)
  point_says =
      both_say (FaultSays f xs) (first_fault (row_fault f (value_at xs)) (row_count f)) (first_fault (bound_fault f (value_at xs)) (variable_count f)) rows_say
      (λ rows. first_says (FaultSays f xs) (bound_fault f (value_at xs)) (variable_count f) (λ j l none. bound_says j (before_bound j l rows none)))

  -- a fault that is not one of the point leaves it relaxed feasible
  dual_says : IsRelaxed f xs → (o : Option Fault) → IfSome o IsDualFault → IfSome o (FaultSays f xs)
  dual_says ok None k = tt
  dual_says ok (Some (row_broken i)) k = absurd k
  dual_says ok (Some (bound_broken j)) k = absurd k
  dual_says ok (Some (row_side_missing i)) k = ok
  dual_says ok (Some (bound_side_missing j)) k = ok
  dual_says ok (Some (too_wide (at_row i))) k = absurd k
  dual_says ok (Some (too_wide (at_bound j))) k = absurd k
  dual_says ok (Some (too_wide (at_cost j))) k = ok
  dual_says ok (Some (too_wide at_objective)) k = absurd k
  dual_says ok (Some (too_wide at_total)) k = absurd k

  early_says : (ys : List ℚ) → IfSome (early_fault f (value_at xs) (value_at ys)) (FaultSays f xs)
  unfolding early_fault
  early_says ys =
      both_say (FaultSays f xs) (point_fault f (value_at xs)) (dual_fault f (bounds_of f) (value_at ys)) point_says
      (λ none. dual_says (relaxed_at f xs none) (dual_fault f (bounds_of f) (value_at ys)) (dual_kind f (bounds_of f) (value_at ys)))

  pub says : (ys : List ℚ) → VerdictSays f xs (verdict f xs ys)
  unfolding verdict early_fault
  says ys = by (early_fault f (value_at xs) (value_at ys)) (run_form (variable_count f) f.objective (value_at xs)) (bound_total f (bounds_of f) (value_at ys)) refl refl refl
    where
      within : (v b : ℚ) → early_fault f (value_at xs) (value_at ys) ≡ None
          → run_form (variable_count f) f.objective (value_at xs) ≡ Some v
          → bound_total f (bounds_of f) (value_at ys) ≡ Some b → IsWithinGap f xs v b
      within v b e h k =
          record {
            relaxed = relaxed_at f xs (option_or-none (point_fault f (value_at xs)) (dual_fault f (bounds_of f) (value_at ys)) e).0;
            value = form_some (variable_count f) f.objective xs v h;
            best = λ zs ok better. good_not_better f.maximise b (objective_value f zs) (total_good f (bounds_of f) (value_at ys) zs ok.bounds (λ i l. ok.rows i no_row l) b k) better;
          }

      compared : (v b : ℚ) (t : Bool) → is_same v b ≡ t → IsWithinGap f xs v b → VerdictSays f xs (if t then yes v else gap v b)
      compared v b true e w = subst (λ z. IsWithinGap f xs v z) (sym (same_yes v b e)) w
      compared v b false e w = w

      by : (g : Option Fault) (o q : Option ℚ) → early_fault f (value_at xs) (value_at ys) ≡ g
          → run_form (variable_count f) f.objective (value_at xs) ≡ o → bound_total f (bounds_of f) (value_at ys) ≡ q
          → VerdictSays f xs (last_of g o q)
      by (Some v) o q e h k = rw e at (early_says ys)
      by None None q e h k = relaxed_at f xs (option_or-none (point_fault f (value_at xs)) (dual_fault f (bounds_of f) (value_at ys)) e).0
      by None (Some v) None e h k = relaxed_at f xs (option_or-none (point_fault f (value_at xs)) (dual_fault f (bounds_of f) (value_at ys)) e).0
      by None (Some v) (Some b) e h k = compared v b (is_same v b) refl (within v b e h k)
