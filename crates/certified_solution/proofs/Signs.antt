-- What duals that close a leaf say: each has its side, and the Lagrangian is no better than the value.
use Rattle.std.proofs.Common.{◌≡◌, ◌<◌, ℕ, Bool, true, false, List, Option, Some, None, refl}
use Rattle.std.specs.Prelude.{IsTrue}
use Rattle.exact_numbers.specs.Rational.{ℚ, ◌+ℚ◌}
use Rattle.exact_numbers.specs.Sums.{sum_below}
use Rattle.linear_program.specs.Linear.{Linear, form_value, objective_value, row_at, row_count, value_at, variable_count}
use Rattle.certificates.specs.Branch.{branch_fault, duals, duals_check, is_as_good, open_gap, proof_fault}
use Rattle.certificates.specs.LeafSays.{IsInBox, weighted_lack}
use Rattle.certificates.specs.Means.{problem_in}
use Rattle.certificates.specs.Points.{IsAsGood, bounds_of}
use Rattle.certificates.specs.Verdict.{BoundVerdict, Fault, bound, bound_or_fault, bound_total, cost_fault, dual_bound, dual_fault, first_fault, has_needed, no_bound, row_side_missing, side_fault}
use Rattle.exact_numbers.proofs.Tests.{option_or-none}
use Rattle.certificates.proofs.Checks.{at_most_yes, if_none, no_fault}
use Rattle.certificates.proofs.Good.{good_trans}
use Rattle.certificates.proofs.Weak.{dual_bound_is, total_lacks}
use Rattle.certified_solution.specs.Lagrangian.{ShowBound}

module _ (f : Linear) (v : ℚ) (ys : List ℚ) where
  -- the Lagrangian
  abbrev lacking : List ℚ → ℚ
  lacking xs = objective_value f xs +ℚ sum_below (weighted_lack f.maximise f (value_at ys) xs) (row_count f)

  good_yes : (max : Bool) (a b : ℚ) → is_as_good max a b ≡ true → IsAsGood max a b
  good_yes true a b e = at_most_yes b a e
  good_yes false a b e = at_most_yes a b e

  none_missing : (b : ℚ) → dual_bound f (bounds_of f) ys ≡ bound b → dual_fault f (bounds_of f) (value_at ys) ≡ None
  unfolding dual_bound
  none_missing b h = by (dual_fault f (bounds_of f) (value_at ys)) (bound_total f (bounds_of f) (value_at ys)) h
    where
      by : (g : Option Fault) (o : Option ℚ) → bound_or_fault g o ≡ bound b → g ≡ None
      by (Some g) o h = absurd cc
      by None o h = refl

  side_there : dual_fault f (bounds_of f) (value_at ys) ≡ None → (i : ℕ) → i < row_count f → IsTrue (has_needed f.maximise (value_at ys i) (row_at f i).side)
  unfolding dual_fault
  side_there none i l =
      let both = option_or-none (first_fault (side_fault f (value_at ys)) (row_count f)) (first_fault (cost_fault f (bounds_of f) (value_at ys)) (variable_count f)) none in
      if_none (has_needed f.maximise (value_at ys i) (row_at f i).side) (row_side_missing i) (no_fault (side_fault f (value_at ys)) (row_count f) both.0 i l)

  no_better : (b : ℚ) → dual_bound f (bounds_of f) ys ≡ bound b → duals_check f.maximise v 0 (bound b) ≡ None → (xs : List ℚ) → IsInBox f (bounds_of f) xs → IsAsGood f.maximise v (lacking xs)
  no_better b e h xs within =
      good_trans f.maximise v b (lacking xs) (good_yes f.maximise v b (if_none (is_as_good f.maximise v b) (open_gap 0 b) h))
      (total_lacks f (bounds_of f) (value_at ys) xs within b (dual_bound_is f (bounds_of f) ys b e))

  by_bound : (r : BoundVerdict) → dual_bound f (bounds_of f) ys ≡ r → duals_check f.maximise v 0 r ≡ None → ShowBound (problem_in f) ys v
  by_bound (no_bound g) e h = absurd cc
  by_bound (bound b) e h = record {
    sides = side_there (none_missing b e);
    best = λ xs within. (
      lacking xs,
      record {
        value = objective_value f xs;
        objective = refl;
        body = λ i. form_value (row_at f i).body (variable_count f) xs;
        bodies = λ i l. refl;
        total = refl;
      },
      no_better b e h xs within,
    );
  }

  pub duals_show : proof_fault f v (duals ys) ≡ None → ShowBound (problem_in f) ys v
  unfolding proof_fault branch_fault
  duals_show h = by_bound (dual_bound f (bounds_of f) ys) refl h
