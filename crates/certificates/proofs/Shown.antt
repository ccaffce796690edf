-- What a certificate that holds shows.
use Rattle.std.proofs.Common.{◌≡◌, ℕ, ◌<◌, sym, ap, subst, refl, Bool, true, false, IsTrue, Option, Some, None, List}
use Rattle.std.specs.Prelude.{IfSome, if◌then◌else◌, ◌&&◌, ◌==◌, not}
use Rattle.std.proofs.lemmas.Bool.{eqb-true}
use Rattle.exact_numbers.specs.Rational.{ℚ, zero_ℚ, IsWhole}
use Rattle.exact_numbers.proofs.Tests.{option_or-none}
use Rattle.linear_program.specs.Linear.{Linear, IsFeasible, IsRelaxed, value_at, variable_at, variable_count, row_count}
use Rattle.certificates.specs.Branch.{LeafFault, proof_fault}
use Rattle.certificates.specs.Certificate.{Certificate, optimal, near, bounded, feasible, infeasible, unbounded}
use Rattle.certificates.specs.Certificate.{IsCertificate, Cause, at_ray, at_leaf, ClaimOutcome, holds, fails}
use Rattle.certificates.specs.Certificate.{can_compare, fitting_bound_fault, given_fault, is_whole_number, wholeness}
use Rattle.certificates.specs.Certificate.{whole_fault, Judged, valued, refused, judged_by, judged, unless_leaf}
use Rattle.certificates.specs.Certificate.{unless_ray, with_proof, with_leaves, alone, with_ray, outcome, PointSays}
use Rattle.certificates.specs.Certificate.{OutcomeSays}
use Rattle.certificates.specs.Points.{bounds_of}
use Rattle.certificates.specs.Ray.{RayFault, ray_fault}
use Rattle.certificates.specs.Says.{FaultSays, IsMetBeforeBound, IsNotWhole}
use Rattle.certificates.specs.Solutions.{IsSolution}
use Rattle.certificates.specs.Verdict.{Fault, too_wide, at_bound, first_fault, row_fault, bound_fault, run_form}
use Rattle.certificates.proofs.Branches.{branches, infeasible_tree}
use Rattle.certificates.proofs.Feasible.{relaxed_of}
use Rattle.certificates.proofs.Checks.{no_fault}
use Rattle.certificates.proofs.Rays.{no_end, ray_yes}
use Rattle.certificates.proofs.DualFaults.{first_says, both_say}
use Rattle.certificates.proofs.Says.{before_bound, bound_says, rows_say}
use Rattle.certificates.proofs.Weak.{form_some}

-- ---- the point
pub whole_yes : (x : ℚ) → is_whole_number x ≡ true → IsWhole x
whole_yes x h = eqb-true x.bottom 1 h

module _ (f : Linear) (xs : List ℚ) where
  pub fitting_none : (j : ℕ) → fitting_bound_fault f (value_at xs) j ≡ None → bound_fault f (value_at xs) j ≡ None
  unfolding fitting_bound_fault
  fitting_none j = by (can_compare (bounds_of f j).lower && can_compare (bounds_of f j).upper)
    where
      by : (b : Bool) → (if b then bound_fault f (value_at xs) j else Some (too_wide (at_bound j))) ≡ None → bound_fault f (value_at xs) j ≡ None
      by true e = e
      by false e = absurd (cc)

  pub given_relaxed : given_fault f (value_at xs) ≡ None → IsRelaxed f xs
  unfolding given_fault
  given_relaxed h =
      let both = option_or-none (first_fault (row_fault f (value_at xs)) (row_count f)) (first_fault (fitting_bound_fault f (value_at xs)) (variable_count f)) h in
      relaxed_of f xs both.0 (λ j l. fitting_none j (no_fault (fitting_bound_fault f (value_at xs)) (variable_count f) both.1 j l))

  whole_at : (j : ℕ) → wholeness f (value_at xs) j ≡ None → IsTrue (variable_at f j).whole → IsWhole (value_at xs j)
  whole_at j h asked = whole_yes (value_at xs j) (by (variable_at f j).whole (is_whole_number (value_at xs j)) asked h)
    where
      by : (a b : Bool) → IsTrue a → (if a && not b then Some j else None) ≡ None → b ≡ true
      by true true t e = refl
      by true false t e = absurd (cc)
      by false b t e = absurd (cc)

  pub whole_all : whole_fault f (value_at xs) ≡ None → (j : ℕ) → j < variable_count f → IsTrue (variable_at f j).whole → IsWhole (value_at xs j)
  unfolding whole_fault
  whole_all k j l asked = whole_at j (no_fault (wholeness f (value_at xs)) (variable_count f) k j l) asked

  pub given_feasible : given_fault f (value_at xs) ≡ None → whole_fault f (value_at xs) ≡ None → IsFeasible f xs
  given_feasible h k = record { relaxed = given_relaxed h; whole = whole_all k }

-- ---- what the point shows where it has a fault
-- a whole number passes the test
is_whole_of : (x : ℚ) → IsWhole x → is_whole_number x ≡ true
is_whole_of x h = ap (λ b. b == 1) h

module _ (f : Linear) (xs : List ℚ) where
  fitting_says : (j : ℕ) → IsMetBeforeBound f xs j → IfSome (fitting_bound_fault f (value_at xs) j) (FaultSays f xs)
  unfolding fitting_bound_fault
  fitting_says j met = by (can_compare (bounds_of f j).lower && can_compare (bounds_of f j).upper)
    where
      by : (b : Bool) → IfSome (if b then bound_fault f (value_at xs) j else Some (too_wide (at_bound j))) (FaultSays f xs)
      by true = bound_says f xs j met
      by false = met

  given_says : IfSome (given_fault f (value_at xs)) (FaultSays f xs)
  unfolding given_fault
  given_says =
      both_say (FaultSays f xs) (first_fault (row_fault f (value_at xs)) (row_count f)) (first_fault (fitting_bound_fault f (value_at xs)) (variable_count f)) (rows_say f xs)
      (λ rows. first_says (FaultSays f xs) (fitting_bound_fault f (value_at xs)) (variable_count f) (λ j l none. fitting_says j (before_bound f xs j l rows (λ k g. fitting_none f xs k (none k g)))))

  not_whole_at : (i : ℕ) → i < variable_count f → IfSome (wholeness f (value_at xs) i) (IsNotWhole f xs)
  not_whole_at i l = by (variable_at f i).whole (is_whole_number (value_at xs i)) refl refl
    where
      by : (a b : Bool) → (variable_at f i).whole ≡ a → is_whole_number (value_at xs i) ≡ b → IfSome (if a && not b then Some i else None) (IsNotWhole f xs)
      by true true e k = tt
      by true false e k = record { within = l; asked = subst IsTrue (sym e) refl; broken = λ is. let t = is_whole_of (value_at xs i) is in cc }
      by false b e k = tt

  pub not_whole_says : IfSome (whole_fault f (value_at xs)) (IsNotWhole f xs)
  unfolding whole_fault
  not_whole_says = first_says (IsNotWhole f xs) (wholeness f (value_at xs)) (variable_count f) (λ j l none. not_whole_at j l)

  abbrev JudgedSays : Judged → Type 0
  JudgedSays (refused c) = PointSays f xs c
  JudgedSays (valued v) = IsSolution f xs v

  judged_says : JudgedSays (judged f xs)
  unfolding judged
  judged_says = by (given_fault f (value_at xs)) (whole_fault f (value_at xs)) (run_form (variable_count f) f.objective (value_at xs)) refl refl refl
    where
      by : (g : Option Fault) (w : Option ℕ) (o : Option ℚ) → given_fault f (value_at xs) ≡ g
          → whole_fault f (value_at xs) ≡ w → run_form (variable_count f) f.objective (value_at xs) ≡ o
          → JudgedSays (judged_by g w o)
      by (Some g) w o a b c = rw a at given_says
      by None (Some j) o a b c = (given_relaxed f xs a, rw b at not_whole_says)
      by None None None a b c = given_feasible f xs a b
      by None None (Some v) a b c = record { feasible = given_feasible f xs a b; value = form_some (variable_count f) f.objective xs v c }

  -- what follows on the point, of each value that it may have
  at_judged : (after : Judged → ClaimOutcome) (P : ClaimOutcome → Type 0)
      → ((d : Cause) → PointSays f xs d → P (after (refused d))) → ((v : ℚ) → IsSolution f xs v → P (after (valued v)))
      → P (after (judged f xs))
  at_judged after P none some = by (judged f xs) judged_says
    where
      by : (r : Judged) → JudgedSays r → P (after r)
      by (refused d) h = none d h
      by (valued v) h = some v h

at_leaves : (g : Option LeafFault) (v : Option ℚ) (P : ClaimOutcome → Type 0) → (g ≡ None → P (holds v)) → ((d : LeafFault) → P (fails (at_leaf d))) → P (unless_leaf g v)
at_leaves None v P none some = none refl
at_leaves (Some d) v P none some = some d

on_ray : (g : Option RayFault) (P : ClaimOutcome → Type 0) → (g ≡ None → P (holds None)) → ((d : RayFault) → P (fails (at_ray d))) → P (unless_ray g)
on_ray None P none some = none refl
on_ray (Some d) P none some = some d

pub says : (f : Linear) (c : Certificate) → IsCertificate f c → OutcomeSays f c (outcome f c)
unfolding outcome
says f (optimal xs tree) fine = at_judged f xs (with_proof f tree) (OutcomeSays f (optimal xs tree)) (λ d h. h)
    (λ v at. at_leaves (proof_fault f v tree) (Some v) (OutcomeSays f (optimal xs tree)) (λ e. record { solution = at; best = branches f v tree fine e }) (λ d. at.feasible))
says f (near xs b tree) fine = at_judged f xs (with_leaves (proof_fault f b tree)) (OutcomeSays f (near xs b tree)) (λ d h. h)
    (λ v at. at_leaves (proof_fault f b tree) (Some v) (OutcomeSays f (near xs b tree)) (λ e. record { solution = at; best = branches f b tree fine e }) (λ d. at.feasible))
says f (bounded v tree) fine = at_leaves (proof_fault f v tree) (Some v) (OutcomeSays f (bounded v tree)) (λ e. (refl, branches f v tree fine e)) (λ d. tt)
says f (feasible xs) fine = at_judged f xs alone (OutcomeSays f (feasible xs)) (λ d h. h) (λ v at. at)
says f (infeasible tree) fine = at_leaves (proof_fault f zero_ℚ tree) None (OutcomeSays f (infeasible tree)) (infeasible_tree f zero_ℚ tree fine.0 fine.1) (λ d. tt)
says f (unbounded xs ds) fine = at_judged f xs (with_ray (ray_fault f (value_at ds))) (OutcomeSays f (unbounded xs ds)) (λ d h. h)
    (λ v at. on_ray (ray_fault f (value_at ds)) (OutcomeSays f (unbounded xs ds)) (λ e. no_end f xs ds at.feasible (ray_yes f ds e)) (λ d. at.feasible))
