-- The faults that duals alone can have.
use Rattle.std.proofs.Common.{◌≡◌, ℕ, zero, suc, ◌<◌, refl, arith, Bool, true, false, Option, Some, None}
use Rattle.std.specs.Prelude.{if◌then◌else◌, IfSome}
use Rattle.std.specs.Option.{option_or}
use Rattle.exact_numbers.specs.Rational.{ℚ}
use Rattle.linear_program.specs.Linear.{Interval, Linear, variable_count, row_count, row_at}
use Rattle.certificates.specs.Points.{Numbers, Box}
use Rattle.certificates.specs.Verdict.{Fault, row_side_missing, bound_side_missing, first_fault, has_needed, side_fault, cost_check, cost_fault, reduced_cost, dual_fault, IsDualFault}
use Rattle.certificates.proofs.Checks.{no_fault}

-- the second comes where the first is none
pub both_say : {T : Type 0} (P : T → Type 0) (o p : Option T) → IfSome o P → (o ≡ None → IfSome p P) → IfSome (option_or o p) P
both_say P None p h k = k refl
both_say P (Some v) p h k = h

-- what each fault says, where there is none before it, the first one says
pub first_says : {T : Type 0} (P : T → Type 0) (fault : ℕ → Option T) (n : ℕ) → ((i : ℕ) → i < n → ((h : ℕ) → h < i → fault h ≡ None) → IfSome (fault i) P) → IfSome (first_fault fault n) P
unfolding first_fault
first_says P fault zero each = tt
first_says P fault (suc n) each =
    both_say P (first_fault fault n) (fault n) (first_says P fault n (λ i l. each i (omega arith)))
    (λ none. each n (omega arith) (no_fault fault n none))

if_fault : (b : Bool) (f : Fault) → IsDualFault f → IfSome (if b then None else Some f) IsDualFault
if_fault true f q = tt
if_fault false f q = q

cost_kind : (max : Bool) (i : Interval) (j : ℕ) (o : Option ℚ) → IfSome (cost_check max i j o) IsDualFault
cost_kind max i j None = tt
cost_kind max i j (Some d) = if_fault (has_needed max d i) (bound_side_missing j) tt

pub dual_kind : (f : Linear) (box : Box) (y : Numbers) → IfSome (dual_fault f box y) IsDualFault
unfolding dual_fault cost_fault
dual_kind f box y =
    both_say IsDualFault (first_fault (side_fault f y) (row_count f)) (first_fault (cost_fault f box y) (variable_count f))
    (first_says IsDualFault (side_fault f y) (row_count f) (λ i l none. if_fault (has_needed f.maximise (y i) (row_at f i).side) (row_side_missing i) tt))
    (λ none. first_says IsDualFault (cost_fault f box y) (variable_count f) (λ j l none. cost_kind f.maximise (box j) j (reduced_cost f y j)))

pub dual_fault_kind : (f : Linear) (box : Box) (y : Numbers) (v : Fault) → dual_fault f box y ≡ Some v → IsDualFault v
dual_fault_kind f box y v h = rw h at (dual_kind f box y)
