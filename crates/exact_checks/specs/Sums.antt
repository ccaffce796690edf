-- Running sums by variable, of which those that may be anything but 0 are known.
use Rattle.std.specs.Prelude.{◌≡◌, ◌≢◌, ℕ, ◌<◌, Bool, List, [], length, get_or, Option, Some, None, option_and_then}
use Rattle.std.specs.List.{Contains}
use Rattle.std.specs.List.Sorted.{IsNonDecreasingBy}
use Rattle.exact_numbers.specs.Rational.{ℚ, over, zero_ℚ}
use Rattle.linear_program.specs.Linear.{Interval, Linear, row_count}
use Rattle.certificates.specs.Checked.{less_product, run}
use Rattle.certificates.specs.Points.{Box, Numbers}
use Rattle.certificates.specs.Verdict.{BoundVerdict, Fault, bound_or_fault, cost_check, cost_part_of, first_fault, needed_side, row_part}
use Rattle.exact_numbers.specs.declared.dec.Dec.{Dec}
use Rattle.exact_numbers.specs.Values.{frac_value}
use Rattle.exact_checks.specs.Terms.{side_value}
use Rattle.exact_checks.specs.declared.costs.Costs.{Costs}
use Rattle.exact_checks.specs.declared.short_fraction.ShortFraction.{ShortFraction}
use Rattle.exact_checks.specs.declared.sums.RunningSum.{RunningSum}
use Rattle.exact_checks.specs.declared.sums.RunningSum.TheVariants.{Untouched, Short, Exact, TooWide}

abbrev pub short_value : ShortFraction → ℚ
short_value l = over l.num l.den

-- the value of a sum, none where it is too wide
abbrev pub sum_value : RunningSum → Option ℚ
sum_value Untouched = Some zero_ℚ
sum_value (Short l) = Some (short_value l)
sum_value (Exact f) = Some (frac_value f)
sum_value TooWide = None

-- a sum less the product of a weight and a factor
abbrev pub less_part : Option ℚ → ℚ → Option ℚ → Option ℚ
less_part w a o = option_and_then (λ s. option_and_then (λ v. less_product s v a) w) o

-- the side of the interval that the cost needs, where it has a value
abbrev pub IsNeeded : Bool → Interval → Option ℚ → Option Dec → Type 0
IsNeeded max i cost side = (d : ℚ) → cost ≡ Some d → side_value side ≡ needed_side max d.top i

-- the sum of variable j; past the last nothing is touched
abbrev pub sum_at : List RunningSum → ℕ → RunningSum
sum_at ss j = get_or ss j Untouched

-- each sum but the untouched ones is among the touched ones, which are all there
pub record AreTouched (sums : List RunningSum) (touched : List ℕ) : Type 0 where
  pub among : (j : ℕ) → sum_at sums j ≢ Untouched → Contains touched j
  pub there : (j : ℕ) → Contains touched j → j < length sums

-- the value of the sum of each variable
abbrev pub cost_in : Costs → ℕ → Option ℚ
cost_in c j = sum_value (sum_at c.sums.items j)

abbrev pub cost_count : Costs → ℕ
cost_count c = length c.sums.items

abbrev pub AreKept : Costs → Type 0
AreKept c = AreTouched c.sums.items c.touched.items

-- the touched ones are in order
abbrev pub AreInOrder : Costs → Type 0
AreInOrder c = IsNonDecreasingBy (λ (x : ℕ). x) c.touched.items

-- nothing is touched, so that every sum is 0
pub record AreZero (c : Costs) : Type 0 where
  pub sums : (j : ℕ) → sum_at c.sums.items j ≡ Untouched
  pub untouched : c.touched.items ≡ []

-- the fault of the first variable whose reduced cost, of n, is too wide or lacks its bound
abbrev pub fault_by : Bool → Box → (ℕ → Option ℚ) → ℕ → Option Fault
fault_by max box costs n = first_fault (λ j. cost_check max (box j) j (costs j)) n

-- a start with the part of each of n variables
abbrev pub total_by : Bool → Box → (ℕ → Option ℚ) → ℚ → ℕ → Option ℚ
total_by max box costs start n =
    run (λ s j. option_and_then (cost_part_of max (box j) s) (costs j)) start n

-- the bound that the reduced costs of n variables show, from a start
abbrev pub bound_from : Bool → Box → (ℕ → Option ℚ) → ℕ → Option ℚ → BoundVerdict
bound_from max box costs n start =
    bound_or_fault (fault_by max box costs n)
    (option_and_then (λ s. total_by max box costs s n) start)

-- the bound that the numbers of rows show, by the reduced costs of n variables
abbrev pub bound_by : Linear → Box → Numbers → (ℕ → Option ℚ) → ℕ → BoundVerdict
bound_by f box y costs n =
    bound_from f.maximise box costs n (run (row_part f y) f.objective.constant (row_count f))
