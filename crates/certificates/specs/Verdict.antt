-- What a point and one number for each row show of a linear program.
use Rattle.std.specs.Prelude.{ℕ, zero, suc, ℤ, pos, negsuc, Bool, true, false, ◌&&◌, ◌||◌, if◌then◌else◌, List, Option, Some, None, option_and_then, is_some, ⊤}
use Rattle.std.specs.Option.{option_or}
use Rattle.exact_numbers.specs.Fits.{fits}
use Rattle.exact_numbers.specs.Functions.{is_zero}
use Rattle.exact_numbers.specs.Rational.{ℚ}
use Rattle.linear_program.specs.Linear.{Interval, Form, Linear, value_at, variable_count, zero_form, row_count, row_at}
use Rattle.certificates.specs.Checked.{fitting, fitting_difference, plus_product, less_product, run, is_at_most, is_same}
use Rattle.certificates.specs.Points.{Numbers, Box, bounds_of}

-- where a number does not fit
pub data Place : Type 0 where
  at_row : ℕ → Place
  at_bound : ℕ → Place
  at_cost : ℕ → Place
  at_objective : Place
  at_total : Place

-- why there is no answer
pub data Fault : Type 0 where
  row_broken : ℕ → Fault
  bound_broken : ℕ → Fault
  row_side_missing : ℕ → Fault
  bound_side_missing : ℕ → Fault
  too_wide : Place → Fault

-- the point is best, with this value; or only its value and the bound of the duals; or a fault
pub data Verdict : Type 0 where
  yes : ℚ → Verdict
  gap : ℚ → ℚ → Verdict
  refused : Fault → Verdict

pub data BoundVerdict : Type 0 where
  bound : ℚ → BoundVerdict
  no_bound : Fault → BoundVerdict

-- the fault of the least index below n that has one
unfoldable pub first_fault : {V : Type 0} → (ℕ → Option V) → ℕ → Option V
first_fault fault zero = None
first_fault fault (suc n) = option_or (first_fault fault n) (fault n)

-- ---- the value of a form at a point, term by term
abbrev pub form_step : Form → Numbers → ℚ → ℕ → Option ℚ
form_step f x s j =
    if is_zero (f.coefficient j)
    then Some s
    else option_and_then (λ v. plus_product s (f.coefficient j) v) (fitting (x j))

unfoldable pub run_form : ℕ → Form → Numbers → Option ℚ
run_form n f x = run (form_step f x) f.constant n

-- ---- first: each row at the point
abbrev pub fits_if_some : Option ℚ → Bool
fits_if_some None = true
fits_if_some (Some s) = fits s

abbrev pub sides_fit : Interval → Bool
sides_fit i = fits_if_some i.lower && fits_if_some i.upper

abbrev pub is_not_below : Option ℚ → ℚ → Bool
is_not_below None v = true
is_not_below (Some s) v = is_at_most s v

abbrev pub is_not_above : Option ℚ → ℚ → Bool
is_not_above None v = true
is_not_above (Some s) v = is_at_most v s

abbrev pub is_inside : ℚ → Interval → Bool
is_inside v i = is_not_below i.lower v && is_not_above i.upper v

abbrev pub row_check : ℕ → Interval → Option ℚ → Option Fault
row_check i s None = Some (too_wide (at_row i))
row_check i s (Some v) =
    if sides_fit s
    then (if is_inside v s then None else Some (row_broken i))
    else Some (too_wide (at_row i))

unfoldable pub row_fault : Linear → Numbers → ℕ → Option Fault
row_fault f x i = row_check i (row_at f i).side (run_form (variable_count f) (row_at f i).body x)

-- ---- second: each variable
unfoldable pub bound_fault : Linear → Numbers → ℕ → Option Fault
bound_fault f x j = if is_inside (x j) (bounds_of f j) then None else Some (bound_broken j)

-- ---- third: the side of each row that its dual needs
-- the lower side for a number above 0 when minimising; the upper for one below 0; the other way
-- when maximising
abbrev pub needed_side : Bool → ℤ → Interval → Option ℚ
needed_side false (pos n) i = i.lower
needed_side false (negsuc n) i = i.upper
needed_side true (pos n) i = i.upper
needed_side true (negsuc n) i = i.lower

abbrev pub has_needed : Bool → ℚ → Interval → Bool
has_needed max v i = is_zero v || is_some (needed_side max v.top i)

abbrev pub side_fault : Linear → Numbers → ℕ → Option Fault
side_fault f y i =
    if has_needed f.maximise (y i) (row_at f i).side then None else Some (row_side_missing i)

-- ---- fourth: the reduced cost of each variable, and the bound that it needs
abbrev pub cost_step : Linear → Numbers → ℕ → ℚ → ℕ → Option ℚ
cost_step f y j s i =
    if is_zero ((row_at f i).body.coefficient j)
    then Some s
    else option_and_then (λ v. less_product s v ((row_at f i).body.coefficient j)) (fitting (y i))

unfoldable pub reduced_cost : Linear → Numbers → ℕ → Option ℚ
reduced_cost f y j = run (cost_step f y j) (f.objective.coefficient j) (row_count f)

abbrev pub cost_check : Bool → Interval → ℕ → Option ℚ → Option Fault
cost_check max i j None = Some (too_wide (at_cost j))
cost_check max i j (Some d) = if has_needed max d i then None else Some (bound_side_missing j)

unfoldable pub cost_fault : Linear → Box → Numbers → ℕ → Option Fault
cost_fault f box y j = cost_check f.maximise (box j) j (reduced_cost f y j)

-- ---- sixth: the bound of the duals
-- s + dual * (side - constant), with the side that the dual needs
abbrev pub row_part_of : Bool → Interval → ℚ → ℚ → ℚ → Option ℚ
row_part_of max i constant s dual =
    if is_zero dual
    then Some s
    else option_and_then
    (λ side. option_and_then
    (λ v. option_and_then (λ d. plus_product s v d) (fitting_difference side constant))
    (fitting dual))
    (option_and_then fitting (needed_side max dual.top i))

abbrev pub row_part : Linear → Numbers → ℚ → ℕ → Option ℚ
row_part f y s i = row_part_of f.maximise (row_at f i).side (row_at f i).body.constant s (y i)

abbrev pub cost_part_of : Bool → Interval → ℚ → ℚ → Option ℚ
cost_part_of max i s d =
    if is_zero d
    then Some s
    else option_and_then (λ side. plus_product s d side)
    (option_and_then fitting (needed_side max d.top i))

abbrev pub cost_part : Linear → Box → Numbers → ℚ → ℕ → Option ℚ
cost_part f box y s j = option_and_then (cost_part_of f.maximise (box j) s) (reduced_cost f y j)

unfoldable pub bound_total : Linear → Box → Numbers → Option ℚ
bound_total f box y =
    option_and_then (λ s. run (cost_part f box y) s (variable_count f))
    (run (row_part f y) f.objective.constant (row_count f))

-- ---- the verdicts
-- phases three and four
unfoldable pub dual_fault : Linear → Box → Numbers → Option Fault
dual_fault f box y =
    option_or (first_fault (side_fault f y) (row_count f))
    (first_fault (cost_fault f box y) (variable_count f))

-- phases one and two
abbrev pub point_fault : Linear → Numbers → Option Fault
point_fault f x =
    option_or (first_fault (row_fault f x) (row_count f))
    (first_fault (bound_fault f x) (variable_count f))

-- phases one to four
unfoldable pub early_fault : Linear → Numbers → Numbers → Option Fault
early_fault f x y = option_or (point_fault f x) (dual_fault f (bounds_of f) y)

-- the value at the point and then the bound, where each fits
abbrev pub last_of : Option Fault → Option ℚ → Option ℚ → Verdict
last_of (Some f) v b = refused f
last_of None None b = refused (too_wide at_objective)
last_of None (Some v) None = refused (too_wide at_total)
last_of None (Some v) (Some b) = if is_same v b then yes v else gap v b

-- the first verdict of the six phases that applies, for a number for each variable and one for each
-- row
unfoldable pub verdict : Linear → List ℚ → List ℚ → Verdict
verdict f xs ys =
    last_of
    (early_fault f (value_at xs) (value_at ys))
    (run_form (variable_count f) f.objective (value_at xs))
    (bound_total f (bounds_of f) (value_at ys))

abbrev pub bound_or_fault : Option Fault → Option ℚ → BoundVerdict
bound_or_fault (Some f) b = no_bound f
bound_or_fault None None = no_bound (too_wide at_total)
bound_or_fault None (Some b) = bound b

-- the bound that the duals alone show: phases three, four and six
unfoldable pub dual_bound : Linear → Box → List ℚ → BoundVerdict
dual_bound f box ys =
    bound_or_fault (dual_fault f box (value_at ys)) (bound_total f box (value_at ys))

-- the objective 0, minimised
abbrev pub without_objective : Linear → Linear
without_objective f = record f { objective = zero_form; maximise = false }

-- what can go wrong with duals alone
abbrev pub IsDualFault : Fault → Type 0
IsDualFault (row_side_missing i) = ⊤
IsDualFault (bound_side_missing j) = ⊤
IsDualFault (too_wide (at_cost j)) = ⊤
IsDualFault other = ⊥
