-- What the answers of the code say.
use Rattle.std.specs.Prelude.{List, Option, option_map}
use Rattle.exact_checks.specs.declared.verdict.Spot.{Spot}
use Rattle.exact_checks.specs.declared.verdict.Spot.TheVariants.{Row, Cost, Objective, Total}
use Rattle.exact_checks.specs.declared.verdict.Fault.{Fault}
use Rattle.exact_checks.specs.declared.verdict.Fault.TheVariants.{RowBroken, BoundBroken, RowSideMissing, BoundSideMissing, TooWide}
use Rattle.exact_checks.specs.declared.verdict.Verdict.{Verdict}
use Rattle.exact_checks.specs.declared.verdict.BoundVerdict.{BoundVerdict}
use Rattle.exact_checks.specs.declared.verdict.BoundVerdict.TheVariants.{Bound, RowSideMissing as BoundRowSideMissing, BoundSideMissing as BoundBoundSideMissing, TooWide as BoundTooWide}
use Rattle.exact_checks.specs.declared.verdict.Verdict.TheVariants.{Yes, Gap, RowBroken as VerdictRowBroken, BoundBroken as VerdictBoundBroken, RowSideMissing as VerdictRowSideMissing, BoundSideMissing as VerdictBoundSideMissing, TooWide as VerdictTooWide}
use Rattle.exact_numbers.specs.Rational.{ℚ}
use Rattle.linear_program.specs.Linear.{Linear, objective_value}
use Rattle.certificates.specs.Points.{Box, IsAsGood, IsRelaxedIn}
use Rattle.exact_numbers.specs.Values.{frac_value}
use Rattle.certificates.specs.Says.{VerdictSays}
use Rattle.certificates.specs.Verdict.{Verdict as Answer, yes, gap, refused, BoundVerdict as BoundAnswer, bound, no_bound, Place, at_row, at_cost, at_objective, at_total, Fault as Cause, row_broken, bound_broken, row_side_missing, bound_side_missing, too_wide}

abbrev pub place_of : Spot → Place
place_of (Row i) = at_row i
place_of (Cost j) = at_cost j
place_of Objective = at_objective
place_of Total = at_total

abbrev pub cause_of : Fault → Cause
cause_of (RowBroken i) = row_broken i
cause_of (BoundBroken j) = bound_broken j
cause_of (RowSideMissing i) = row_side_missing i
cause_of (BoundSideMissing j) = bound_side_missing j
cause_of (TooWide spot) = too_wide (place_of spot)

abbrev pub cause_found : Option Fault → Option Cause
cause_found o = option_map cause_of o

abbrev pub answer_of : Verdict → Answer
answer_of (Yes v) = yes (frac_value v)
answer_of (Gap v b) = gap (frac_value v) (frac_value b)
answer_of (VerdictRowBroken i) = refused (row_broken i)
answer_of (VerdictBoundBroken j) = refused (bound_broken j)
answer_of (VerdictRowSideMissing i) = refused (row_side_missing i)
answer_of (VerdictBoundSideMissing j) = refused (bound_side_missing j)
answer_of (VerdictTooWide spot) = refused (too_wide (place_of spot))

abbrev pub bound_answer_of : BoundVerdict → BoundAnswer
bound_answer_of (Bound b) = bound (frac_value b)
bound_answer_of (BoundRowSideMissing i) = no_bound (row_side_missing i)
bound_answer_of (BoundBoundSideMissing j) = no_bound (bound_side_missing j)
bound_answer_of (BoundTooWide spot) = no_bound (too_wide (place_of spot))

-- what each verdict says
abbrev pub IsCertified : Linear → List ℚ → Verdict → Type 0
IsCertified f xs v = VerdictSays f xs (answer_of v)

-- what a bound says: it is as good as the objective at every relaxed point within the bounds
abbrev pub IsBounded : Linear → Box → BoundVerdict → Type 0
IsBounded f box (Bound b) =
    (zs : List ℚ) → IsRelaxedIn f box zs → IsAsGood f.maximise (frac_value b) (objective_value f zs)
IsBounded f box _ = Unit {0}
