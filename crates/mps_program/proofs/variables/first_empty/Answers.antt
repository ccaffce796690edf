use Rattle.std.proofs.Common.{◌∙◌, sym, ap, arith, length, get_or}
use Rattle.std.specs.Ordering.{is_gt}
use Rattle.std.proofs.lemmas.List.{get_or_default}
use Rattle.linear_program.specs.Intervals.{interval_of, no_sides}
use Rattle.linear_program.specs.declared.interval.Interval.{Interval as Sides}
use Rattle.mps_program.specs.Faults.{both_sides}
use Rattle.mps_program.proofs.FirstLemmas.{first_here, none_more}
use Rattle.mps_program.proofs.variables.first_empty.Goals as goal

pub returns-then-is_empty : goal.returns-then-is_empty
returns-then-is_empty c = sym (first_here (λ j. both_sides is_gt
    (interval_of (get_or c.args.sides.now j no_sides)).lower (interval_of (get_or c.args.sides.now j no_sides)).upper)
    (length c.args.sides.now) c.columns.j (omega arith) c.columns.invariant
    (ap (λ (s : Sides). both_sides is_gt (interval_of s).lower (interval_of s).upper)
    (sym (c.index-sides-j.is ∙ get_or_default c.args.sides.now c.columns.j c.index-sides-j.result no_sides
    (omega arith))) ∙ sym c.is_empty.ensures ∙ c.if-is_empty.true))

pub columns-preserved : goal.columns-preserved
columns-preserved c = none_more (λ j. both_sides is_gt (interval_of (get_or c.args.sides.now j no_sides)).lower
    (interval_of (get_or c.args.sides.now j no_sides)).upper) c.columns.j c.columns.invariant
    (ap (λ (s : Sides). both_sides is_gt (interval_of s).lower (interval_of s).upper)
    (sym (c.index-sides-j.is ∙ get_or_default c.args.sides.now c.columns.j c.index-sides-j.result no_sides
    (omega arith))) ∙ sym c.is_empty.ensures ∙ c.if-is_empty.false)
