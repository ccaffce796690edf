use Rattle.std.proofs.Common.{◌≡◌, ◌+◌, ◌<◌, ◌++◌, ◌∙◌, length, subst, sym, Some}
use Rattle.std.specs.Prelude.{slice_get}
use Rattle.exact_checks.specs.Sums.{sum_value}
use Rattle.exact_checks.proofs.PartRows.{taken_begins, taken_ends, taken_goes_on, taken_within}
use Rattle.exact_checks.proofs.pairs.take_rows.Goals as goal

pub loop-pair-init : goal.loop-pair-init
loop-pair-init c = taken_begins c.args.program.now c.args.planes.now c.args.pairs.now c.args.costs.now c.requires.kept c.requires.pairs

pub row_at-row-requires : goal.row_at-row-requires
row_at-row-requires c =
    subst (λ rs. c.pair-item.result.0 < length rs + length c.args.planes.now) (sym c.deref-rows.ensures.value)
    (taken_within c.args.program.now c.args.planes.now c.args.pairs.now c.args.costs.now c.loop-pair.costs
    c.loop-pair.pair-index c.loop-pair.invariant c.pair-item.result c.loop-pair-test.true c.pair-item.is)

pub loop-pair-preserved : goal.loop-pair-preserved
loop-pair-preserved c =
    let e = c.in_ok-take_row.ensures in
    taken_goes_on c.args.program.now c.args.planes.now c.args.pairs.now c.args.costs.now c.loop-pair.costs
    c.loop-pair.pair-index c.loop-pair.invariant c.pair-item.result c.loop-pair-test.true c.pair-item.is
    c.row_at-row.result.now
    (subst (λ rs. slice_get (rs ++ c.args.planes.now) c.pair-item.result.0 ≡ Some c.row_at-row.result.now) c.deref-rows.ensures.value c.row_at-row.ensures)
    (sum_value c.sum_of-weight.result) (c.sum_of-weight.ensures ∙ c.written_fraction.ensures) c.take_row.new.self e.kept e.count e.costs

pub returns-clause-costs : goal.returns-clause-costs
returns-clause-costs c = taken_ends c.args.program.now c.args.planes.now c.args.pairs.now c.args.costs.now c.loop-pair.costs c.loop-pair.pair-index c.loop-pair.invariant c.loop-pair-test.false
