use Rattle.std.proofs.Common.{◌≡◌, ◌+◌, ◌<◌, ◌++◌, length, refl, subst, sym, true, false, Some}
use Rattle.std.specs.Prelude.{slice_get}
use Rattle.exact_checks.proofs.PartRows.{sides_begin, sides_end, sides_go_on, sides_stop, sides_within}
use Rattle.exact_checks.proofs.pairs.first_lacking_side.Goals as goal

pub loop-pair-init : goal.loop-pair-init
loop-pair-init c = sides_begin c.args.program.now c.args.planes.now c.args.maximise c.args.pairs.now c.requires

pub row_at-row-requires : goal.row_at-row-requires
row_at-row-requires c =
    subst (λ rs. c.pair-item.result.0 < length rs + length c.args.planes.now) (sym c.deref-rows.ensures.value)
    (sides_within c.args.program.now c.args.planes.now c.args.maximise c.args.pairs.now c.loop-pair.pair-index c.loop-pair.invariant c.pair-item.result c.loop-pair-test.true c.pair-item.is)

pub returns-then-not-has_row_side : goal.returns-then-not-has_row_side
returns-then-not-has_row_side c =
    sides_stop c.args.program.now c.args.planes.now c.args.maximise c.args.pairs.now c.loop-pair.pair-index
    c.loop-pair.invariant c.pair-item.result c.loop-pair-test.true c.pair-item.is c.row_at-row.result.now
    (subst (λ rs. slice_get (rs ++ c.args.planes.now) c.pair-item.result.0 ≡ Some c.row_at-row.result.now) c.deref-rows.ensures.value c.row_at-row.ensures)
    false c.if-not-has_row_side.ensures refl

pub loop-pair-preserved : goal.loop-pair-preserved
loop-pair-preserved c =
    sides_go_on c.args.program.now c.args.planes.now c.args.maximise c.args.pairs.now c.loop-pair.pair-index
    c.loop-pair.invariant c.pair-item.result c.loop-pair-test.true c.pair-item.is c.row_at-row.result.now
    (subst (λ rs. slice_get (rs ++ c.args.planes.now) c.pair-item.result.0 ≡ Some c.row_at-row.result.now) c.deref-rows.ensures.value c.row_at-row.ensures)
    true c.if-not-has_row_side.ensures refl

pub returns : goal.returns
returns c = sides_end c.args.program.now c.args.planes.now c.args.maximise c.args.pairs.now c.loop-pair.pair-index c.loop-pair.invariant c.loop-pair-test.false
