use Rattle.std.proofs.Common.{◌≡◌, ◌+◌, ◌<◌, ◌++◌, length, refl, subst, sym, None, Some}
use Rattle.std.specs.Prelude.{slice_get}
use Rattle.exact_numbers.specs.Values.{frac_value}
use Rattle.exact_checks.proofs.PartRows.{rows_begin, rows_end, rows_go_on, rows_stop, rows_within}
use Rattle.exact_checks.proofs.pairs.rows_total.Goals as goal

pub loop-pair-init : goal.loop-pair-init
loop-pair-init c = rows_begin c.args.program.now c.args.planes.now c.args.maximise (frac_value c.args.constant) c.args.pairs.now c.requires

pub row_at-row-requires : goal.row_at-row-requires
row_at-row-requires c =
    subst (λ rs. c.pair-item.result.0 < length rs + length c.args.planes.now) (sym c.deref-rows.ensures.value)
    (rows_within c.args.program.now c.args.planes.now c.args.maximise (frac_value c.args.constant) c.args.pairs.now
    c.loop-pair.pair-index (frac_value c.loop-pair.sum) c.loop-pair.invariant c.pair-item.result c.loop-pair-test.true
    c.pair-item.is)

pub returns-in-None : goal.returns-in-None
returns-in-None c =
    rows_stop c.args.program.now c.args.planes.now c.args.maximise (frac_value c.args.constant) c.args.pairs.now
    c.loop-pair.pair-index (frac_value c.loop-pair.sum) c.loop-pair.invariant c.pair-item.result c.loop-pair-test.true
    c.pair-item.is c.row_at-row.result.now
    (subst (λ rs. slice_get (rs ++ c.args.planes.now) c.pair-item.result.0 ≡ Some c.row_at-row.result.now) c.deref-rows.ensures.value c.row_at-row.ensures)
    None c.in-None.ensures refl

pub loop-pair-preserved : goal.loop-pair-preserved
loop-pair-preserved c =
    rows_go_on c.args.program.now c.args.planes.now c.args.maximise (frac_value c.args.constant) c.args.pairs.now
    c.loop-pair.pair-index (frac_value c.loop-pair.sum) c.loop-pair.invariant c.pair-item.result c.loop-pair-test.true
    c.pair-item.is c.row_at-row.result.now
    (subst (λ rs. slice_get (rs ++ c.args.planes.now) c.pair-item.result.0 ≡ Some c.row_at-row.result.now) c.deref-rows.ensures.value c.row_at-row.ensures)
    (Some (frac_value c.in-Some.next)) c.in-Some.ensures (frac_value c.in-Some.next) refl

pub returns : goal.returns
returns c = rows_end c.args.program.now c.args.planes.now c.args.maximise (frac_value c.args.constant) c.args.pairs.now
    c.loop-pair.pair-index (frac_value c.loop-pair.sum) c.loop-pair.invariant c.loop-pair-test.false
