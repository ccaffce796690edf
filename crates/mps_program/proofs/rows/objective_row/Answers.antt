use Rattle.std.proofs.Common.{◌∙◌, sym, ap, arith}
use Rattle.mps_program.specs.Program.{is_bounded_kind}
use Rattle.mps_model.specs.Mps.{MpsRow}
use Rattle.mps_program.proofs.LoopLemmas.{row_free, row_bounded, no_row_left}
use Rattle.mps_program.proofs.rows.objective_row.Goals as goal

pub returns-then-not-is_bounded_kind : goal.returns-then-not-is_bounded_kind
returns-then-not-is_bounded_kind c = omega (
  arith,
  row_free c.args.rows.now c.rows.i c.index-rows-i.result (omega arith)
      c.index-rows-i.is (ap (λ (r : MpsRow). is_bounded_kind r.kind) (sym c.row.view_is) ∙ sym c.is_bounded_kind.ensures
      ∙ c.if-not-is_bounded_kind.true),
  c.rows.invariant,
)

pub rows-preserved : goal.rows-preserved
rows-preserved c = omega (
  arith,
  row_bounded c.args.rows.now c.rows.i c.index-rows-i.result (omega arith)
      c.index-rows-i.is (ap (λ (r : MpsRow). is_bounded_kind r.kind) (sym c.row.view_is) ∙ sym c.is_bounded_kind.ensures
      ∙ c.if-not-is_bounded_kind.false),
  c.rows.invariant,
)

pub returns : goal.returns
returns c = omega (arith, no_row_left c.args.rows.now c.rows.i (omega arith), c.rows.invariant)
