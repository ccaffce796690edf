use Rattle.std.proofs.Common.{◌∙◌, sym, refl, subst}
use Rattle.scaled_program.specs.Fits.{RowFits}
use Rattle.text_base.specs.Stopped.{IfFault}
use Rattle.row_scaling.specs.Factored.{factor_for, row_for}
use Rattle.row_scaling.proofs.LinearLemmas.{exported_row, not_exported, too_wide}
use Rattle.row_scaling.proofs.scaled_rows.moved_row.Goals as goal

pub returns-then-not-has_side-clause-scaled : goal.returns-then-not-has_side-clause-scaled
returns-then-not-has_side-clause-scaled c l r = not_exported l r.linear c.args.con c.args.body c.args.side r.below r.body_is r.side_is (sym c.has_side.ensures ∙ c.if-not-has_side.true)

pub returns-in-Ok-clause-scaled : goal.returns-in-Ok-clause-scaled
returns-in-Ok-clause-scaled c l r = exported_row l r.linear c.args.con c.args.body c.args.side r.below r.body_is
    r.side_is c.in-Ok.row (sym c.has_side.ensures ∙ c.if-not-has_side.false) c.in-Ok.ensures.scaled

pub returns-in-Err-Fault-clause-wide : goal.returns-in-Err-Fault-clause-wide
returns-in-Err-Fault-clause-wide c l r = (
  refl,
  too_wide l r.linear c.args.con c.args.body c.args.side r.below r.body_is r.side_is (sym c.has_side.ensures ∙ c.if-not-has_side.false)
      (λ n i below. subst (λ s. IfFault s (λ w. ¬ RowFits n (row_for i c.args.body c.args.side)
      (factor_for n (row_for i c.args.body c.args.side)))) c.in-Err-Fault.field-0-is
      (c.in-Err-Fault.ensures.wide n i below)),
)
