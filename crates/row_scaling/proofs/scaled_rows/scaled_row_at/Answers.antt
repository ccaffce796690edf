use Rattle.std.proofs.Common.{◌∙◌, sym, ap, refl, subst, get_or}
use Rattle.scaled_program.specs.Fits.{RowFits}
use Rattle.text_base.specs.Stopped.{IfFault}
use Rattle.row_scaling.specs.Factored.{factor_for, row_for}
use Rattle.row_scaling.proofs.LinearLemmas.{not_exported, exported_row, too_wide}
use Rattle.row_scaling.proofs.scaled_rows.scaled_row_at.Goals as goal

pub returns-then-not-has_side-clause-scaled : goal.returns-then-not-has_side-clause-scaled
returns-then-not-has_side-clause-scaled c =
    not_exported c.args.linear.now c.bodies-bodies.ensures.folded c.args.con c.index-bodies-con.result c.index-sides-con.result c.requires
    (c.index-bodies-con.is ∙ ap (λ bs. get_or bs c.args.con c.index-bodies-con.result) c.bodies-bodies.ensures.bodies)
    (c.index-sides-con.is ∙ ap (λ ss. get_or ss c.args.con c.index-sides-con.result) c.sides-sides.ensures)
    (sym c.has_side.ensures ∙ c.if-not-has_side.true)

pub returns-in-Ok-clause-scaled : goal.returns-in-Ok-clause-scaled
returns-in-Ok-clause-scaled c =
    exported_row c.args.linear.now c.bodies-bodies.ensures.folded c.args.con c.index-bodies-con.result c.index-sides-con.result c.requires
    (c.index-bodies-con.is ∙ ap (λ bs. get_or bs c.args.con c.index-bodies-con.result) c.bodies-bodies.ensures.bodies)
    (c.index-sides-con.is ∙ ap (λ ss. get_or ss c.args.con c.index-sides-con.result) c.sides-sides.ensures)
    c.in-Ok.row (sym c.has_side.ensures ∙ c.if-not-has_side.false) c.in-Ok.ensures.scaled

pub returns-in-Err-Fault-clause-wide : goal.returns-in-Err-Fault-clause-wide
returns-in-Err-Fault-clause-wide c = (
  refl,
  too_wide c.args.linear.now c.bodies-bodies.ensures.folded c.args.con c.index-bodies-con.result c.index-sides-con.result c.requires
      (c.index-bodies-con.is ∙ ap (λ bs. get_or bs c.args.con c.index-bodies-con.result) c.bodies-bodies.ensures.bodies)
      (c.index-sides-con.is ∙ ap (λ ss. get_or ss c.args.con c.index-sides-con.result) c.sides-sides.ensures)
      (sym c.has_side.ensures ∙ c.if-not-has_side.false)
      (λ n i below. subst (λ s. IfFault s (λ w. ¬ RowFits n
      (row_for i c.index-bodies-con.result c.index-sides-con.result)
      (factor_for n (row_for i c.index-bodies-con.result c.index-sides-con.result)))) c.in-Err-Fault.field-0-is
      (c.in-Err-Fault.ensures.wide n i below)),
)
