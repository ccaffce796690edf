use Rattle.std.proofs.Common.{Bool, Some, None, subst, arith}
use Rattle.dual_return.specs.Return.{DualBy, sign_by}
use Rattle.dual_return.proofs.DualLemmas.{all-duals, first-more, first-wide}
use Rattle.dual_return.proofs.duals.duals_of.Goals as goal

pub returns-in_default-clause-fault : goal.returns-in_default-clause-fault
returns-in_default-clause-fault c = λ f same scaled.
    first-wide c.args.answer.now c.args.scaled.now _ c.constraints.con c.row.result c.factor.result c.constraints.invariant c.row.ensures c.factor.ensures
    (subst (λ (b : Bool). DualBy c.row.result c.factor.result (sign_by b) None) c.is_turned-turned.ensures c.in_default.ensures) f scaled (omega (arith, same, c.constraints-test.true))

pub constraints-preserved : goal.constraints-preserved
constraints-preserved c =
    first-more c.args.answer.now c.args.scaled.now c.constraints.duals c.push.new.self c.constraints.con c.row.result
    c.factor.result c.in-Some.value c.constraints.invariant c.row.ensures c.factor.ensures
    (subst (λ (b : Bool). DualBy c.row.result c.factor.result (sign_by b) (Some c.in-Some.value)) c.is_turned-turned.ensures c.in-Some.ensures) c.in_ok-push.ensures.ok

pub returns-clause-duals : goal.returns-clause-duals
returns-clause-duals c = λ f same scaled.
    all-duals c.args.answer.now c.args.scaled.now c.constraints.duals c.constraints.con c.constraints.invariant f
    (omega (arith, same, c.constraints-test.false, c.constraints.auto.con-end)) scaled
