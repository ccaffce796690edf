use Rattle.linear_program.specs.Fews.{few_items}
use Rattle.nl_model.proofs.Prefixes.{begun-push}
use Rattle.nl_model.proofs.expr_builder.ExprBuilder.push.Goals as goal

pub invariant_of-self-2 : goal.invariant_of-self-2
invariant_of-self-2 c =
    rw (c.in_ok-push.ensures.ok, c.operand_count.ensures)
    (begun-push (few_items c.self.inside.nodes) c.args.node c.self.inside.wants c.self.invariant (rw c.self.view_is c.requires.wanted) (rw c.self.view_is c.requires.few) c.requires.formed)
