use Rattle.linear_program.specs.Fews.{few_items}
use Rattle.nl_model.proofs.Prefixes.{nodes_of_run}
use Rattle.nl_model.proofs.expr_builder.ExprBuilder.finish.Goals as goal

pub of_nodes-requires : goal.of_nodes-requires
of_nodes-requires c = nodes_of_run (few_items c.self.inside.nodes) c.self.inside.wants c.self.invariant (rw c.self.view_is c.requires)

pub returns-clause-nodes : goal.returns-clause-nodes
returns-clause-nodes c =
    rw (c.of_nodes.ensures, ← c.self.view_is)
    (nodes_of_run (few_items c.self.inside.nodes) c.self.inside.wants c.self.invariant (rw c.self.view_is c.requires))
