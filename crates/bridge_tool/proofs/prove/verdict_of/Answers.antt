use Rattle.std.proofs.Common.{subst}
use Rattle.linear_program.specs.Linear.{Linear}
use Rattle.branch_proof.specs.Leaves.{IsVerdictOn}
use Rattle.bridge_tool.proofs.prove.verdict_of.Goals as goal

pub returns-clause-exact : goal.returns-clause-exact
returns-clause-exact c = subst (λ (f : Linear). IsVerdictOn f c.args.proof.now c.in_ok-verdict.verdict) c.in_ok-program.ensures c.in_ok-verdict.ensures.exact
