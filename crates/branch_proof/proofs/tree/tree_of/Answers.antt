use Rattle.std.proofs.Common.{◌∙◌, sym}
use Rattle.exact_checks.specs.Programs.{program_value}
use Rattle.branch_proof.proofs.tree.tree_of.Goals as goal

pub write-requires-clause-proof : goal.write-requires-clause-proof
write-requires-clause-proof c = (program_value c.args.program.now, sym (c.in_ok-numbers.ensures.count ∙ c.n_con.ensures), c.requires)
