use Rattle.std.proofs.Common.{arith}
use Rattle.nl_model.proofs.Headers.{counts_of_header}
use Rattle.nl_model.proofs.builder.NlBuilder.bounds.Goals as goal

pub overflow_cast-result : goal.overflow_cast-result
overflow_cast-result c =
    let counts = counts_of_header c.self.inside.header.options c.self.inside.header.counts c.self.inside.header.ruled in
    omega (arith, counts.variables, c.self.invariant.draft.bound_count, c.len.ensures, c.self.inside.bounds.ok.0)
