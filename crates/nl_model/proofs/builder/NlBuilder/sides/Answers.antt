use Rattle.std.proofs.Common.{arith}
use Rattle.nl_model.proofs.Headers.{counts_of_header}
use Rattle.nl_model.proofs.builder.NlBuilder.sides.Goals as goal

pub overflow_cast-result : goal.overflow_cast-result
overflow_cast-result c =
    let counts = counts_of_header c.self.inside.header.options c.self.inside.header.counts c.self.inside.header.ruled in
    omega (arith, counts.constraints, c.self.invariant.draft.side_count, c.len.ensures, c.self.inside.sides.ok.0)
