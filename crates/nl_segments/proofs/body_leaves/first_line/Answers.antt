use Rattle.std.proofs.Common.{arith}
use Rattle.nl_segments.proofs.LeafFronts.{product_line}
use Rattle.nl_segments.proofs.body_leaves.first_line.Goals as goal

pub returns-then-text-eq10 : goal.returns-then-text-eq10
returns-then-text-eq10 c = product_line c.args.text.now (omega (arith, c.if-text-ge3.true)) c.if-text-eq111.true c.if-text-eq50.true c.if-text-eq10.true
