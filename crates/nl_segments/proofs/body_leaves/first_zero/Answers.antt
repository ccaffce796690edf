use Rattle.std.proofs.Common.{arith}
use Rattle.nl_segments.proofs.LeafFronts.{zero_line}
use Rattle.nl_segments.proofs.body_leaves.first_zero.Goals as goal

pub returns-then-text-eq10 : goal.returns-then-text-eq10
returns-then-text-eq10 c = zero_line c.zero.result c.args.text.now c.zero.ensures (omega (arith, c.if-text-ge3.true)) c.if-text-eq110.true c.if-text-eq48.true c.if-text-eq10.true
