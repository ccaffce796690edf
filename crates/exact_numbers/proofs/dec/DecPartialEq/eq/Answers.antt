use Rattle.std.proofs.Common.{rules}
use Rattle.exact_numbers.proofs.dec.DecPartialEq.eq.Goals as goal

pub returns-else-whole : goal.returns-else-whole
returns-else-whole c = search rules

pub returns-then-whole : goal.returns-then-whole
returns-then-whole c = search rules
