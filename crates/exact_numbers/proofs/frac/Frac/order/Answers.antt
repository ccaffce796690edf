use Rattle.std.proofs.Common.{rules}
use Rattle.exact_numbers.proofs.frac.Frac.order.Goals as goal

pub returns-else-other-lt0-2 : goal.returns-else-other-lt0-2
returns-else-other-lt0-2 c = search rules

pub returns-then-other-lt0 : goal.returns-then-other-lt0
returns-then-other-lt0 c = search rules

pub returns-then-other-lt0-2 : goal.returns-then-other-lt0-2
returns-then-other-lt0-2 c = search rules

pub returns-then-self-lt0-2 : goal.returns-then-self-lt0-2
returns-then-self-lt0-2 c = search rules
