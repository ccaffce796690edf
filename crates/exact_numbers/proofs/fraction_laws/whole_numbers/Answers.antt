use Rattle.exact_numbers.proofs.RationalLaws.{IsWhole-whole, whole_of, same_whole}
use Rattle.exact_numbers.proofs.fraction_laws.whole_numbers.Goals as goal

pub returns-clause-whole : goal.returns-clause-whole
returns-clause-whole c = IsWhole-whole

pub returns-clause-only : goal.returns-clause-only
returns-clause-only c = whole_of

pub returns-clause-same : goal.returns-clause-same
returns-clause-same c = same_whole
