use Rattle.exact_numbers.proofs.RationalLaws.{over_same, over_parts, over-+ℚ, over-*ℚ, over-neg, over-≤ℚ}
use Rattle.exact_numbers.proofs.fraction_laws.numbers_are_pairs.Goals as goal

pub returns-clause-same : goal.returns-clause-same
returns-clause-same c = over_same

pub returns-clause-own : goal.returns-clause-own
returns-clause-own c = over_parts

pub returns-clause-sum : goal.returns-clause-sum
returns-clause-sum c = over-+ℚ

pub returns-clause-product : goal.returns-clause-product
returns-clause-product c = over-*ℚ

pub returns-clause-negation : goal.returns-clause-negation
returns-clause-negation c = over-neg

pub returns-clause-order : goal.returns-clause-order
returns-clause-order c = over-≤ℚ
