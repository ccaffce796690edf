use Rattle.exact_numbers.proofs.RationalLaws.{≤ℚ_refl, ≤ℚ_trans, ≤ℚ_antisymm, le_or_lt, not_both, +ℚ-≤ℚ, *ℚ-≤ℚ}
use Rattle.exact_numbers.proofs.Extremes.{is_smaller_test}
use Rattle.exact_numbers.proofs.fraction_laws.order.Goals as goal

pub returns-clause-reflexive : goal.returns-clause-reflexive
returns-clause-reflexive c = ≤ℚ_refl

pub returns-clause-transitive : goal.returns-clause-transitive
returns-clause-transitive c = ≤ℚ_trans

pub returns-clause-antisymmetric : goal.returns-clause-antisymmetric
returns-clause-antisymmetric c = ≤ℚ_antisymm

pub returns-clause-either_way : goal.returns-clause-either_way
returns-clause-either_way c = le_or_lt

pub returns-clause-test : goal.returns-clause-test
returns-clause-test c = is_smaller_test

pub returns-clause-not_both : goal.returns-clause-not_both
returns-clause-not_both c = not_both

pub returns-clause-sums : goal.returns-clause-sums
returns-clause-sums c = +ℚ-≤ℚ

pub returns-clause-products : goal.returns-clause-products
returns-clause-products c = *ℚ-≤ℚ
