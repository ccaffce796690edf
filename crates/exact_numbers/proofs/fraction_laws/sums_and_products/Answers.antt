use Rattle.exact_numbers.proofs.RationalLaws.{+ℚ_comm, +ℚ_assoc, +ℚ_zero, +ℚ-neg, *ℚ_comm, *ℚ_assoc, *ℚ_one, *ℚ-+ℚ}
use Rattle.exact_numbers.proofs.fraction_laws.sums_and_products.Goals as goal

pub returns-clause-sum_comm : goal.returns-clause-sum_comm
returns-clause-sum_comm c = +ℚ_comm

pub returns-clause-sum_assoc : goal.returns-clause-sum_assoc
returns-clause-sum_assoc c = +ℚ_assoc

pub returns-clause-sum_zero : goal.returns-clause-sum_zero
returns-clause-sum_zero c = +ℚ_zero

pub returns-clause-sum_neg : goal.returns-clause-sum_neg
returns-clause-sum_neg c = +ℚ-neg

pub returns-clause-product_comm : goal.returns-clause-product_comm
returns-clause-product_comm c = *ℚ_comm

pub returns-clause-product_assoc : goal.returns-clause-product_assoc
returns-clause-product_assoc c = *ℚ_assoc

pub returns-clause-product_one : goal.returns-clause-product_one
returns-clause-product_one c = *ℚ_one

pub returns-clause-distributes : goal.returns-clause-distributes
returns-clause-distributes c = *ℚ-+ℚ
