use Rattle.exact_numbers.proofs.Adding.{sum_over-append, sum_over-+ℚ, sum_over-*ℚ, sum_over_swap, sum_over_le}
use Rattle.exact_numbers.proofs.fraction_laws.sums_over_lists.Goals as goal

pub returns-clause-append : goal.returns-clause-append
returns-clause-append c = sum_over-append

pub returns-clause-both : goal.returns-clause-both
returns-clause-both c = sum_over-+ℚ

pub returns-clause-scaled : goal.returns-clause-scaled
returns-clause-scaled c = sum_over-*ℚ

pub returns-clause-swapped : goal.returns-clause-swapped
returns-clause-swapped c = sum_over_swap

pub returns-clause-ordered : goal.returns-clause-ordered
returns-clause-ordered c = sum_over_le
