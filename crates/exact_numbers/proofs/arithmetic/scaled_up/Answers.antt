use Rattle.std.proofs.Common.{rules}
use Rattle.exact_numbers.proofs.arithmetic.scaled_up.Goals as goal

pub bounded_product-requires : goal.bounded_product-requires
bounded_product-requires c = search rules

pub returns-in-None : goal.returns-in-None
returns-in-None c = search rules

pub returns-in-Some : goal.returns-in-Some
returns-in-Some c = search rules

pub unsigned_abs-requires : goal.unsigned_abs-requires
unsigned_abs-requires c = search rules

pub with_sign-requires : goal.with_sign-requires
with_sign-requires c = search rules
