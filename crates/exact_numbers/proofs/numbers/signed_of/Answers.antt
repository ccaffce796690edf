use Rattle.std.proofs.Common.{sym}
use Rattle.exact_numbers.proofs.NumberLemmas.{signed_of-ok, signed_of-err, signed_of-none, signed_utf8}
use Rattle.exact_numbers.proofs.numbers.signed_of.Goals as goal

pub returns-in_default : goal.returns-in_default
returns-in_default c = sym (signed_of-none _ (λ is fits. c.in_default.ensures.cases.0 (signed_utf8 _ is.1)))

pub returns-in-Ok-from_str_radix : goal.returns-in-Ok-from_str_radix
returns-in-Ok-from_str_radix c = signed_of-ok _ _ _ c.in-Ok.ensures.cases.0 c.in-Ok-from_str_radix.ensures.value.0 c.in-Ok-from_str_radix.ensures.value.1

pub returns-in-Err : goal.returns-in-Err
returns-in-Err c = signed_of-err _ _ c.in-Ok.ensures.cases.0 c.in-Err.ensures.value
