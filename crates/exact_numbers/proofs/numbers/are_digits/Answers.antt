use Rattle.std.proofs.Common.{sym}
use Rattle.exact_numbers.proofs.NumberLemmas.{digits_are, digits-wide, digits-not}
use Rattle.exact_numbers.proofs.numbers.are_digits.Goals as goal

pub returns-in-Ok : goal.returns-in-Ok
returns-in-Ok c = sym (digits_are _ c.in-Ok.ensures.0.0 c.in-Ok.ensures.0.1)

pub returns-in-Err-TooWide : goal.returns-in-Err-TooWide
returns-in-Err-TooWide c = digits-wide _ _ c.in-Err-TooWide.ensures c.in-Err-TooWide.field-0-is

pub returns-in-Err-NotNumber : goal.returns-in-Err-NotNumber
returns-in-Err-NotNumber c = digits-not _ _ c.in-Err-NotNumber.ensures c.in-Err-NotNumber.field-0-is
