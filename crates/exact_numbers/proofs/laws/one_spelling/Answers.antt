use Rattle.std.proofs.Common.{◌∙◌, sym, ap}
use Rattle.exact_numbers.specs.Values.{decimal_of}
use Rattle.exact_numbers.proofs.Spelling.{decimal_of-decimal, value_text-decimal}
use Rattle.exact_numbers.proofs.laws.one_spelling.Goals as goal

pub returns-clause-spelling : goal.returns-clause-spelling
returns-clause-spelling c d = decimal_of-decimal d.m d.e d.spelled

pub returns-clause-mantissa : goal.returns-clause-mantissa
returns-clause-mantissa _ c d e = ap (λ s. s.mantissa) (sym (decimal_of-decimal c.m c.e c.spelled) ∙ ap decimal_of e ∙ decimal_of-decimal d.m d.e d.spelled)

pub returns-clause-exponent : goal.returns-clause-exponent
returns-clause-exponent _ c d e = ap (λ s. s.exponent) (sym (decimal_of-decimal c.m c.e c.spelled) ∙ ap decimal_of e ∙ decimal_of-decimal d.m d.e d.spelled)

pub returns-clause-text : goal.returns-clause-text
returns-clause-text c d = sym (value_text-decimal d.m d.e d.spelled)
