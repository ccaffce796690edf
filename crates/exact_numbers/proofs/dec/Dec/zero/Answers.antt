use Rattle.std.proofs.Common.{pos, ap₂, ◌∙◌}
use Rattle.exact_numbers.specs.Rational.{decimal_value}
use Rattle.exact_numbers.proofs.Bridge.{zero_decimal}
use Rattle.exact_numbers.proofs.dec.Dec.zero.Goals as goal

pub returns : goal.returns
returns c = ap₂ decimal_value c.of_parts.ensures.mantissa c.of_parts.ensures.exponent ∙ zero_decimal (pos 0)
