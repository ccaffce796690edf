-- The decimal numbers of values.
use Rattle.exact_numbers.specs.Rational.{ℚ}
use Rattle.exact_numbers.specs.Values.{decimal_of}
use Rattle.nl_model.specs.Trees.{Tree, number}

-- the expression that is one number
abbrev pub number_tree : ℚ → Tree
number_tree x = number (decimal_of x).mantissa (decimal_of x).exponent
