use Rattle.std.proofs.Common.{◌≡◌, take}
use Rattle.linear_program.specs.Decimals.{fraction_terms}
use Rattle.linear_program.proofs.decimal_terms.fractions_of.Given as goal

abbrev pub invariant-loop-i : goal.invariant-loop-i
invariant-loop-i l = l.items.items ≡ fraction_terms (take l.i l.terms)
