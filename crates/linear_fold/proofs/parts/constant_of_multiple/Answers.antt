use Rattle.std.proofs.Common.{sym}
use Rattle.exact_numbers.specs.Values.{frac_value}
use Rattle.linear_program.proofs.FracLemmas.{nonzero_test}
use Rattle.exact_numbers.proofs.RationalLaws.{zero-is_zero}
use Rattle.linear_fold.proofs.parts.constant_of_multiple.Goals as goal

pub returns-then-is_zero-clause-test : goal.returns-then-is_zero-clause-test
returns-then-is_zero-clause-test c = sym (zero-is_zero (frac_value c.args.factor) (c.is_zero.ensures.0 c.if-is_zero.true))

pub returns-else-is_zero-clause-test : goal.returns-else-is_zero-clause-test
returns-else-is_zero-clause-test c = sym (nonzero_test (frac_value c.args.factor) c.is_zero.result (λ z. c.is_zero.ensures.1 z) c.if-is_zero.false)
