use Rattle.std.proofs.Common.{◌∙◌, ap, sym}
use Rattle.exact_numbers.specs.Values.{frac_value}
use Rattle.exact_numbers.specs.Rational.{inverse_of}
use Rattle.exact_numbers.proofs.RationalLaws.{zero-is_zero}
use Rattle.linear_fold.specs.InsideOperates.{part_line}
use Rattle.linear_program.proofs.FracLemmas.{nonzero_test}
use Rattle.linear_fold.proofs.Operators.{if_ok, quotient_zero, quotient_comes}
use Rattle.linear_fold.proofs.operate.quotient.Goals as goal

pub returns-then-is_zero-clause-outcome : goal.returns-then-is_zero-clause-outcome
returns-then-is_zero-clause-outcome g c =
    quotient_zero c.args.variables (part_line c.args.a.now) (part_line c.args.b.now)
    (sym (c.in-Some.ensures.test c.args.variables c.requires.second))
    (zero-is_zero _ (sym c.in-Some.ensures.value ∙ c.is_zero.ensures.0 c.if-is_zero.true))

pub returns-clause-outcome : goal.returns-clause-outcome
returns-clause-outcome g c =
    if_ok c.scaled.result _ _
    (λ o h. quotient_comes c.args.variables (part_line c.args.a.now) (part_line c.args.b.now) o (frac_value c.reciprocal.result)
    (c.reciprocal.ensures ∙ ap inverse_of c.in-Some.ensures.value)
    (sym (c.in-Some.ensures.test c.args.variables c.requires.second))
    (nonzero_test _ c.is_zero.result (λ z. c.is_zero.ensures.1 (c.in-Some.ensures.value ∙ z)) c.if-is_zero.false) h)
    c.scaled.ensures.outcome
