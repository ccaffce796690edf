use Rattle.std.proofs.Common.{◌∙◌, subst}
use Rattle.exact_numbers.specs.Values.{frac_value}
use Rattle.linear_fold.specs.InsideOperates.{IsOperand}
use Rattle.linear_program.specs.Forms.{form_line}
use Rattle.linear_fold.proofs.Operators.{multiple_constant}
use Rattle.linear_fold.proofs.SumLemmas.{neg_zero_from}
use Rattle.linear_fold.proofs.parts.PartialForm.constant.Goals as goal

pub returns-in-Variable-clause-test : goal.returns-in-Variable-clause-test
returns-in-Variable-clause-test c n w =
    rw c.in-Variable.is (c.constant_of_multiple.ensures.test ∙ multiple_constant n c.in-Variable.field-0 (frac_value c.in-Variable.factor) (subst (IsOperand n) c.in-Variable.is w).sound)

pub returns-in-Linear-clause-test : goal.returns-in-Linear-clause-test
returns-in-Linear-clause-test c n w = rw c.in-Linear.is (c.constant_of.ensures.test n (subst (IsOperand n) c.in-Linear.is w).zero_from)

pub returns-in-Opposite-clause-test : goal.returns-in-Opposite-clause-test
returns-in-Opposite-clause-test c n w =
    rw c.in-Opposite.is (c.constant_of_opposite.ensures.test n (neg_zero_from n (form_line c.in-Opposite.form) (subst (IsOperand n) c.in-Opposite.is w).zero_from))
