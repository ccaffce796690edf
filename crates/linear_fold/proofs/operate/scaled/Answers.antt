use Rattle.std.proofs.Common.{subst}
use Rattle.exact_numbers.specs.Values.{frac_value}
use Rattle.linear_program.specs.Forms.{form_line}
use Rattle.linear_fold.specs.InsideOperates.{IsOperand}
use Rattle.linear_fold.proofs.Operators.{if_ok}
use Rattle.linear_fold.proofs.SumLemmas.{neg_zero_from, opposite_comes}
use Rattle.linear_fold.proofs.operate.scaled.Goals as goal

pub scaled_form-requires : goal.scaled_form-requires
scaled_form-requires g c = (subst (IsOperand c.args.variables) c.in-Linear.is c.requires).zero_from

pub returns-in-Number-clause-outcome : goal.returns-in-Number-clause-outcome
returns-in-Number-clause-outcome g c = rw c.in-Number.is (c.scaled_number.ensures c.args.variables)

pub returns-in-Variable-clause-outcome : goal.returns-in-Variable-clause-outcome
returns-in-Variable-clause-outcome g c =
    rw c.in-Variable.is (c.scaled_multiple.ensures c.args.variables (subst (IsOperand c.args.variables) c.in-Variable.is c.requires).sound)

pub scaled_form-requires-in-Opposite : goal.scaled_form-requires-in-Opposite
scaled_form-requires-in-Opposite g c = neg_zero_from c.args.variables (form_line c.in-Opposite.form) (subst (IsOperand c.args.variables) c.in-Opposite.is c.requires).zero_from

pub returns-in-Opposite-clause-outcome : goal.returns-in-Opposite-clause-outcome
returns-in-Opposite-clause-outcome g c =
    rw c.in-Opposite.is
    (if_ok c.scaled_form-in-Opposite.result _ _ (λ o h. opposite_comes c.args.variables (frac_value c.args.k)
    (frac_value c.neg.result) (form_line c.in-Opposite.form) o c.neg.ensures h)
    c.scaled_form-in-Opposite.ensures.outcome)
