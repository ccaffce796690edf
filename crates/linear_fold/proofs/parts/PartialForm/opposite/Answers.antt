use Rattle.std.proofs.Common.{sym}
use Rattle.exact_numbers.specs.Values.{frac_value}
use Rattle.linear_program.specs.Forms.{form_line}
use Rattle.linear_fold.proofs.SumLemmas.{line_neg_neg, neg_multiple, neg_number}
use Rattle.linear_fold.proofs.parts.PartialForm.opposite.Goals as goal

pub returns-in-Number-clause-line : goal.returns-in-Number-clause-line
returns-in-Number-clause-line c = rw c.in-Number.is (neg_number (frac_value c.in-Number.number) (frac_value c.neg.result) c.neg.ensures)

pub returns-in-Variable-clause-line : goal.returns-in-Variable-clause-line
returns-in-Variable-clause-line c = rw c.in-Variable.is (neg_multiple c.in-Variable.variable (frac_value c.in-Variable.factor) (frac_value c.neg-in-Variable.result) c.neg-in-Variable.ensures)

pub returns-in-Opposite-clause-line : goal.returns-in-Opposite-clause-line
returns-in-Opposite-clause-line c = rw c.in-Opposite.is (sym (line_neg_neg (form_line c.in-Opposite.form)))
