use Rattle.std.proofs.Common.{subst}
use Rattle.exact_numbers.specs.Values.{frac_value}
use Rattle.linear_program.specs.Forms.{form_line}
use Rattle.linear_fold.specs.InsideOperates.{IsOperand, part_line}
use Rattle.linear_fold.proofs.Operators.{part_fits}
use Rattle.linear_fold.proofs.SumLemmas.{onto_form, onto_opposite}
use Rattle.linear_fold.proofs.sums.add_onto.Goals as goal

pub returns-in-Linear-clause-sums : goal.returns-in-Linear-clause-sums
returns-in-Linear-clause-sums g c =
    rw c.in-Linear.is (onto_form c.args.variables (form_line c.in-Linear.form) (part_line c.args.part.now)
    (form_line c.add_part.new.form) (frac_value c.one.result) c.add_part.result c.one.ensures
    (part_fits c.args.part.now) (subst (IsOperand c.args.variables) c.in-Linear.is c.requires.first).zero_from
    c.requires.second.zero_from c.add_part.ensures.sums)

pub returns-in-Opposite-clause-sums : goal.returns-in-Opposite-clause-sums
returns-in-Opposite-clause-sums g c =
    rw c.in-Opposite.is (onto_opposite c.args.variables (form_line c.in-Opposite.form) (part_line c.args.part.now)
    (form_line c.add_part-in-Opposite.new.form) (frac_value c.neg.result) (frac_value c.one-in-Opposite.result)
    c.add_part-in-Opposite.result c.neg.ensures c.one-in-Opposite.ensures (part_fits c.args.part.now)
    (subst (IsOperand c.args.variables) c.in-Opposite.is c.requires.first).zero_from c.requires.second.zero_from
    c.add_part-in-Opposite.ensures.sums)
