use Rattle.std.proofs.Common.{arith, subst, sym}
use Rattle.exact_numbers.specs.Values.{frac_value}
use Rattle.linear_program.specs.Forms.{IsWithin, form_line}
use Rattle.linear_fold.specs.InsideOperates.{IsOperand}
use Rattle.linear_fold.proofs.Operators.{few_of_form}
use Rattle.linear_fold.proofs.SumLemmas.{adds_opposite, neg_zero_from}
use Rattle.linear_fold.proofs.sums.add_part.Goals as goal

pub add_scaled-requires-in-Linear : goal.add_scaled-requires-in-Linear
add_scaled-requires-in-Linear g c lies = subst (λ n. IsWithin n c.in-Linear.other) (sym (c.requires.form lies)) (subst (IsOperand c.args.variables) c.in-Linear.is c.requires.part).zero_from

pub add_scaled-requires-in-Opposite : goal.add_scaled-requires-in-Opposite
add_scaled-requires-in-Opposite g c lies =
    subst (λ n. IsWithin n c.in-Opposite.other) (sym (c.requires.form lies))
    (neg_zero_from c.args.variables (form_line c.in-Opposite.other) (subst (IsOperand c.args.variables) c.in-Opposite.is c.requires.part).zero_from)

pub returns-in-Linear-clause-below : goal.returns-in-Linear-clause-below
returns-in-Linear-clause-below g c =
    let few = few_of_form c.args.variables c.in-Linear.other (subst (IsOperand c.args.variables) c.in-Linear.is c.requires.part).zero_from c.add_scaled-in-Linear.ensures.ascending in
    let h = c.add_scaled-in-Linear.ensures.below in
    omega arith

pub returns-in-Opposite-clause-sums : goal.returns-in-Opposite-clause-sums
returns-in-Opposite-clause-sums g c =
    rw c.in-Opposite.is (adds_opposite (form_line c.args.form.now) (form_line c.in-Opposite.other)
    (form_line c.add_scaled-in-Opposite.new.self) (frac_value c.args.k) (frac_value c.neg.result)
    c.add_scaled-in-Opposite.result c.neg.ensures c.add_scaled-in-Opposite.ensures.sums)

pub returns-in-Opposite-clause-below : goal.returns-in-Opposite-clause-below
returns-in-Opposite-clause-below g c =
    let within = neg_zero_from c.args.variables (form_line c.in-Opposite.other) (subst (IsOperand c.args.variables) c.in-Opposite.is c.requires.part).zero_from in
    let few = few_of_form c.args.variables c.in-Opposite.other within c.add_scaled-in-Opposite.ensures.ascending in
    let h = c.add_scaled-in-Opposite.ensures.below in
    omega arith
