use Rattle.std.proofs.Common.{◌∙◌, arith}
use Rattle.exact_numbers.specs.Values.{frac_value}
use Rattle.linear_program.specs.Forms.{form_line}
use Rattle.linear_fold.proofs.Operators.{few_of_form, form_fits, scaled_by_minus}
use Rattle.linear_fold.proofs.SumLemmas.{minus_never, minus_some}
use Rattle.linear_fold.proofs.parts.opposite_form.Goals as goal

pub times-requires : goal.times-requires
times-requires g c = minus_some (frac_value c.neg.result) (frac_value c.one.result) c.neg.ensures c.one.ensures

pub unreachable-requires : goal.unreachable-requires
unreachable-requires g c =
    minus_never c.args.variables (frac_value c.neg.result) (frac_value c.one.result) (form_line c.args.form.now)
    c.in-Err-Fault.field-0 c.in-Err-Fault.field-0-0 c.neg.ensures c.one.ensures (form_fits c.args.form.now) c.requires
    c.in-Err-Fault.field-0-is c.in-Err-Fault.ensures.product

pub returns-in-Ok-clause-line : goal.returns-in-Ok-clause-line
returns-in-Ok-clause-line g c = c.in-Ok.ensures.product.1 ∙ scaled_by_minus (frac_value c.neg.result) (frac_value c.one.result) (form_line c.args.form.now) c.neg.ensures c.one.ensures

pub returns-in-Ok-clause-below : goal.returns-in-Ok-clause-below
returns-in-Ok-clause-below g c = let few = few_of_form c.args.variables c.args.form.now c.requires c.in-Ok.ensures.ascending in let h = c.in-Ok.ensures.below in omega arith

pub returns-in-Err-Memory-clause-below : goal.returns-in-Err-Memory-clause-below
returns-in-Err-Memory-clause-below g c = let few = few_of_form c.args.variables c.args.form.now c.requires c.in-Err-Memory.ensures.ascending in let h = c.in-Err-Memory.ensures.below in omega arith
