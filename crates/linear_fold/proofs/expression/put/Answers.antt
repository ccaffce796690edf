use Rattle.std.proofs.Common.{arith}
use Rattle.exact_numbers.specs.Values.{frac_value}
use Rattle.linear_program.specs.Forms.{form_line, place_count, sum_line}
use Rattle.linear_fold.proofs.Operators.{few_of_form, form_fits}
use Rattle.linear_fold.proofs.Expressions.{put_fits, put_line}
use Rattle.linear_fold.proofs.expression.put.Goals as goal

pub unreachable-requires : goal.unreachable-requires
unreachable-requires g c =
    put_fits (sum_line c.args.total.now) c.requires.blank (form_line c.args.form.now) (frac_value c.one.result)
    c.one.ensures (place_count c.args.total.now) c.requires.within (sum_line c.add_scaled.new.self)
    c.in-Err-Fault.field-0 c.in-Err-Fault.field-0-0 c.in-Err-Fault.field-0-is (form_fits c.args.form.now)
    c.in-Err-Fault.ensures.sums

pub returns-in-Ok-clause-line : goal.returns-in-Ok-clause-line
returns-in-Ok-clause-line g c =
    put_line (sum_line c.args.total.now) c.requires.blank (form_line c.args.form.now) (frac_value c.one.result)
    c.one.ensures (place_count c.args.total.now) c.requires.within (sum_line c.add_scaled.new.self)
    c.in-Ok.ensures.sums

pub returns-in-Ok-clause-below : goal.returns-in-Ok-clause-below
returns-in-Ok-clause-below g c = let few = few_of_form (place_count c.args.total.now) c.args.form.now c.requires.within c.in-Ok.ensures.ascending in let h = c.in-Ok.ensures.below in omega arith

pub returns-in-Err-Memory-clause-below : goal.returns-in-Err-Memory-clause-below
returns-in-Err-Memory-clause-below g c = let few = few_of_form (place_count c.args.total.now) c.args.form.now
    c.requires.within c.in-Err-Memory.ensures.ascending in let h = c.in-Err-Memory.ensures.below in omega arith
