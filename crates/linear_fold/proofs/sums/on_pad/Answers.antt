use Rattle.exact_numbers.specs.Values.{frac_value}
use Rattle.linear_program.specs.Forms.{form_line}
use Rattle.linear_fold.specs.InsideOperates.{part_line}
use Rattle.linear_fold.proofs.Expressions.{put_fits, put_line}
use Rattle.linear_fold.proofs.Operators.{part_fits}
use Rattle.linear_fold.proofs.sums.on_pad.Goals as goal

pub unreachable-requires : goal.unreachable-requires
unreachable-requires g c =
    put_fits (form_line c.on_pad-form.result) c.on_pad-form.ensures.line (part_line c.args.part.now)
    (frac_value c.one.result) c.one.ensures c.args.variables c.requires.part.zero_from (form_line c.add_part.new.form)
    c.in-Err-Fault.field-0 c.in-Err-Fault.field-0-0 c.in-Err-Fault.field-0-is (part_fits c.args.part.now)
    c.in-Err-Fault.ensures.sums

pub returns-in-Ok-clause-line : goal.returns-in-Ok-clause-line
returns-in-Ok-clause-line g c =
    put_line (form_line c.on_pad-form.result) c.on_pad-form.ensures.line (part_line c.args.part.now)
    (frac_value c.one.result) c.one.ensures c.args.variables c.requires.part.zero_from (form_line c.add_part.new.form)
    c.in-Ok.ensures.sums
