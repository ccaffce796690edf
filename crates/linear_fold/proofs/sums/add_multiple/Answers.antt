use Rattle.exact_numbers.specs.Values.{frac_value}
use Rattle.linear_program.specs.Forms.{form_line}
use Rattle.linear_fold.proofs.Operators.{form_fits, wide_multiple}
use Rattle.linear_fold.proofs.SumLemmas.{multiple_added}
use Rattle.linear_fold.proofs.sums.add_multiple.Goals as goal

pub returns-in_default-clause-sums : goal.returns-in_default-clause-sums
returns-in_default-clause-sums g c = wide_multiple (form_line c.args.form.now) (frac_value c.args.k) (frac_value c.args.factor) c.args.variable (form_fits c.args.form.now) c.in_default.ensures

pub returns-clause-sums : goal.returns-clause-sums
returns-clause-sums g c =
    multiple_added (form_line c.args.form.now) (frac_value c.args.k) (frac_value c.args.factor) c.args.variable
    (form_fits c.args.form.now) (form_line c.add_term.new.self) (frac_value c.in-Some.scaled) c.add_term.result
    c.in-Some.ensures.0 c.in-Some.ensures.1 c.add_term.ensures.constant c.add_term.ensures.adds
