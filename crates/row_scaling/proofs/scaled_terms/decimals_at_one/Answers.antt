use Rattle.exact_numbers.specs.Values.{frac_value}
use Rattle.linear_program.specs.Forms.{form_terms}
use Rattle.row_scaling.proofs.NumberLemmas.{plain_if_some}
use Rattle.row_scaling.proofs.scaled_terms.decimals_at_one.Goals as goal

pub returns : goal.returns
returns c = plain_if_some (λ ds. ds.now) (frac_value c.args.factor) (c.is_one.ensures c.if-not-is_one.false) (form_terms c.args.form.now) c.decimals.result c.decimals.ensures
