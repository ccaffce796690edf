use Rattle.exact_numbers.specs.Values.{frac_value}
use Rattle.row_scaling.proofs.NumberLemmas.{no_cofactor}
use Rattle.row_scaling.proofs.decimals.has_few_places.Goals as goal

pub returns-in-Some : goal.returns-in-Some
returns-in-Some c = λ t. no_cofactor (frac_value c.args.number) _ _ c.in-Some.ensures.unit
