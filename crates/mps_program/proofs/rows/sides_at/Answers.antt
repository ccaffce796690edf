use Rattle.std.specs.Option.{option_map}
use Rattle.exact_numbers.specs.Values.{dec_value}
use Rattle.mps_model.specs.Mps.{or_zero}
use Rattle.mps_program.proofs.PartLemmas.{sides_found}
use Rattle.mps_program.proofs.rows.sides_at.Goals as goal

pub returns : goal.returns
returns c = sides_found c.row_sides.result c.args.kind (dec_value c.or_zero.result)
    (or_zero (option_map dec_value c.args.rhs)) (option_map dec_value c.args.range) c.or_zero.ensures c.row_sides.ensures
