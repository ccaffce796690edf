use Rattle.std.proofs.Common.{rules, ◌≡◌, ◌∙◌, to_z, of_z}
use Rattle.std.specs.Int.{w128}
use Rattle.row_scaling.specs.Factored.{numbers_of}
use Rattle.row_scaling.proofs.NumberLemmas.{factor_positive}
use Rattle.row_scaling.proofs.objectives.tied_objective.Goals as goal

pub tie-requires : goal.tie-requires
tie-requires c =
    let back : to_z w128 (of_z w128 c.in-Some.factor) ≡ c.in-Some.factor = search rules in
    factor_positive _ (numbers_of c.args.objective.now) (back ∙ c.in-Some.ensures)
