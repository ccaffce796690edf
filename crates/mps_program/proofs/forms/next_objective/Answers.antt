use Rattle.std.proofs.Common.{◌≡◌, ◌+◌, ◌-◌, ◌∙◌, ap, arith}
use Rattle.mps_program.specs.Terms.{row_terms}
use Rattle.mps_program.proofs.forms.next_objective.Goals as goal

pub objective_of-requires-clause-own : goal.objective_of-requires-clause-own
objective_of-requires-clause-own c =
    let back : c.args.first + (c.args.place - c.args.first) ≡ c.args.place = omega arith in
    c.list.ensures ∙ c.requires.terms.each (c.args.place - c.args.first) (omega arith) ∙ ap (row_terms c.args.mps.now) back
