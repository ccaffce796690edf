use Rattle.std.proofs.Common.{◌∙◌, arith}
use Rattle.std.proofs.lemmas.Grind.{common_steps}
use Rattle.row_scaling.proofs.LineLemmas.{row_is_named}
use Rattle.row_scaling.proofs.entry_lines.name_of_row.Goals as goal

pub returns-in-Some-clause-text : goal.returns-in-Some-clause-text
returns-in-Some-clause-text c =
    let item = c.in-Some.ensures.lookup.3 in
    λ s numbers within. c.numbered.ensures.text ∙ row_is_named s c.args.numbers.now c.args.row c.in-Some.number.now numbers c.if-row-eq0.false item.0 (item.1 0)

pub returns-in-None-clause-text : goal.returns-in-None-clause-text
returns-in-None-clause-text c = λ s numbers within. grind (arith, common_steps, numbers, within)
