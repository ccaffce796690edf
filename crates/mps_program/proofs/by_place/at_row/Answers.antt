use Rattle.std.proofs.Common.{◌∙◌, arith, eq-eqb}
use Rattle.mps_program.proofs.LoopLemmas.{at_hit, at_miss, at_end}
use Rattle.std.proofs.lemmas.Bool.{ne_eqb}
use Rattle.mps_program.proofs.by_place.at_row.Goals as goal

pub returns-then-entry-row : goal.returns-then-entry-row
returns-then-entry-row c = at_hit c.args.given.now c.given.entry-index c.args.row c.entry-item.result (omega arith)
    c.entry-item.is (eq-eqb c.entry-item.result.0 c.args.row c.if-entry-row.true) ∙ c.given.invariant

pub given-preserved : goal.given-preserved
given-preserved c = at_miss c.args.given.now c.given.entry-index c.args.row c.entry-item.result (omega arith)
    c.entry-item.is (ne_eqb c.entry-item.result.0 c.args.row c.if-entry-row.false) ∙ c.given.invariant

pub returns : goal.returns
returns c = at_end c.args.given.now c.given.entry-index c.args.row (omega arith) ∙ c.given.invariant
