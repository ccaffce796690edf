use Rattle.std.proofs.Common.{◌∙◌, sym, ap, arith, get_or, None}
use Rattle.std.specs.Option.{option_or}
use Rattle.exact_numbers.proofs.OptionLemmas.{or_none}
use Rattle.mps_program.proofs.LoopLemmas.{at_end}
use Rattle.mps_program.proofs.PartLemmas.{entry_within}
use Rattle.mps_program.proofs.by_place.by_row.Goals as goal

pub give-requires : goal.give-requires
give-requires c = omega (arith, entry_within c.args.given.now c.given.entry-index c.entry-item.result (omega arith) c.entry-item.is c.args.count c.requires, c.given.invariant.count)

pub returns-clause-value : goal.returns-clause-value
returns-clause-value c = λ i lt. sym (or_none (get_or c.given.all.items i None))
    ∙ ap (option_or (get_or c.given.all.items i None)) (at_end c.args.given.now c.given.entry-index i (omega arith))
    ∙ c.given.invariant.left i lt
