use Rattle.std.proofs.Common.{◌∙◌, ap, sym, length}
use Rattle.linear_program.specs.Places.{all_places}
use Rattle.linear_program.proofs.HeldPlaces.{as_many, emptied}
use Rattle.linear_program.proofs.PutLemmas.{put_length}
use Rattle.linear_program.proofs.accumulator.Accumulator.clear.Goals as goal

pub returns-clause-zeros : goal.returns-clause-zeros
returns-clause-zeros c = emptied c.self.inside.count c.self.inside.empty c.self.invariant.absent c.clear-2.new.self c.clear.new.self c.clear.ensures c.clear-2.ensures.zeros

pub returns-clause-count : goal.returns-clause-count
returns-clause-count c =
    let w = c.self.inside in
    put_length c.clear.new.self (all_places w.count w.empty c.clear-2.new.self)
    ∙ as_many w.count w.empty c.clear-2.new.self w.places c.clear-2.ensures.count
    ∙ sym (put_length w.listed (all_places w.count w.empty w.places)) ∙ ap length c.self.view_is
