use Rattle.std.proofs.Common.{◌∙◌, ap, sym, length}
use Rattle.linear_program.specs.Places.{all_places}
use Rattle.linear_program.proofs.PutLemmas.{put_length}
use Rattle.linear_program.proofs.accumulator.Accumulator.add_at.Goals as goal

pub returns-in_default-clause-count : goal.returns-in_default-clause-count
returns-in_default-clause-count c =
    let w = c.self.inside in
    put_length c.clear.new.self (all_places w.count w.empty c.put_listed-put.new.places)
    ∙ c.put_listed-put.ensures.count ∙ sym (put_length w.listed (all_places w.count w.empty w.places)) ∙ ap length c.self.view_is
