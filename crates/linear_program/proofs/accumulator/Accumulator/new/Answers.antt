use Rattle.std.proofs.Common.{◌∙◌, ap, subst, sym, length, refl}
use Rattle.std.proofs.lemmas.List.{length-replicate}
use Rattle.linear_program.specs.Places.{AreZeros, all_places}
use Rattle.linear_program.proofs.HeldPlaces.{emptied}
use Rattle.linear_program.proofs.PutLemmas.{put_length}
use Rattle.linear_program.proofs.accumulator.Accumulator.new.Goals as goal

pub returns-clause-zeros : goal.returns-clause-zeros
returns-clause-zeros c = emptied c.args.count c.zero.result c.zero.ensures c.without_places.result c.new.result c.new.ensures (subst AreZeros (sym c.without_places.ensures) (λ j. refl))

pub returns-clause-count : goal.returns-clause-count
returns-clause-count c =
    let n = c.args.count in
    put_length c.new.result (all_places n c.zero.result c.without_places.result) ∙ ap (λ ps. length (all_places n c.zero.result ps)) c.without_places.ensures ∙ length-replicate n c.zero.result
