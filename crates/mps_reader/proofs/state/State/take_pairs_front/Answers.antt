use Rattle.std.proofs.Common.{◌∙◌, ap}
use Rattle.mps_reader.specs.InsideHeld.{Held}
use Rattle.mps_reader.proofs.FrontEntries.{less, one_before}
use Rattle.mps_reader.proofs.FrontLines.{pair_may}
use Rattle.mps_reader.proofs.state.State.take_pairs_front.Goals as goal

pub pairs-smaller : goal.pairs-smaller
pairs-smaller c =
    less c.args.keyword c.args.self.now c.pairs.self _ c.give_pair.new.self c.args.text.now c.pairs.rest.now c.in-Some.pair.rest.now c.pairs.lines c.pairs.invariant.taken c.in-Some.ensures.next

pub pairs-preserved : goal.pairs-preserved
pairs-preserved c =
    record {
      taken = one_before c.args.keyword c.args.self.now c.pairs.self _ c.give_pair.new.self c.args.text.now
          c.pairs.rest.now c.in-Some.pair.rest.now c.pairs.lines c.pairs.invariant.taken c.in-Some.ensures.next
          c.in-Ok.ensures.ok
          (pair_may c.args.keyword c.pairs.self c.give_pair.new.self c.in-Some.pair.row c.in-Some.pair.value c.in-Some.ensures.may c.in-Some.ensures.can c.in-Ok.ensures.ok);
      begun = ap (λ (h : Held). h.standing.begun) c.in-Ok.ensures.ok ∙ c.pairs.invariant.begun;
    }
