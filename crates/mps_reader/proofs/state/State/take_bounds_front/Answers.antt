use Rattle.std.proofs.Common.{◌∙◌, ap}
use Rattle.mps_reader.specs.InsideHeld.{Held}
use Rattle.mps_words.specs.declared.keyword.Keyword.TheVariants.{Bounds}
use Rattle.mps_reader.proofs.FrontEntries.{less, one_before}
use Rattle.mps_reader.proofs.state.State.take_bounds_front.Goals as goal

pub bounds-smaller : goal.bounds-smaller
bounds-smaller c =
    less Bounds c.args.self.now c.bounds.self _ c.add_bound.new.self c.args.text.now c.bounds.rest.now c.in-Some.bound.rest.now c.bounds.lines c.bounds.invariant.taken c.in-Some.ensures.next

pub bounds-preserved : goal.bounds-preserved
bounds-preserved c =
    record {
      taken = one_before Bounds c.args.self.now c.bounds.self _ c.add_bound.new.self c.args.text.now c.bounds.rest.now
          c.in-Some.bound.rest.now c.bounds.lines c.bounds.invariant.taken c.in-Some.ensures.next c.in-Ok.ensures.bound
          c.in-Ok.ensures.kept;
      begun = ap (λ (h : Held). h.standing.begun) c.in-Ok.ensures.bound ∙ c.bounds.invariant.begun;
    }
