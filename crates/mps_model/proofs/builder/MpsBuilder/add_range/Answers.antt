use Rattle.std.proofs.lemmas.List.{map-append}
use Rattle.mps_model.proofs.Adding.{range_added}
use Rattle.mps_model.proofs.builder.MpsBuilder.add_range.Goals as goal

pub invariant_of-self-2 : goal.invariant_of-self-2
invariant_of-self-2 c = rw (c.in_ok-push.ensures.items, map-append) (range_added _ _ _ _ c.self.invariant c.self.view_is c.requires)
