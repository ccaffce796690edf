use Rattle.mps_model.proofs.Adding.{row_added}
use Rattle.mps_model.proofs.builder.MpsBuilder.add_row.Goals as goal

pub invariant_of-self-2 : goal.invariant_of-self-2
invariant_of-self-2 c = rw c.in_ok-push.ensures.items (row_added _ _ _ _ c.self.invariant c.self.view_is c.requires c.bytes-bytes.ensures.name)
