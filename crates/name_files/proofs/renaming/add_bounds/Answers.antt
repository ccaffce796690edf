use Rattle.std.proofs.Common.{sym, arith, map}
use Rattle.std.proofs.lemmas.List.{take-map}
use Rattle.mps_model.specs.Built.{bound_of}
use Rattle.name_files.proofs.BuildLemmas.{can_add_bound, at_mapped, within_mapped}
use Rattle.name_files.proofs.renaming.add_bounds.Goals as goal

pub add_bound-requires : goal.add_bound-requires
add_bound-requires c =
    can_add_bound (map bound_of c.args.bounds.now) c.loop-bound.bound-index (bound_of c.bound-item.result) c.loop-bound.builder (rw c.loop-bound.invariant c.requires.valid)
    (within_mapped bound_of c.args.bounds.now c.loop-bound.bound-index c.bound-item.result (omega arith)
    c.bound-item.is) (at_mapped bound_of c.args.bounds.now c.loop-bound.bound-index c.bound-item.result
    (omega arith) c.bound-item.is)
    (rw c.loop-bound.invariant (sym (take-map bound_of c.loop-bound.bound-index c.args.bounds.now)))
