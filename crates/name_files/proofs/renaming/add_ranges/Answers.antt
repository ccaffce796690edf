use Rattle.std.proofs.Common.{sym, arith, map}
use Rattle.std.proofs.lemmas.List.{take-map}
use Rattle.mps_model.specs.Built.{entry_of}
use Rattle.name_files.proofs.BuildLemmas.{can_add_range, at_mapped, within_mapped}
use Rattle.name_files.proofs.renaming.add_ranges.Goals as goal

pub add_range-requires : goal.add_range-requires
add_range-requires c =
    can_add_range (map entry_of c.args.ranges.now) c.loop-entry.entry-index (entry_of c.entry-item.result) c.loop-entry.builder (rw c.loop-entry.invariant c.requires.valid)
    (within_mapped entry_of c.args.ranges.now c.loop-entry.entry-index c.entry-item.result (omega arith)
    c.entry-item.is) (at_mapped entry_of c.args.ranges.now c.loop-entry.entry-index c.entry-item.result
    (omega arith) c.entry-item.is)
    (rw c.loop-entry.invariant (sym (take-map entry_of c.loop-entry.entry-index c.args.ranges.now)))
