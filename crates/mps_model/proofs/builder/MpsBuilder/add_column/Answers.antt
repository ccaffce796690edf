use Rattle.std.proofs.Common.{arith}
use Rattle.std.proofs.lemmas.List.{length-map}
use Rattle.mps_model.specs.Built.{entry_of}
use Rattle.mps_model.proofs.Adding.{entries_added}
use Rattle.mps_model.proofs.builder.MpsBuilder.add_column.Goals as goal

pub invariant_of-self-2 : goal.invariant_of-self-2
invariant_of-self-2 c =
    rw (c.in_ok-push.ensures.items, c.of-column.ensures)
    (entries_added _ _ _ _ _ c.self.invariant c.self.view_is c.requires.column
    (omega (arith, c.requires.entries.few, length-map c.args.entries.items entry_of)) c.requires.entries.rows
    c.bytes-bytes.ensures.name)
