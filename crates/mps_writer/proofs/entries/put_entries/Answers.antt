use Rattle.std.proofs.Common.{arith}
use Rattle.mps_writer.proofs.Writing.{entry_written, found_short}
use Rattle.mps_writer.proofs.entries.put_entries.Goals as goal

pub loop-entry-preserved : goal.loop-entry-preserved
loop-entry-preserved c =
    entry_written c.args._rows.now c.args.names.now c.args.word.now c.get-row.result.now c.args.entries.now c.loop-entry.entry-index c.entry-item.result
    c.args.out.now.items c.loop-entry.out.items c.append_entry.new.out.items (omega arith) c.entry-item.is c.requires.named c.get-row.ensures c.loop-entry.invariant c.in_ok-append_entry.ensures

pub append_entry-requires-clause-row : goal.append_entry-requires-clause-row
append_entry-requires-clause-row c = found_short c.args._rows.now c.args.names.now c.get-row.result.now c.entry-item.result.0 c.requires.rows c.requires.named c.get-row.ensures
