use Rattle.std.proofs.Common.{length, take, ◌-◌, ◌≡◌, ◌≤◌}
use Rattle.std.specs.Io.KnownBytes.{Appends}
use Rattle.text_base.specs.Desk.{OnlyOutput}
use Rattle.command_core.proofs.transfer.write_all.Given as goal

abbrev pub invariant-loop-done : goal.invariant-loop-done
invariant-loop-done g l = record {
  within : l.done ≤ length l.bytes;
  bytes : Appends (g.D.Desk.meaning l.initial.desk).written (g.D.Desk.meaning l.desk).written (take l.done l.bytes);
  count : (g.D.Desk.meaning l.desk).output_faults ≡ (g.D.Desk.meaning l.initial.desk).output_faults;
  rest : OnlyOutput (g.D.Desk.meaning l.initial.desk) (g.D.Desk.meaning l.desk);
}

abbrev pub decreases-loop-done : goal.decreases-loop-done
decreases-loop-done g l = length l.bytes - l.done
