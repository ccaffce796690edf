use Rattle.std.proofs.Common.{length, take, ◌-◌, ◌≡◌, ◌≤◌}
use Rattle.std.specs.Io.KnownBytes.{Appends}
use Rattle.text_base.specs.Desk.{OnlyMessages}
use Rattle.command_core.proofs.transfer.tell_line.Given as goal

abbrev pub invariant-loop-done : goal.invariant-loop-done
invariant-loop-done g l = record {
  within : l.done ≤ length l.line;
  bytes : Appends (g.D.Desk.meaning l.initial.desk).told (g.D.Desk.meaning l.desk).told (take l.done l.line);
  count : (g.D.Desk.meaning l.desk).message_faults ≡ (g.D.Desk.meaning l.initial.desk).message_faults;
  rest : OnlyMessages (g.D.Desk.meaning l.initial.desk) (g.D.Desk.meaning l.desk);
}

abbrev pub decreases-loop-done : goal.decreases-loop-done
decreases-loop-done g l = length l.line - l.done
