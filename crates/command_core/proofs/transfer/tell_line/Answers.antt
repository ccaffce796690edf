use Rattle.std.proofs.Common.{rules}
use Rattle.command_core.proofs.Known.{Appends-further, OnlyMessages-then}
use Rattle.command_core.proofs.transfer.tell_line.Goals as goal

pub loop-done-preserved : goal.loop-done-preserved
loop-done-preserved g c = record {
  within = search rules;
  bytes = Appends-further _ _ _ c.args.line.now _ _ c.loop-done.invariant.bytes c.in-Ok.ensures.bytes;
  count = search rules;
  rest = OnlyMessages-then _ _ _ c.loop-done.invariant.rest c.in-Ok.ensures.rest;
}
