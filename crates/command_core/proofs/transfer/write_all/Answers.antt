use Rattle.std.proofs.Common.{rules}
use Rattle.command_core.proofs.Known.{Appends-further, OnlyOutput-then}
use Rattle.command_core.proofs.transfer.write_all.Goals as goal

pub loop-done-preserved : goal.loop-done-preserved
loop-done-preserved g c = record {
  within = search rules;
  bytes = Appends-further _ _ _ c.args.bytes.now _ _ c.loop-done.invariant.bytes c.in_ok-done.ensures.bytes;
  count = search rules;
  rest = OnlyOutput-then _ _ _ c.loop-done.invariant.rest c.in_ok-done.ensures.rest;
}
