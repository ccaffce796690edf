use Rattle.std.proofs.Common.{◌≡◌, ◌*◌}
use Rattle.bridge_tool.specs.Draws.{state_after}
use Rattle.bridge_tool.specs.InsideMaking.{drafted}
use Rattle.bridge_tool.proofs.instance.make_instance.Given as goal

abbrev pub invariant-loop-k : goal.invariant-loop-k
invariant-loop-k l = record {
  draft : l.builder ≡ drafted l.initial.seed l.initial.size l.k;
  state : l.draws.state ≡ state_after l.initial.seed (5 * l.k);
}
