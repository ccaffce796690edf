use Rattle.std.proofs.Common.{◌≡◌, ◌++◌, map, take}
use Rattle.sol_files.specs.Written.{value_line}
use Rattle.text_base.specs.Cut.{ended_lines}
use Rattle.sol_files.proofs.write.put_pairs.Given as goal

abbrev pub invariant-loop-pair : goal.invariant-loop-pair
invariant-loop-pair l = l.out.items ≡ l.initial.out.items ++ ended_lines (map value_line (take l.pair-index l.values))
