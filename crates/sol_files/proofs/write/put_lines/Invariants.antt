use Rattle.std.proofs.Common.{◌≡◌, ◌++◌, take}
use Rattle.text_base.specs.Cut.{ended_lines}
use Rattle.sol_files.proofs.write.put_lines.Given as goal

abbrev pub invariant-loop-i : goal.invariant-loop-i
invariant-loop-i l = l.out.items ≡ l.initial.out.items ++ ended_lines (take l.i l.lines)
