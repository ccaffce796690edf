use Rattle.std.proofs.Common.{◌≡◌, ◌++◌, map, take}
use Rattle.text_base.specs.Cut.{ended_lines}
use Rattle.exact_numbers.specs.Values.{text_of}
use Rattle.sol_files.proofs.write.put_decs.Given as goal

abbrev pub invariant-loop-value : goal.invariant-loop-value
invariant-loop-value l = l.out.items ≡ l.initial.out.items ++ ended_lines (map text_of (take l.value-index l.values))
