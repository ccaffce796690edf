use Rattle.std.proofs.Common.{◌≡◌, ◌++◌, take}
use Rattle.std.specs.List.{flat_map}
use Rattle.sol_files.specs.Written.{suffix_lines}
use Rattle.text_base.specs.Cut.{ended_lines}
use Rattle.sol_files.proofs.write.put_suffixes.Given as goal

abbrev pub invariant-loop-suffix : goal.invariant-loop-suffix
invariant-loop-suffix l = l.out.items ≡ l.initial.out.items ++ ended_lines (flat_map suffix_lines (take l.suffix-index l.suffixes))
