use Rattle.std.proofs.Common.{◌≡◌, ◌++◌, map, take}
use Rattle.std.specs.Fmt.{signed_decimal}
use Rattle.text_base.specs.Cut.{ended_lines}
use Rattle.sol_files.proofs.write.put_options.Given as goal

abbrev pub invariant-loop-option : goal.invariant-loop-option
invariant-loop-option l = l.out.items ≡ l.initial.out.items ++ ended_lines (map signed_decimal (take l.option-index l.options))
