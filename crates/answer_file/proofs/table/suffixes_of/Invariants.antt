use Rattle.std.proofs.Common.{◌≡◌, ◌++◌, map}
use Rattle.answer_file.specs.Suffixes.{with_objective}
use Rattle.answer_file.proofs.table.suffixes_of.Given as goal

abbrev pub invariant-loop-group : goal.invariant-loop-group
invariant-loop-group l = l.suffixes.items ++ map (with_objective l.objective) l.group-iterator.rest.items ≡ map (with_objective l.objective) l.fn.groups.items
