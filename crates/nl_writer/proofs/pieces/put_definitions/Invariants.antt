use Rattle.std.proofs.Common.{◌≡◌, ◌++◌, take}
use Rattle.std.specs.List.{flat_map}
use Rattle.text_base.specs.WordLines.{lines_text}
use Rattle.nl_writer.specs.Written.{definition_piece}
use Rattle.nl_writer.proofs.pieces.put_definitions.Given as goal

abbrev pub invariant-loop-definition : goal.invariant-loop-definition
invariant-loop-definition l = l.out.items ≡ l.initial.out.items ++ lines_text (flat_map definition_piece (take l.definition-index l.definitions))
