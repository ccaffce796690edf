use Rattle.std.proofs.Common.{◌≡◌, ◌++◌, take}
use Rattle.std.specs.List.{flat_map}
use Rattle.text_base.specs.WordLines.{lines_text}
use Rattle.nl_writer.specs.Written.{suffix_piece}
use Rattle.nl_writer.proofs.pieces.put_suffixes.Given as goal

abbrev pub invariant-loop-suffix : goal.invariant-loop-suffix
invariant-loop-suffix l = l.out.items ≡ l.initial.out.items ++ lines_text (flat_map suffix_piece (take l.suffix-index l.suffixes))
