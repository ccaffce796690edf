use Rattle.std.proofs.Common.{◌≡◌, ◌++◌, map, take}
use Rattle.exact_numbers.specs.Values.{text_of}
use Rattle.text_base.specs.WordLines.{lines_text}
use Rattle.mps_model.specs.Text.{entry_lines}
use Rattle.mps_model.specs.Built.{entry_of}
use Rattle.mps_writer.proofs.entries.put_entries.Given as goal

abbrev pub invariant-loop-entry : goal.invariant-loop-entry
invariant-loop-entry l = l.out.items ≡ l.initial.out.items ++ lines_text (entry_lines text_of l._rows l.word (map entry_of (take l.entry-index l.entries)))
