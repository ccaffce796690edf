use Rattle.std.proofs.Common.{◌≡◌, ◌*◌, ◌^◌, ◌≤◌, ◌++◌, drop}
use Rattle.text_base.specs.WordLines.{lines_text}
use Rattle.nl_writer.specs.InsideUses.{sum_lines}
use Rattle.nl_writer.proofs.columns.put_sums.Given as goal

abbrev pub invariant-loop-count : goal.invariant-loop-count
invariant-loop-count l = record {
  few : l.total ≤ l.count-index * 2 ^ 32;
  text : l.out.items ++ lines_text (sum_lines l.total (drop l.count-index l.uses))
      ≡ l.initial.out.items ++ lines_text (sum_lines 0 l.uses);
}
