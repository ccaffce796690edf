use Rattle.std.proofs.Common.{◌≡◌, ◌-◌, ◌∙◌, ◌++◌, ◌∷◌, [], ap, arith, drop, length}
use Rattle.exact_numbers.specs.Values.{text_of}
use Rattle.text_base.specs.WordLines.{indented, line_text, lines_text}
use Rattle.mps_writer.specs.Names.{name_bytes}
use Rattle.row_scaling.specs.InsideSections.{all_rows}
use Rattle.row_scaling.proofs.LineLemmas.{few_more, few_none, few_within, lines_of}
use Rattle.row_scaling.proofs.entry_lines.put_few.Goals as goal

pub entries-preserved : goal.entries-preserved
entries-preserved c = record {
  within = omega (arith, c.entries.invariant.within);
  text = λ s numbers within. few_more s (name_bytes c.args.column.now) c.args.entries.now c.entries.left
      (c.entries.left - 1) c.index-entries-left.result c.entries.lines c.put_entry.new.line c.entries-test.true
      c.entries.invariant.within (omega arith) c.index-entries-left.is (c.entries.invariant.text s numbers within)
      (c.put_entry.ensures.text
      ∙ ap (λ n. line_text (indented (name_bytes c.args.column.now ∷ n ∷ text_of c.index-entries-left.result.1 ∷ [])) ++ c.entries.lines)
      (c.name_of_row-row.ensures.text s numbers (few_within (length (all_rows s)) c.args.entries.now
      (c.entries.left - 1) c.index-entries-left.result within
      (omega (arith, c.entries-test.true, c.entries.invariant.within)) c.index-entries-left.is)));
  size = omega (arith, c.put_entry.ensures.short, c.name_of_row-row.ensures.short, c.requires.short, c.entries.invariant.size, c.entries.invariant.within, c.entries-test.true);
}

pub entries-init : goal.entries-init
entries-init c = record {
  within = omega arith;
  text = λ s numbers within. c.clear.ensures ∙ few_none s (name_bytes c.args.column.now) c.args.entries.now;
  size = omega (arith, ap length c.clear.ensures);
}

pub returns : goal.returns
returns c = λ s numbers within. c.entries.invariant.text s numbers within
    ∙ ap (λ k. lines_text (lines_of s (name_bytes c.args.column.now) (drop k c.args.entries.now)))
    (let e : c.entries.left ≡ 0 = omega (arith, c.entries-test.false) in e)
