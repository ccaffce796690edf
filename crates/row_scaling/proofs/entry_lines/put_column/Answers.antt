use Rattle.std.proofs.Common.{◌<◌, ◌∙◌, ◌++◌, All, ap, arith, rules, drop, length, sym, subst, take}
use Rattle.std.proofs.lemmas.List.Elements.{All-drop, All-take}
use Rattle.linear_program.specs.Decimals.{DecimalTerm as TermOf}
use Rattle.std.proofs.lemmas.Bool.{eqb-false, eqb-true}
use Rattle.exact_numbers.specs.Values.{value_text}
use Rattle.mps_model.specs.Text.{entry_lines}
use Rattle.text_base.specs.WordLines.{lines_text}
use Rattle.mps_writer.specs.Names.{name_bytes}
use Rattle.row_scaling.specs.InsideSections.{all_rows}
use Rattle.row_scaling.proofs.LineLemmas.{entries_end, no_entries_written, part_of_entries_written, some_entries}
use Rattle.row_scaling.proofs.entry_lines.put_column.Goals as goal

pub returns-then-is_empty : goal.returns-then-is_empty
returns-then-is_empty c = λ s numbers within.
    no_entries_written s (name_bytes c.args.column.now) c.args.entries.now c.zero.result c.args.out.now
    c.put_entry.new.out (eqb-true (length c.args.entries.now) 0 (sym c.is_empty.ensures ∙ c.if-is_empty.true))
    c.zero.ensures c.in_ok-put_entry.ensures

pub parts-preserved : goal.parts-preserved
parts-preserved c = record {
  within = search rules;
  text = λ s numbers within.
      let entries = c.args.entries.now in
      let i = c.parts.done in
      let n = c.min-size.result in
      let part = c.split_at-in-parts.ensures.front ∙ ap (take n) c.split_at.ensures.back in
      let inside : All (λ (t : TermOf). t.0 < length (all_rows s)) c.split_at-in-parts.result.0.now =
      subst (All (λ (t : TermOf). t.0 < length (all_rows s))) (sym part)
      (All-take (λ (t : TermOf). t.0 < length (all_rows s)) n (drop i entries)
      (All-drop (λ (t : TermOf). t.0 < length (all_rows s)) i entries within)) in
      part_of_entries_written s (name_bytes c.args.column.now) entries c.split_at-in-parts.result.0.now i n
      c.bytes.result.now c.parts.out c.put.new.out _ (c.parts.invariant.text s numbers within) part
      (c.bytes.ensures ∙ c.put_few.ensures s numbers inside) c.in_ok-put.ensures;
}

pub returns : goal.returns
returns c = λ s numbers within.
    entries_end s (name_bytes c.args.column.now) c.args.entries.now c.parts.done c.parts.out _ (omega (arith, c.parts-test.false)) (c.parts.invariant.text s numbers within)
    ∙ ap (λ es. c.args.out.now ++ lines_text (entry_lines value_text (all_rows s) (name_bytes c.args.column.now) es))
    (sym (some_entries c.args.entries.now (eqb-false (length c.args.entries.now) 0
    (sym c.is_empty.ensures ∙ c.if-is_empty.false))))
