use Rattle.std.proofs.Common.{◌≡◌, ◌+◌, ◌-◌, ◌≤◌, ◌++◌, ◌∙◌, length, arith, false, rules, subst}
use Rattle.row_scaling.specs.Parts.{column_count}
use Rattle.text_base.specs.WordLines.{lines_text}
use Rattle.row_scaling.specs.InsideSections.{lines_from}
use Rattle.row_scaling.proofs.LineLemmas.{part_columns}
use Rattle.linear_program.proofs.BucketLemmas.{part_later}
use Rattle.row_scaling.proofs.column_lines.put_parts.Goals as goal

pub parts-preserved : goal.parts-preserved
parts-preserved c = record {
  within = search rules;
  start = search rules;
  later = search rules;
  few = search rules;
  text = λ s h all.
      let first = c.parts.done in
      let m = c.part_end-end.result - c.parts.done in
      let columns = c.in_ok-columns.columns in
      let place = c.in_ok-place.place in
      let within : first + m ≤ length c.args.buckets = omega (arith, c.part_end-end.ensures.within, c.part_end-end.ensures.some, c.requires) in
      let part = part_later (λ c. c) first m c.args.buckets c.parts.buckets columns c.parts.invariant.later within c.in_ok-columns.ensures.part in
      let size = part.count in
      let mine = part_columns (λ c. c) s (column_count s) first m c.args.buckets columns part all (omega (arith, within, all.count)) in
      let end : first + length columns ≡ c.part_end-end.result = omega (arith, size, c.part_end-end.ensures.some) in
      subst (λ n. c.put_part.new.out ++ lines_text (lines_from s place.marked place.markers n)
      ≡ c.args.out.now ++ lines_text (lines_from s false 0 0)) end
      (c.in_ok-place.ensures.text s h mine ∙ c.parts.invariant.text s h all);
}

pub returns-clause-text : goal.returns-clause-text
returns-clause-text c = λ s h all.
    let end : c.parts.done ≡ length c.args.heads.now.kinds.items = omega (arith, c.parts-test.false, c.parts.invariant.within, c.len-total.ensures) in
    subst (λ n. c.parts.out ++ lines_text (lines_from s c.parts.place.marked c.parts.place.markers n) ≡ c.args.out.now ++ lines_text (lines_from s false 0 0)) end (c.parts.invariant.text s h all)
