use Rattle.std.proofs.Common.{rules, ◌∙◌, length, ap, arith}
use Rattle.std.proofs.lemmas.Grind.{common_steps}
use Rattle.row_scaling.specs.Rows.{side_value}
use Rattle.row_scaling.specs.InsideSides.{range_in}
use Rattle.row_scaling.specs.Parts.{name_in}
use Rattle.row_scaling.proofs.AddLemmas.{entry_put, ranges_only}
use Rattle.row_scaling.proofs.AddLemmas.{there_is_place}
use Rattle.row_scaling.proofs.AddLemmas.{entries_put}
use Rattle.row_scaling.proofs.AddLemmas.{rows_bounded}
use Rattle.row_scaling.proofs.sides.add_ranges.Goals as goal

pub loop-row-preserved : goal.loop-row-preserved
loop-row-preserved c = record {
  only = ranges_only c.args.builder.now c.loop-row.builder c.add_range.new.builder c.loop-row.invariant.only c.in_ok-add_range.ensures.only;
  left = entry_put range_in (name_in (length c.args.scaled.now.rows)) c.program_rows-rows.result.now
      c.args.builder.now.ranges c.loop-row.builder.ranges c.add_range.new.builder.ranges c.loop-row.place
      c.loop-row.row-index c.row-item.result c.in-Some.factored _ c.loop-row.invariant.left (omega arith) c.row-item.is
      c.in-Some.is
      (ap side_value c.range-range.ensures.value ∙ c.range-range.ensures.row.range) c.in_ok-add_range.ensures.added;
}

pub add_range-requires-clause-bounded : goal.add_range-requires-clause-bounded
add_range-requires-clause-bounded c = search (rules, there_is_place, entries_put, rows_bounded)

pub add_range-requires-clause-within : goal.add_range-requires-clause-within
add_range-requires-clause-within c = grind (arith, common_steps)

pub loop-row-preserved-in_default : goal.loop-row-preserved-in_default
loop-row-preserved-in_default c = grind (arith, common_steps)

pub returns-clause-value : goal.returns-clause-value
returns-clause-value c = search (rules, there_is_place, entries_put, rows_bounded)
