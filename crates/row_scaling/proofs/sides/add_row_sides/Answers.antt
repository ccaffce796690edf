use Rattle.std.proofs.Common.{rules, length, arith}
use Rattle.std.proofs.lemmas.Grind.{common_steps}
use Rattle.row_scaling.specs.InsideSides.{right_side_of}
use Rattle.row_scaling.specs.Parts.{name_in}
use Rattle.row_scaling.proofs.AddLemmas.{entry_put, rhs_only}
use Rattle.row_scaling.proofs.AddLemmas.{entries_put}
use Rattle.row_scaling.proofs.sides.add_row_sides.Goals as goal

pub loop-row-preserved : goal.loop-row-preserved
loop-row-preserved c = record {
  only = rhs_only c.args.builder.now c.loop-row.builder c.add_right_side.new.builder c.loop-row.invariant.only c.in_ok-add_right_side.ensures.only;
  left = entry_put right_side_of (name_in (length c.args.scaled.now.rows)) c.program_rows-rows.result.now
      c.args.builder.now.rhs c.loop-row.builder.rhs c.add_right_side.new.builder.rhs c.loop-row.place c.loop-row.row-index
      c.row-item.result c.in-Some.factored _ c.loop-row.invariant.left (omega arith) c.row-item.is c.in-Some.is
      c.right_side-side.ensures c.in_ok-add_right_side.ensures.added;
}

pub add_right_side-requires-clause-within : goal.add_right_side-requires-clause-within
add_right_side-requires-clause-within c = grind (arith, common_steps)

pub loop-row-preserved-in_default : goal.loop-row-preserved-in_default
loop-row-preserved-in_default c = grind (arith, common_steps)

pub returns-clause-added : goal.returns-clause-added
returns-clause-added c = search (rules, entries_put)
