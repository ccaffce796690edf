use Rattle.std.proofs.Common.{◌≡◌, ◌+◌, ◌<◌, ◌∙◌, ◌++◌, [], ap, arith, map, subst}
use Rattle.text_base.specs.WordLines.{lines_text}
use Rattle.mps_writer.proofs.Writing.{markers_more}
use Rattle.linear_program.specs.Names.{row_name}
use Rattle.row_scaling.specs.Parts.{column_count}
use Rattle.row_scaling.specs.InsideColumns.{entries_in_column, entry_value}
use Rattle.row_scaling.specs.InsideSections.{lines_from}
use Rattle.row_scaling.proofs.LineLemmas.{entries_within, part_written}
use Rattle.row_scaling.proofs.column_lines.put_part.Goals as goal

pub loop-k-preserved : goal.loop-k-preserved
loop-k-preserved c =
    let k = c.loop-k.k in
    let next : c.args.first + k + 1 ≡ c.args.first + (k + 1) = omega arith in
    record {
      few = omega (arith, c.in_ok-markers.ensures.0, markers_more c.loop-k.marked c.is_marked-now.result c.loop-k.markers, c.loop-k.invariant.few);
      text = λ s h columns.
          let terms : map entry_value c.list.result.now ≡ entries_in_column s (c.args.first + k) = ap (map entry_value) c.list.ensures ∙ columns.terms k [] (omega arith) in
          let inside : c.args.first + k < column_count s = omega (arith, c.requires.within, h.count) in
          subst (λ m. c.put_column.new.out ++ lines_text (lines_from s c.is_marked-now.result c.in_ok-markers.markers m)
          ≡ c.args.out.now ++ lines_text (lines_from s c.args.from.marked c.args.from.markers c.args.first)) next
          (part_written s h.scaled (c.args.first + k) c.loop-k.marked c.is_marked-now.result c.loop-k.markers
          c.in_ok-markers.markers c.loop-k.out c.put_change.new.out c.put_column.new.out _ c.bytes.result.now
          c.list.result.now
          inside (c.loop-k.invariant.text s h columns) (c.is_marked-now.ensures s h) (c.bytes.ensures ∙ c.put_column_name.ensures.text s h) terms c.in_ok-markers.ensures.0 c.in_ok-markers.ensures.1
          (c.in_ok-put_column.ensures s (ap (map row_name) c.deref.ensures.value ∙ h.numbers) (entries_within s (c.args.first + k) c.list.result.now terms)));
    }
