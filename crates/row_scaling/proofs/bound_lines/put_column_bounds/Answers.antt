use Rattle.std.proofs.Common.{◌∙◌, ◌++◌, ap, map}
use Rattle.scaled_program.specs.ExportedProgram.{column_bounds}
use Rattle.row_scaling.specs.Rows.{side_value}
use Rattle.text_base.specs.WordLines.{lines_text}
use Rattle.row_scaling.specs.InsideSections.{named_bound}
use Rattle.mps_writer.specs.Names.{name_bytes}
use Rattle.row_scaling.proofs.LineLemmas.{bounds_written}
use Rattle.row_scaling.proofs.bound_lines.put_column_bounds.Goals as goal

pub returns : goal.returns
returns c =
    bounds_written (name_bytes c.column_name-name.result) c.args.side c.side_bounds-bounds.result.0
    c.side_bounds-bounds.result.1 c.args.j c.put_second.new.line c.put_bound.new.line c.args.out.now c.put.new.out
    c.side_bounds-bounds.ensures c.put_second.ensures.text c.put_bound.ensures.text (c.in_ok-put.ensures ∙ ap (λ t. c.args.out.now ++ t) c.bytes.ensures)
    ∙ ap (λ name. c.args.out.now ++ lines_text (map (named_bound name) (column_bounds c.args.j (side_value c.args.side.lo) (side_value c.args.side.hi)))) c.column_name-name.ensures.text
