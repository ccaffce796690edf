use Rattle.std.proofs.Common.{◌∙◌, ap, arith, length}
use Rattle.std.proofs.lemmas.List.{length-map}
use Rattle.scaled_program.specs.ExportedProgram.{mps_row}
use Rattle.row_scaling.specs.Exported.{program_rows}
use Rattle.row_scaling.proofs.AddLemmas.{complete, whole_program}
use Rattle.row_scaling.proofs.export.program.Goals as goal

pub add_columns-requires-clause-rows : goal.add_columns-requires-clause-rows
add_columns-requires-clause-rows c = omega (arith, ap (λ m. length m.rows) c.in_ok-add_rows.ensures, length-map (program_rows c.args.scaled.now) mps_row)

pub add_sides-requires-clause-within : goal.add_sides-requires-clause-within
add_sides-requires-clause-within c = omega (
  arith,
  ap (λ m. length m.rows) c.in_ok-add_columns.ensures.only,
  ap (λ m. length m.rows) c.in_ok-add_rows.ensures,
  length-map (program_rows c.args.scaled.now) mps_row,
)

pub finish-requires : goal.finish-requires
finish-requires c =
    complete c.args.scaled.now c.add_bounds.new.builder c.add_columns.new.builder.columns
    (ap (λ m. m.rows) c.in_ok-add_bounds.ensures.only ∙ ap (λ m. m.rows) c.in_ok-add_ranges.ensures.only
    ∙ ap (λ m. m.rows) c.in_ok-add_sides.ensures.only ∙ ap (λ m. m.rows) c.in_ok-add_columns.ensures.only
    ∙ ap (λ m. m.rows) c.in_ok-add_rows.ensures)
    (ap (λ m. m.columns) c.in_ok-add_bounds.ensures.only ∙ ap (λ m. m.columns) c.in_ok-add_ranges.ensures.only ∙ ap (λ m. m.columns) c.in_ok-add_sides.ensures.only) c.in_ok-add_columns.ensures.whole

pub returns : goal.returns
returns c = grind (arith, complete, whole_program)
