use Rattle.std.proofs.Common.{refl}
use Rattle.name_files.specs.Renamed.{with_names}
use Rattle.name_files.proofs.ValidLemmas.{parts_named, complete_named}
use Rattle.name_files.proofs.renaming.rename.Goals as goal

pub add_rows-requires-clause-valid : goal.add_rows-requires-clause-valid
add_rows-requires-clause-valid c = rw c.rows.ensures.value (parts_named c.args.mps.now c.args.rows.now
    c.args.columns.now c.len-row_names.ensures.valid c.len-column_names.ensures.valid c.requires
    c.rows.ensures.valid.part).rows

pub add_columns-requires-clause-valid : goal.add_columns-requires-clause-valid
add_columns-requires-clause-valid c =
    rw (c.in_ok-add_rows.ensures, c.rows.ensures.value, c.columns.ensures.value)
    (parts_named c.args.mps.now c.args.rows.now c.args.columns.now c.len-row_names.ensures.valid c.len-column_names.ensures.valid c.requires c.rows.ensures.valid.part).columns

pub add_rhs-requires-clause-valid : goal.add_rhs-requires-clause-valid
add_rhs-requires-clause-valid c =
    rw (c.in_ok-add_columns.ensures, c.in_ok-add_rows.ensures, c.rows.ensures.value, c.rhs.ensures.value)
    (parts_named c.args.mps.now c.args.rows.now c.args.columns.now c.len-row_names.ensures.valid c.len-column_names.ensures.valid c.requires c.rows.ensures.valid.part).rhs

pub add_ranges-requires-clause-valid : goal.add_ranges-requires-clause-valid
add_ranges-requires-clause-valid c =
    rw (c.in_ok-add_rhs.ensures, c.in_ok-add_columns.ensures, c.in_ok-add_rows.ensures, c.rows.ensures.value, c.ranges-2.ensures.value)
    (parts_named c.args.mps.now c.args.rows.now c.args.columns.now c.len-row_names.ensures.valid c.len-column_names.ensures.valid c.requires c.rows.ensures.valid.part).ranges

pub add_bounds-requires-clause-valid : goal.add_bounds-requires-clause-valid
add_bounds-requires-clause-valid c =
    rw (c.in_ok-add_ranges.ensures, c.in_ok-add_rhs.ensures, c.in_ok-add_columns.ensures, c.columns.ensures.value, c.bounds.ensures.value)
    (parts_named c.args.mps.now c.args.rows.now c.args.columns.now c.len-row_names.ensures.valid c.len-column_names.ensures.valid c.requires c.rows.ensures.valid.part).bounds

pub finish-requires : goal.finish-requires
unfolding with_names
finish-requires c =
    rw (
      c.in_ok-add_bounds.ensures,
      c.in_ok-add_ranges.ensures,
      c.in_ok-add_rhs.ensures,
      c.in_ok-add_columns.ensures,
      c.in_ok-add_rows.ensures,
      c.new-builder.ensures,
      c.in_ok-own_name.ensures,
      c.maximise.ensures,
      c.rows.ensures.value,
      c.columns.ensures.value,
      c.rhs.ensures.value,
      c.ranges-2.ensures.value,
      c.bounds.ensures.value,
    )
    (complete_named c.args.mps.now c.args.rows.now c.args.columns.now c.rows.ensures.valid.complete)

pub returns : goal.returns
unfolding with_names
returns c =
    rw (
      c.finish.ensures,
      c.in_ok-add_bounds.ensures,
      c.in_ok-add_ranges.ensures,
      c.in_ok-add_rhs.ensures,
      c.in_ok-add_columns.ensures,
      c.in_ok-add_rows.ensures,
      c.new-builder.ensures,
      c.in_ok-own_name.ensures,
      c.maximise.ensures,
      c.rows.ensures.value,
      c.columns.ensures.value,
      c.rhs.ensures.value,
      c.ranges-2.ensures.value,
      c.bounds.ensures.value,
    )
    refl
