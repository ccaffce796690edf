use Rattle.std.proofs.Common.{◌∙◌, ap, refl, map}
use Rattle.mps_model.specs.Built.{entry_of}
use Rattle.name_files.proofs.BuildLemmas.{can_add_column, can_add_entries}
use Rattle.name_files.proofs.renaming.add_column.Goals as goal

pub add_column-requires-clause-column : goal.add_column-requires-clause-column
add_column-requires-clause-column c =
    can_add_column _ c.args.builder.now.columns (record c.args.column.now { name = c.args.name }) c.requires c.args.builder.now refl

pub add_column-requires-clause-entries : goal.add_column-requires-clause-entries
add_column-requires-clause-entries c =
    can_add_entries _ c.args.builder.now.columns (record c.args.column.now { name = c.args.name }) c.requires c.args.builder.now refl refl
    c.in_ok-entries.entries.items (ap (map entry_of) c.in_ok-entries.ensures.items ∙ c.entries.ensures)
