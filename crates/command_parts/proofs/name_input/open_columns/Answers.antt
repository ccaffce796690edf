use Rattle.std.proofs.Common.{◌∙◌}
use Rattle.command_parts.specs.NameLists.{column_counts}
use Rattle.command_parts.proofs.NameLists.{columns_of, count_so}
use Rattle.command_parts.proofs.name_input.open_columns.Goals as goal

pub returns-clause-reads : goal.returns-clause-reads
returns-clause-reads g c =
    c.open_names.ensures.reads (column_counts c.args.nl.now) (columns_of c.args.nl.now c.counts-counts.result.now (c.counts-counts.ensures.value ∙ c.header.ensures.counts))

pub returns-clause-count : goal.returns-clause-count
returns-clause-count g c =
    count_so (column_counts c.args.nl.now) c.args.file _ _ _ _
    (c.open_names.ensures.reads (column_counts c.args.nl.now) (columns_of c.args.nl.now c.counts-counts.result.now (c.counts-counts.ensures.value ∙ c.header.ensures.counts)))
