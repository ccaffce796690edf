use Rattle.std.proofs.Common.{◌∙◌, sym, ap, ap₂, arith, true, false, length}
use Rattle.nl_model.specs.HeaderRules.{is_header}
use Rattle.mps_import.specs.Import.{counts_with, import_options}
use Rattle.std.specs.List.{count_by}
use Rattle.mps_import.specs.InsideParts.{side_test}
use Rattle.mps_import.proofs.PartLemmas.{few_constraints, few_columns, sides_count, counts_are, header_there}
use Rattle.mps_program.proofs.PlaceLemmas.{not_both_ways}
use Rattle.mps_import.proofs.build.header_of.Goals as goal

pub counts_of-counts-requires-clause-sides : goal.counts_of-counts-requires-clause-sides
counts_of-counts-requires-clause-sides c = omega (arith, ap length c.deref.ensures.value, sides_count c.args.mps.now c.args.parts.now c.requires, few_constraints c.args.mps.now c.requires.clean)

pub counts_of-counts-requires-clause-variables : goal.counts_of-counts-requires-clause-variables
counts_of-counts-requires-clause-variables c = omega (arith, ap length c.columns-variables.ensures.value, few_columns c.args.mps.now c.requires.clean)

pub unreachable-requires : goal.unreachable-requires
unreachable-requires c = not_both_ways (is_header import_options c.counts_of-counts.result)
    (ap (is_header import_options) (c.counts_of-counts.ensures
    ∙ ap₂ (λ cs ss. counts_with (length cs) (length ss) (count_by (side_test false) ss) (count_by (side_test true) ss)
    c.args.parts.now.variables.binary c.args.parts.now.variables.integer c.args.parts.now.count.constraints
    c.args.parts.now.count.objective) c.columns-variables.ensures.value c.deref.ensures.value)
    ∙ header_there c.args.mps.now c.args.parts.now c.requires)
    (ap (λ o. is_header o c.counts_of-counts.result) (sym c.usual_options.ensures) ∙ c.in-None.ensures)

pub returns-clause-counts : goal.returns-clause-counts
returns-clause-counts c = c.in-Some.ensures.1 ∙ c.counts_of-counts.ensures
    ∙ ap₂ (λ cs ss. counts_with (length cs) (length ss) (count_by (side_test false) ss) (count_by (side_test true) ss)
    c.args.parts.now.variables.binary c.args.parts.now.variables.integer c.args.parts.now.count.constraints
    c.args.parts.now.count.objective) c.columns-variables.ensures.value c.deref.ensures.value
    ∙ counts_are c.args.mps.now c.args.parts.now c.requires
