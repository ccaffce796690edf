use Rattle.std.proofs.Common.{◌∙◌, ap₂}
use Rattle.nl_model.specs.Draft.{empty_draft}
use Rattle.mps_import.specs.Import.{objective_constant}
use Rattle.mps_import.proofs.FileLemmas.{one_objective, none_given, begun_is}
use Rattle.mps_import.proofs.PartLemmas.{number_is}
use Rattle.mps_import.proofs.build.begin.Goals as goal

pub objective-requires-clause-k : goal.objective-requires-clause-k
objective-requires-clause-k c = one_objective c.args.mps.now c.in_ok-builder.builder (c.in_ok-builder.ensures ∙ ap₂ empty_draft c.header_of-header.ensures.options c.header_of-header.ensures.counts)

pub objective-requires-clause-fresh : goal.objective-requires-clause-fresh
objective-requires-clause-fresh c = none_given c.args.mps.now c.in_ok-builder.builder (c.in_ok-builder.ensures ∙ ap₂ empty_draft c.header_of-header.ensures.options c.header_of-header.ensures.counts)

pub returns : goal.returns
returns c = begun_is c.args.mps.now c.in_ok-builder.builder
    (c.in_ok-builder.ensures ∙ ap₂ empty_draft c.header_of-header.ensures.options c.header_of-header.ensures.counts)
    c.objective.new.self c.maximise.result c.in_ok-tree.tree c.objective.ensures c.maximise.ensures
    (c.in_ok-tree.ensures ∙ number_is c.constant_of-constant.result (objective_constant c.args.mps.now)
    c.constant_of-constant.ensures)
