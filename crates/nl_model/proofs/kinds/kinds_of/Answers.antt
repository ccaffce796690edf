use Rattle.std.proofs.Common.{◌∙◌, ap}
use Rattle.nl_model.specs.HeaderWords.{header_counts}
use Rattle.nl_model.specs.InsideKinds.{kind_among}
use Rattle.nl_model.proofs.KindRuns.{kind_by_runs}
use Rattle.nl_model.proofs.kinds.kinds_of.Goals as goal

pub returns : goal.returns
returns c = kind_by_runs c.counts.result.now (header_counts c.args.header.now) c.args.var c.kind_at.result
    c.counts.ensures.value (c.kind_at.ensures ∙ ap (λ rs. kind_among rs c.args.var) c.runs_of.ensures)
