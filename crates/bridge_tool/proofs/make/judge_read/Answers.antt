use Rattle.std.proofs.Common.{◌∙◌, ap}
use Rattle.nl_segments.specs.Reader.{value_of}
use Rattle.bridge_tool.proofs.Making.{summed_up}
use Rattle.bridge_tool.proofs.make.judge_read.Goals as goal

pub returns-clause-comes : goal.returns-clause-comes
returns-clause-comes g c =
    summed_up (value_of c.args.read) _ _ _ _ _ c.in_ok-linear.ensures.folds c.in_ok-scaled.ensures
    (ap (λ k. k.n_var) (c.counts.ensures.value ∙ c.header.ensures.counts)) c.exported_count-rows.ensures
    c.in_ok-out.ensures
