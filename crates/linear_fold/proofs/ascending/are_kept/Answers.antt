use Rattle.std.proofs.Common.{◌∙◌, sym}
use Rattle.linear_fold.proofs.Expressions.{term_at}
use Rattle.linear_fold.proofs.OrderLemmas.{kept_more}
use Rattle.linear_fold.proofs.ascending.are_kept.Goals as goal

pub loop-factor-preserved : goal.loop-factor-preserved
loop-factor-preserved c =
    kept_more c.args.terms.now c.loop-factor.factor-index c.loop-factor-item.result _
    (term_at c.args.terms.now c.loop-factor.factor-index c.loop-factor-item.result c.loop-factor-test.true c.loop-factor-item.is)
    (sym c.has_fraction.ensures ∙ c.if-not-has_fraction.false) c.loop-factor.invariant
