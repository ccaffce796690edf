use Rattle.std.proofs.Common.{◌≤◌, ℤ, List, length, subst, sym}
use Rattle.dual_return.proofs.SolutionLemmas.{options-few}
use Rattle.dual_return.proofs.parts.options_of.Goals as goal

pub same_options-requires : goal.same_options-requires
same_options-requires c = subst (λ (os : List ℤ). length os ≤ 9) (sym c.options.ensures.value)
    (options-few c.header-header.result.now.options c.header-header.result.now.counts c.counts-counts.ensures.ruled)
