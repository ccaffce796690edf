use Rattle.std.proofs.Common.{◌∙◌, ◌++◌, ◌∷◌, [], ap, None}
use Rattle.std.proofs.lemmas.List.{replicate_more}
use Rattle.linear_fold.proofs.definitions.empty_slots.Goals as goal

pub filled-preserved : goal.filled-preserved
filled-preserved c = c.in_ok-push.ensures.items ∙ ap (λ xs. xs ++ None ∷ []) c.filled.invariant ∙ replicate_more c.filled.counter None
