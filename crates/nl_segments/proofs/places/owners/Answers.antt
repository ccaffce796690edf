use Rattle.std.proofs.Common.{◌∙◌, ◌++◌, ◌∷◌, [], ap}
use Rattle.std.proofs.lemmas.List.{replicate_more}
use Rattle.nl_lines.specs.Saying.{no_lines}
use Rattle.nl_segments.proofs.places.owners.Goals as goal

pub filled-preserved : goal.filled-preserved
filled-preserved c = c.in_ok-push.ensures.items ∙ ap (λ x. c.filled.all.items ++ x ∷ []) c.new.ensures ∙ ap (λ xs. xs ++ no_lines ∷ []) c.filled.invariant ∙ replicate_more c.filled.counter no_lines
