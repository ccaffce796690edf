use Rattle.std.proofs.Common.{◌≡◌, ◌∷◌, [], ◌++◌, ◌∙◌, ap, None, Some}
use Rattle.row_scaling.proofs.TieLemmas.{is_tie_row}
use Rattle.row_scaling.proofs.tied.tie_row.Goals as goal

pub returns : goal.returns
returns c =
    let terms : c.push.new.self ≡ c.args.coefficients.now ++ (c.args.z, c.args.tie.weight) ∷ [] =
    c.in_ok-push.ensures.ok ∙ ap (λ ts. ts ++ (c.args.z, c.args.tie.weight) ∷ []) c.in_ok-terms.ensures in
    is_tie_row (record { constant = c.args.constant; terms = c.args.coefficients.now }) c.args.tie c.args.z c.neg-lo.result _ c.requires.sparse c.requires.below c.requires.tie c.neg-lo.ensures
    (c.in_ok-row.ensures ∙ ap (λ ts. record { terms = ts; side = record { lo = Some c.neg-lo.result; hi = Some c.neg-lo.result }; range = None }) terms)
