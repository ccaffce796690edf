use Rattle.std.proofs.Common.{◌∷◌, [], ◌++◌, ◌∙◌, ap}
use Rattle.row_scaling.proofs.TieLemmas.{is_column}
use Rattle.row_scaling.proofs.tied.column.Goals as goal

pub returns : goal.returns
returns c =
    let terms = c.in_ok-push.ensures.ok ∙ ap (λ ts. ts ++ (c.args.z, c.one.result) ∷ []) c.new-terms.ensures in
    is_column c.args.z c.one.result c.zero.result _ c.one.ensures c.zero.ensures (ap (λ ts. record { constant = c.zero.result; terms = ts }) terms)
