use Rattle.std.proofs.Common.{◌∷◌, [], subst, sym}
use Rattle.nl_lines.specs.declared.head.Head.TheVariants.{Slopes, Terms}
use Rattle.nl_lines.specs.HeadRows.{IsHeadRow}
use Rattle.nl_lines.proofs.HeadRows.{slopes_row, terms_row}
use Rattle.nl_lines.proofs.front_heads.head_of.Goals as goal

pub returns-in-74 : goal.returns-in-74
returns-in-74 c = λ first second p q.
    subst (λ k. IsHeadRow ((k ∷ first) ∷ second ∷ []) (Terms c.args.index c.args.count)) (sym c.in-74.is) (terms_row first second c.args.index c.args.count p q)

pub returns-in-71 : goal.returns-in-71
returns-in-71 c = λ first second p q.
    subst (λ k. IsHeadRow ((k ∷ first) ∷ second ∷ []) (Slopes c.args.index c.args.count)) (sym c.in-71.is) (slopes_row first second c.args.index c.args.count p q)
