use Rattle.std.proofs.Common.{◌≡◌, ◌∙◌, ap, pos, ◌+ℤ◌, subst, sym, to_z-of_z}
use mir.Syntax.{w128}
use mir.Val.{SFits, of_z, to_z}
use Rattle.certificate_judge.proofs.WholeDecimals.{whole_fits}
use Rattle.certificate_judge.proofs.sides.next.Goals as goal

pub returns : goal.returns
returns c =
    let back : to_z w128 (of_z w128 c.args.number) ≡ c.args.number = to_z-of_z c.ranges.number in
    to_z-of_z (subst (λ z. SFits w128 (z +ℤ pos 1)) (sym back) (whole_fits (c.args.number +ℤ pos 1) c.requires)) ∙ ap (λ z. z +ℤ pos 1) back
