use Rattle.std.proofs.Common.{◌≡◌, ◌∙◌, ap, subst, sym, pos, to_z-of_z}
use mir.Syntax.{w128}
use mir.Val.{to_z, of_z}
use Rattle.exact_numbers.specs.Rational.{decimal_value}
use Rattle.exact_numbers.specs.Values.{FitsDec}
use Rattle.exact_numbers.proofs.Signs.{decimal_whole}
use Rattle.certificate_judge.proofs.WholeDecimals.{signed_decimal, whole_fits}
use Rattle.certificate_judge.proofs.sides.whole_dec.Goals as goal

pub unreachable-requires : goal.unreachable-requires
unreachable-requires c =
    let back : to_z w128 (of_z w128 c.args.number) ≡ c.args.number = to_z-of_z (whole_fits c.args.number c.requires) in
    c.in-None.ensures (subst FitsDec (sym (ap (λ z. decimal_value z (pos 0)) back ∙ decimal_whole c.args.number)) (signed_decimal c.args.number c.requires))

pub returns : goal.returns
returns c =
    let back : to_z w128 (of_z w128 c.args.number) ≡ c.args.number = to_z-of_z (whole_fits c.args.number c.requires) in
    c.in-Some.ensures ∙ ap (λ z. decimal_value z (pos 0)) back ∙ decimal_whole c.args.number
