use Rattle.std.proofs.Common.{arith, ◌∙◌, to_z-of_z}
use mir.Syntax.{w128}
use Rattle.exact_numbers.proofs.Coprime.{reduced_by}
use Rattle.exact_numbers.proofs.Fractions.{only_reduced, is_frac, reduced_same}
use Rattle.exact_numbers.proofs.Bridge.{not_fits, fitting_parts, pair_is}
use Rattle.exact_numbers.proofs.arithmetic.reduced.Goals as goal
use Rattle.exact_numbers.proofs.arithmetic.reduced.Goals.{then-size-gt-MAX_SIZE-via-then-size-gt-MAX_SIZE, then-size-gt-MAX_SIZE-via-else-size-gt-MAX_SIZE+then-parts-gt-MAX_SIZE}

pub returns-then-size-gt-MAX_SIZE : goal.returns-then-size-gt-MAX_SIZE
returns-then-size-gt-MAX_SIZE c = not_fits _ _ (pair_is _ _ c.requires) (λ fits.
    let only = only_reduced c.args.negative c.args.num c.args.den c.gcd-common.result (reduced_by _ _ _ c.requires c.gcd-common.ensures.greatest) fits in
    elim c.then-size-gt-MAX_SIZE.branch [
      | then-size-gt-MAX_SIZE-via-then-size-gt-MAX_SIZE w ↦ omega (arith, only.0)
      | then-size-gt-MAX_SIZE-via-else-size-gt-MAX_SIZE+then-parts-gt-MAX_SIZE w ↦ omega (arith, only.1)
    ])

pub invariant_of-result : goal.invariant_of-result
invariant_of-result c =
    record {
      spelled = is_frac c.args.negative c.args.num c.args.den c.gcd-common.result
          (reduced_by _ _ _ c.requires c.gcd-common.ensures.greatest) _
          (to_z-of_z {w = w128} (record { sfits = c.with_sign.type_inv }) ∙ c.with_sign.ensures) (omega arith)
          (omega arith);
    }

pub returns : goal.returns
returns c =
    let r = reduced_by _ _ _ c.requires c.gcd-common.ensures.greatest in
    let sign = to_z-of_z {w = w128} (record { sfits = c.with_sign.type_inv }) ∙ c.with_sign.ensures in
    fitting_parts _ _ _ _ (is_frac c.args.negative c.args.num c.args.den c.gcd-common.result r _ sign (omega arith) (omega arith)) _ _ (pair_is _ _ c.requires)
    (reduced_same c.args.negative c.args.num c.args.den c.gcd-common.result r _ sign)
