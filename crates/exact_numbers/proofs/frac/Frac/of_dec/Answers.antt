use Rattle.std.proofs.Common.{rules, arith, ◌≡◌, ◌*◌, ◌^◌, ◌<◌, ◌≤◌, ◌∙◌, ap, to_z-of_z, unsigned_abs, one-mul, to_z, of_z, pos, subst, sym}
use mir.Syntax.{w16}
use Rattle.std.specs.Int.{w128}
use Rattle.std.proofs.lemmas.Int.{ints}
use Rattle.exact_numbers.specs.Fraction.{IsFrac}
use Rattle.exact_numbers.proofs.Pairs.{SameValue, pair, scaled}
use Rattle.exact_numbers.proofs.Wholes.{whole_frac}
use Rattle.exact_numbers.proofs.ShortSums.{whole_same}
use Rattle.exact_numbers.proofs.OfDec.{OfDec, whole_of_dec, part_of_dec, front_le}
use Rattle.exact_numbers.proofs.Bridge.{not_fits, fitting, fitting_parts, decimal_is}
use Rattle.exact_numbers.proofs.frac.Frac.of_dec.Goals as goal
use Rattle.exact_numbers.proofs.frac.Frac.of_dec.Goals.{After-e-e, After-cancel-fives}

-- the mantissa and the exponent, as they are
read : (c : After-e-e) → (to_z w128 (of_z w128 c.m-m.result) ≡ c.args.d.m) × (to_z w16 (of_z w16 c.e-e.result) ≡ c.args.d.e)
read c = (to_z-of_z {w = w128} (record { sfits = c.m-m.type_inv }) ∙ c.m-m.ensures, to_z-of_z {w = w16} (record { sfits = c.e-e.type_inv }) ∙ c.e-e.ensures)

-- the parts of a number with an exponent below 0
parted : (c : After-cancel-fives) → OfDec c.args.d.m c.args.d.e c.cancel-fives.result.rest
    (2 ^ c.cancel-twos.result.left * 5 ^ c.cancel-fives.result.left)
    × (c.cancel-fives.result.rest ≤ unsigned_abs c.args.d.m)
parted c =
    let m : to_z w128 (of_z w128 c.m-m.result) ≡ c.args.d.m = to_z-of_z {w = w128} (record { sfits = c.m-m.type_inv }) ∙ c.m-m.ensures in
    let e : to_z w16 (of_z w16 c.e-e.result) ≡ c.args.d.e = to_z-of_z {w = w16} (record { sfits = c.e-e.type_inv }) ∙ c.e-e.ensures in
    let twos = c.cancel-twos.ensures in
    let fives = c.cancel-fives.ensures in
    part_of_dec c.args.d.m c.args.d.e _ _ _ _ _ _ (omega (arith, ints, c.e-e.ensures))
    (c.unsigned_abs-size.ensures.value ∙ ap unsigned_abs m) (search rules) twos.within fives.within twos.whole
    fives.whole twos.shortest fives.shortest

pub invariant_of-result : goal.invariant_of-result
invariant_of-result c =
    let m = (read (goal.at.invariant_of-result c).After-e-e).0 in
    record { spelled = subst (λ z. IsFrac z 1) (sym m) (whole_frac c.args.d.m c.args.d.spelled.mantissa) }

pub returns-then-e-eq0 : goal.returns-then-e-eq0
returns-then-e-eq0 c =
    let m = (read (goal.at.returns-then-e-eq0 c).After-e-e).0 in
    let e = (read (goal.at.returns-then-e-eq0 c).After-e-e).1 in
    let none : c.args.d.e ≡ pos 0 = omega (arith, ints, e, c.if-e-eq0.true) in
    fitting_parts _ _ _ _ (subst (λ z. IsFrac z 1) (sym m) (whole_frac c.args.d.m c.args.d.spelled.mantissa)) _ _
    (decimal_is c.args.d.m c.args.d.e) (subst (λ z. SameValue (pair z 1) (scaled c.args.d.m c.args.d.e)) (sym m)
    (whole_same c.args.d.m c.args.d.e none))

pub returns-in_default : goal.returns-in_default
returns-in_default c = not_fits _ _ (decimal_is c.args.d.m c.args.d.e) (λ fits.
    let m = (read (goal.at.returns-in_default c).After-e-e).0 in
    let e = (read (goal.at.returns-in_default c).After-e-e).1 in
    let size : c.unsigned_abs-size.result ≡ unsigned_abs c.args.d.m = c.unsigned_abs-size.ensures.value ∙ ap unsigned_abs m in
    let w = whole_of_dec c.args.d.m c.args.d.e (omega (arith, ints, c.e-e.ensures)) in
    (simp e at c.in_default.ensures) (rw size (w.only fits).0))

pub paired-requires : goal.paired-requires
paired-requires c =
    let m = (read (goal.at.paired-requires c).After-e-e).0 in
    let e = (read (goal.at.paired-requires c).After-e-e).1 in
    let size : c.unsigned_abs-size.result ≡ unsigned_abs c.args.d.m = c.unsigned_abs-size.ensures.value ∙ ap unsigned_abs m in
    let w = whole_of_dec c.args.d.m c.args.d.e (omega (arith, ints, c.e-e.ensures)) in
    let num = simp e at c.in-Some.ensures in
    simp (m, num.1, size) (w.is_frac (rw (← size) num.0) (omega arith))

pub returns-then-e-ge0 : goal.returns-then-e-ge0
returns-then-e-ge0 c =
    let m = (read (goal.at.returns-then-e-ge0 c).After-e-e).0 in
    let e = (read (goal.at.returns-then-e-ge0 c).After-e-e).1 in
    let size : c.unsigned_abs-size.result ≡ unsigned_abs c.args.d.m = c.unsigned_abs-size.ensures.value ∙ ap unsigned_abs m in
    let w = whole_of_dec c.args.d.m c.args.d.e (omega (arith, ints, c.e-e.ensures)) in
    let num = simp e at c.in-Some.ensures in
    fitting c.paired.result _ _ (decimal_is c.args.d.m c.args.d.e) (simp (c.paired.ensures.numerator, c.paired.ensures.denominator, m, num.1, size) w.same)

pub returns-in_default-grown : goal.returns-in_default-grown
returns-in_default-grown c = not_fits _ _ (decimal_is c.args.d.m c.args.d.e) (λ fits.
    let w = parted (goal.at.returns-in_default-grown c).After-cancel-fives in
    c.in_default-grown.ensures (omega (arith, (w.0.only fits).1, front_le c.cancel-twos.result.left c.cancel-fives.result.left)))

pub returns-in_default-grown-2 : goal.returns-in_default-grown-2
returns-in_default-grown-2 c = not_fits _ _ (decimal_is c.args.d.m c.args.d.e) (λ fits.
    let w = parted (goal.at.returns-in_default-grown-2 c).After-cancel-fives in
    let even : c.in-Some-grown.even ≡ 2 ^ c.cancel-twos.result.left = c.in-Some-grown.ensures.1 ∙ one-mul (2 ^ c.cancel-twos.result.left) in
    c.in_default-grown-2.ensures (rw even (w.0.only fits).1))

pub paired-requires-2 : goal.paired-requires-2
paired-requires-2 c =
    let m = (read (goal.at.paired-requires-2 c).After-e-e).0 in
    let w = parted (goal.at.paired-requires-2 c).After-cancel-fives in
    let h = c.in-Some-grown-2.ensures in
    let den : c.in-Some-grown-2.den ≡ 2 ^ c.cancel-twos.result.left * 5 ^ c.cancel-fives.result.left =
    h.1 ∙ ap (λ x. x * 5 ^ c.cancel-fives.result.left) (c.in-Some-grown.ensures.1
    ∙ one-mul (2 ^ c.cancel-twos.result.left)) in
    let small : c.cancel-fives.result.rest < 2 ^ 127 = omega (arith, w.1, c.args.d.spelled.mantissa) in
    simp (m, den) (w.0.is_frac small (rw (← den, h.1) h.0))

pub returns : goal.returns
returns c =
    let m = (read (goal.at.returns c).After-e-e).0 in
    let w = parted (goal.at.returns c).After-cancel-fives in
    let den : c.in-Some-grown-2.den ≡ 2 ^ c.cancel-twos.result.left * 5 ^ c.cancel-fives.result.left =
    c.in-Some-grown-2.ensures.1 ∙ ap (λ x. x * 5 ^ c.cancel-fives.result.left)
    (c.in-Some-grown.ensures.1 ∙ one-mul (2 ^ c.cancel-twos.result.left)) in
    fitting c.paired-2.result _ _ (decimal_is c.args.d.m c.args.d.e) (simp (c.paired-2.ensures.numerator, c.paired-2.ensures.denominator, m, den) w.0.same)
