use Rattle.std.proofs.Common.{arith, ◌≡◌, ◌*◌, ◌^◌, pos, ◌+ℤ◌, unsigned_abs, rules, to_z-of_z, ◌∙◌, ap, ap₂, int_lt}
use Rattle.exact_numbers.specs.Rational.{decimal_value}
use Rattle.exact_numbers.specs.Decimal.{signed}
use mir.Syntax.{w128}
use Rattle.std.proofs.lemmas.Int.{ints}
use Rattle.exact_numbers.proofs.Decimals.{only_shortened, shortened, is_dec, abs_is}
use Rattle.exact_numbers.proofs.Bridge.{not_dec, same_dec_value, decimal_is, decimal_zero}
use Rattle.exact_numbers.proofs.dec.Dec.new.Goals as goal
use Rattle.exact_numbers.proofs.dec.Dec.new.Goals.{then-stripped-gt-MAX_SIZE-via-then-stripped-gt-MAX_SIZE}
use Rattle.exact_numbers.proofs.dec.Dec.new.Goals.{then-stripped-gt-MAX_SIZE-via-else-stripped-gt-MAX_SIZE+then-exponent-ltminus400}
use Rattle.exact_numbers.proofs.dec.Dec.new.Goals.{then-stripped-gt-MAX_SIZE-via-else-stripped-gt-MAX_SIZE+else-exponent-ltminus400+then-exponent-gt400}

pub returns-then-stripped-gt-MAX_SIZE : goal.returns-then-stripped-gt-MAX_SIZE
returns-then-stripped-gt-MAX_SIZE c = not_dec _ _ (decimal_is c.args.m c.args.e) (λ fits.
    let z = c.strip_zeros-stripped.result.zeros in
    let r = c.strip_zeros-stripped.result.rest in
    let whole : unsigned_abs c.args.m ≡ r * 10 ^ z = search rules in
    let only = only_shortened c.args.m c.args.e r z whole c.strip_zeros-stripped.ensures.shortest fits in
    let near = abs_is (c.args.e +ℤ pos z) in
    elim c.then-stripped-gt-MAX_SIZE.branch [
      | then-stripped-gt-MAX_SIZE-via-then-stripped-gt-MAX_SIZE w ↦ omega (arith, only.0)
      | then-stripped-gt-MAX_SIZE-via-else-stripped-gt-MAX_SIZE+then-exponent-ltminus400 w ↦ omega (arith, ints, only.1)
      | then-stripped-gt-MAX_SIZE-via-else-stripped-gt-MAX_SIZE+else-exponent-ltminus400+then-exponent-gt400 w ↦ omega (arith, ints, only.1)
    ])

pub of_parts-requires-2 : goal.of_parts-requires-2
of_parts-requires-2 c =
    is_dec _ _ _ _ (to_z-of_z {w = w128} (record { sfits = c.with_sign.type_inv }) ∙ c.with_sign.ensures)
    c.strip_zeros-stripped.ensures.shortest (omega arith) (omega (arith, ints)) (omega (arith, ints))

pub returns : goal.returns
returns c =
    let whole : unsigned_abs c.args.m ≡ c.strip_zeros-stripped.result.rest * 10 ^ c.strip_zeros-stripped.result.zeros = search rules in
    let sign : c.of_parts-2.result.m ≡ signed (int_lt c.args.m (pos 0)) c.strip_zeros-stripped.result.rest =
    c.of_parts-2.ensures.mantissa ∙ to_z-of_z {w = w128} (record { sfits = c.with_sign.type_inv })
    ∙ c.with_sign.ensures ∙ ap (λ x. signed (int_lt x (pos 0)) c.strip_zeros-stripped.result.rest)
    (to_z-of_z c.ranges.m) in
    same_dec_value _ _ _ _ (decimal_is c.args.m c.args.e) (shortened c.args.m c.args.e _ _
    c.strip_zeros-stripped.result.rest c.strip_zeros-stripped.result.zeros whole sign
    (omega (arith, ints, c.of_parts-2.ensures.exponent)))

pub returns-then-m-eq0 : goal.returns-then-m-eq0
returns-then-m-eq0 c =
    let none : c.args.m ≡ pos 0 = search rules in
    ap₂ decimal_value c.of_parts.ensures.mantissa c.of_parts.ensures.exponent
    ∙ decimal_zero c.args.m c.args.e (pos 0) none
