use Rattle.std.proofs.Common.{◌≡◌, ◌∙◌, ap, ap₂, pos, int_lt, unsigned_abs, to_z-of_z}
use Rattle.exact_numbers.specs.Rational.{decimal_value}
use Rattle.exact_numbers.specs.Decimal.{signed}
use Rattle.exact_numbers.proofs.Fractions.{signed_self}
use Rattle.exact_numbers.proofs.Signs.{decimal_whole}
use Rattle.exact_numbers.proofs.dec.Dec.of_whole.Goals as goal

pub returns : goal.returns
returns c =
    let n = c.args.n in
    let same : signed (int_lt n (pos 0)) (unsigned_abs n) ≡ n = signed_self n in
    c.of_few.ensures ∙ ap₂ (λ m k. decimal_value (signed (int_lt m (pos 0)) k) (pos 0)) (to_z-of_z c.ranges.n)
    (c.unsigned_abs.ensures.value ∙ ap unsigned_abs (to_z-of_z c.ranges.n)) ∙ ap (λ m. decimal_value m (pos 0)) same
    ∙ decimal_whole n
