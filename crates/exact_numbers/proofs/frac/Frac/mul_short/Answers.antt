use Rattle.std.proofs.Common.{rules, ◌≡◌, ◌*◌, ◌∙◌, ap₂, sym, subst₂, int_lt, not, pos, to_z, of_z, w64}
use mathlib.Core.Bool.{beq}
use Rattle.exact_numbers.specs.Decimal.{signed}
use Rattle.exact_numbers.specs.Fraction.{IsFrac}
use Rattle.exact_numbers.proofs.ShortSums.{ShortProduct, short_product, product_read, product_found}
use Rattle.exact_numbers.proofs.frac.Frac.mul_short.Goals as goal
use Rattle.exact_numbers.proofs.frac.Frac.mul_short.Goals.{After-small_product-den}

found : (c : After-small_product-den) → ShortProduct c.args.self.num c.args.self.den c.args.other.num c.args.other.den
    (signed (not (beq (int_lt (to_z w64 (of_z w64 c.in_ok-a.a.num)) (pos 0))
    (int_lt (to_z w64 (of_z w64 c.in_ok-b.b.num)) (pos 0)))) c.small_product-num.result) c.small_product-den.result
found c =
    let a = c.in_ok-a.ensures in
    let b = c.in_ok-b.ensures in
    let m : to_z w64 (of_z w64 c.in_ok-a.a.num) ≡ c.args.self.num = search rules in
    let k : to_z w64 (of_z w64 c.in_ok-b.b.num) ≡ c.args.other.num = search rules in
    let x : IsFrac (to_z w64 (of_z w64 c.in_ok-a.a.num)) c.in_ok-a.a.den = subst₂ IsFrac (sym m) (sym a.1) c.args.self.spelled in
    let y : IsFrac (to_z w64 (of_z w64 c.in_ok-b.b.num)) c.in_ok-b.b.den = subst₂ IsFrac (sym k) (sym b.1) c.args.other.spelled in
    let size = c.unsigned_abs-size.ensures in
    let other = c.unsigned_abs-other_size.ensures in
    product_read m a.1 k b.1 (short_product _ _ _ _ _ _ _ _ _ _ x y a.2 b.2 size.bound other.bound size.value
    other.value c.small_gcd-first.ensures.greatest c.small_gcd-second.ensures.greatest
    (c.small_product-num.ensures ∙ ap₂ ◌*◌ c.divided.ensures c.divided-2.ensures)
    (c.small_product-den.ensures ∙ ap₂ ◌*◌ c.divided-3.ensures c.divided-4.ensures))

pub paired-requires : goal.paired-requires
paired-requires c = (found (goal.at.paired-requires c).After-small_product-den).frac

pub returns : goal.returns
returns c = product_found c.paired.result c.args.self c.args.other _ _ c.paired.ensures.numerator c.paired.ensures.denominator (found (goal.at.returns c).After-small_product-den)
