use Rattle.std.proofs.Common.{rules, ◌≡◌, ◌*◌, ◌/◌, ◌<◌, ◌^◌, ◌∙◌, ap, ap₂, sym, subst, subst₂, int_lt, pos, ◌+ℤ◌, ◌*ℤ◌, unsigned_abs, to_z, of_z, w64}
use Rattle.std.specs.Int.{IsGcd, w128}
use Rattle.exact_numbers.specs.Decimal.{signed}
use Rattle.exact_numbers.specs.Fraction.{IsFrac}
use Rattle.exact_numbers.proofs.ShortSums.{ShortSum, short_sum, sum_read, sum_found}
use Rattle.exact_numbers.proofs.frac.Frac.add_short.Goals as goal
use Rattle.exact_numbers.proofs.frac.Frac.add_short.Goals.{After-small_product-den}

found : (c : After-small_product-den) → ShortSum c.args.self.num c.args.self.den c.args.other.num c.args.other.den
    (signed (int_lt (to_z w128 (of_z w128 (to_z w128 (of_z w128 c.signed_product.result)
    +ℤ to_z w128 (of_z w128 c.signed_product-2.result)))) (pos 0)) c.divided-num.result)
    c.small_product-den.result
found c =
    let a = c.in_ok-a.ensures in
    let b = c.in_ok-b.ensures in
    let n : to_z w64 (of_z w64 c.in_ok-a.a.num) ≡ c.args.self.num = search rules in
    let k : to_z w64 (of_z w64 c.in_ok-b.b.num) ≡ c.args.other.num = search rules in
    let x : IsFrac (to_z w64 (of_z w64 c.in_ok-a.a.num)) c.in_ok-a.a.den = subst₂ IsFrac (sym n) (sym a.1) c.args.self.spelled in
    let y : IsFrac (to_z w64 (of_z w64 c.in_ok-b.b.num)) c.in_ok-b.b.den = subst₂ IsFrac (sym k) (sym b.1) c.args.other.spelled in
    let first = c.signed_product.ensures in
    let second = c.signed_product-2.ensures in
    let left = first.value ∙ ap (λ s. to_z w64 (of_z w64 c.in_ok-a.a.num) *ℤ pos s) c.divided-scale.ensures in
    let right = second.value ∙ ap (λ s. to_z w64 (of_z w64 c.in_ok-b.b.num) *ℤ pos s) c.divided-other_scale.ensures in
    let sum : to_z w128 (of_z w128 (to_z w128 (of_z w128 c.signed_product.result)
    +ℤ to_z w128 (of_z w128 c.signed_product-2.result))) ≡ c.signed_product.result +ℤ c.signed_product-2.result =
    search rules in
    let size = c.unsigned_abs-size.ensures.value in
    sum_read n a.1 k b.1 (short_sum _ _ _ _ _ _ _ _ _ x y a.2 b.2
    (subst (λ z. unsigned_abs z < 2 ^ 126) left first.bounded)
    (subst (λ z. unsigned_abs z < 2 ^ 126) right second.bounded) c.small_gcd-common.ensures.greatest
    (sum ∙ ap₂ ◌+ℤ◌ left right) (subst (λ z. IsGcd z c.small_gcd-common.result c.small_gcd-part.result) size
    c.small_gcd-part.ensures.greatest) (c.divided-num.ensures ∙ ap (λ z. z / c.small_gcd-part.result) size)
    (c.small_product-den.ensures ∙ ap₂ ◌*◌ c.divided-other_scale.ensures c.divided.ensures))

pub paired-requires : goal.paired-requires
paired-requires c = (found (goal.at.paired-requires c).After-small_product-den).frac

pub returns : goal.returns
returns c = sum_found c.paired.result c.args.self c.args.other _ _ c.paired.ensures.numerator c.paired.ensures.denominator (found (goal.at.returns c).After-small_product-den)

pub overflow_add-sum : goal.overflow_add-sum
overflow_add-sum c = search rules
