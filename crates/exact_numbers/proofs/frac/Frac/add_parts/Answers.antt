use Rattle.std.proofs.Common.{rules, ◌≡◌, ◌/◌, ◌*◌, SFits, to_z-of_z, unsigned_abs, ◌∙◌, sym, ap, ap₂, subst, ◌<◌, ◌^◌, pos, ◌*ℤ◌, ◌+ℤ◌, int_lt}
use mir.Syntax.{w128}
use Rattle.exact_numbers.proofs.Pairs.{SameValue, pair, sum_of}
use Rattle.exact_numbers.specs.Decimal.{signed}
use Rattle.exact_numbers.proofs.Fractions.{Added, added, frac_fits, in_range_fits, sized_fits, signed_self}
use Rattle.exact_numbers.specs.Values.{frac_value}
use Rattle.exact_numbers.proofs.Bridge.{not_sum, summed, sum_is, pair_is, in_range}
use Rattle.exact_numbers.specs.Rational.{over, ◌+ℚ◌}
use Rattle.exact_numbers.proofs.Values.{same_value}
use Rattle.exact_numbers.proofs.frac.Frac.add_parts.Goals as goal
use Rattle.exact_numbers.proofs.frac.Frac.add_parts.Goals.{After-gcd-common}

over_least : (c : After-gcd-common) → Added c.args.self.num c.args.self.den c.args.other.num c.args.other.den c.gcd-common.result
over_least c = added c.args.self.num c.args.self.den c.args.other.num c.args.other.den _ c.args.self.spelled c.args.other.spelled c.gcd-common.ensures.greatest

pub returns-in_default : goal.returns-in_default
returns-in_default c = not_sum (frac_value c.args.self) (frac_value c.args.other) (λ fits.
    let w = over_least (goal.at.returns-in_default c).After-gcd-common in
    c.in_default.ensures (w.only fits).0)

pub returns-in_default-scaled_up : goal.returns-in_default-scaled_up
returns-in_default-scaled_up c = not_sum (frac_value c.args.self) (frac_value c.args.other) (λ fits.
    let w = over_least (goal.at.returns-in_default-scaled_up c).After-gcd-common in
    let f : SFits w128 c.args.self.num = frac_fits _ _ c.args.self.spelled in
    (simp to_z-of_z at c.in_default-scaled_up.ensures) (w.only fits).1)

pub returns-in_default-scaled_up-2 : goal.returns-in_default-scaled_up-2
returns-in_default-scaled_up-2 c = not_sum (frac_value c.args.self) (frac_value c.args.other) (λ fits.
    let w = over_least (goal.at.returns-in_default-scaled_up-2 c).After-gcd-common in
    let f : SFits w128 c.args.other.num = frac_fits _ _ c.args.other.spelled in
    (simp to_z-of_z at c.in_default-scaled_up-2.ensures) (w.only fits).2)

pub returns-in_default-bounded_sum : goal.returns-in_default-bounded_sum
returns-in_default-bounded_sum c = not_sum (frac_value c.args.self) (frac_value c.args.other) (λ fits.
    let w = over_least (goal.at.returns-in_default-bounded_sum c).After-gcd-common in
    let f : SFits w128 c.args.self.num = frac_fits _ _ c.args.self.spelled in
    let g : SFits w128 c.args.other.num = frac_fits _ _ c.args.other.spelled in
    let first = simp to_z-of_z at c.in-Some-scaled_up.ensures in
    let second = simp to_z-of_z at c.in-Some-scaled_up-2.ensures in
    let first_fits : SFits w128 c.in-Some-scaled_up.first = sized_fits _ (subst (λ z. unsigned_abs z < 2 ^ 127) (sym first.1) first.0) in
    let second_fits : SFits w128 c.in-Some-scaled_up-2.second = sized_fits _ (subst (λ z. unsigned_abs z < 2 ^ 127) (sym second.1) second.0) in
    let plain = simp to_z-of_z at c.in_default-bounded_sum.ensures in
    (simp (first.1, second.1) at plain) (w.only fits).3)

pub reduced-requires : goal.reduced-requires
reduced-requires c =
    let w = over_least (goal.at.reduced-requires c).After-gcd-common in
    let den = c.in-Some.ensures in
    rw den.1 w.above

pub returns : goal.returns
returns c =
    let w = over_least (goal.at.returns c).After-gcd-common in
    let den = c.in-Some.ensures in
    let f : SFits w128 c.args.self.num = frac_fits _ _ c.args.self.spelled in
    let g : SFits w128 c.args.other.num = frac_fits _ _ c.args.other.spelled in
    let first = simp to_z-of_z at c.in-Some-scaled_up.ensures in
    let second = simp to_z-of_z at c.in-Some-scaled_up-2.ensures in
    let first_fits : SFits w128 c.in-Some-scaled_up.first = sized_fits _ (subst (λ z. unsigned_abs z < 2 ^ 127) (sym first.1) first.0) in
    let second_fits : SFits w128 c.in-Some-scaled_up-2.second = sized_fits _ (subst (λ z. unsigned_abs z < 2 ^ 127) (sym second.1) second.0) in
    let plain = simp to_z-of_z at c.in-Some-bounded_sum.ensures in
    let sum = simp (first.1, second.1) at plain in
    let sum_fits : SFits w128 c.in-Some-bounded_sum.sum = sized_fits _ (subst (λ z. unsigned_abs z < 2 ^ 127) (sym sum.1) sum.0) in
    let size : c.unsigned_abs.result ≡ unsigned_abs c.in-Some-bounded_sum.sum = search rules in
    let z = over (signed (int_lt c.in-Some-bounded_sum.sum (pos 0)) c.unsigned_abs.result) c.in-Some.den in
    let is : pair (signed (int_lt c.in-Some-bounded_sum.sum (pos 0)) c.unsigned_abs.result) c.in-Some.den
    ≡ pair (c.args.self.num *ℤ pos (c.args.other.den / c.gcd-common.result) +ℤ c.args.other.num
    *ℤ pos (c.args.self.den / c.gcd-common.result)) (c.args.self.den * (c.args.other.den / c.gcd-common.result)) =
    ap₂ pair (ap (λ n. signed (int_lt c.in-Some-bounded_sum.sum (pos 0)) n) size ∙ signed_self c.in-Some-bounded_sum.sum ∙ sum.1) den.1 in
    let same : SameValue (pair (signed (int_lt c.in-Some-bounded_sum.sum (pos 0)) c.unsigned_abs.result) c.in-Some.den)
    (sum_of (pair c.args.self.num c.args.self.den) (pair c.args.other.num c.args.other.den)) =
    subst (λ x. SameValue x (sum_of (pair c.args.self.num c.args.self.den) (pair c.args.other.num c.args.other.den)))
    (sym is) w.same in
    let some : 0 < c.in-Some.den = rw den.1 w.above in
    let equal : z ≡ frac_value c.args.self +ℚ frac_value c.args.other = same_value (pair_is _ _ some) (sum_is (frac_value c.args.self) (frac_value c.args.other)) same.equal in
    summed c.reduced.result (frac_value c.args.self) (frac_value c.args.other) z
    (in_range _ _ (pair_is _ _ some) (in_range_fits _ _ _ some (rw (size, sum.1) sum.0) (rw den.1 den.0)))
    (w.fits den.0 first.0 second.0 sum.0)
    equal
    (simp to_z-of_z at c.reduced.ensures)
