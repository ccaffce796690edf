use Rattle.std.proofs.Common.{◌≡◌, pos, ap₂, ◌∙◌, subst, rules, MatchOption, to_z-of_z, int_lt, not, true, false}
use mathlib.Core.Bool.{beq}
use Rattle.exact_numbers.specs.Rational.{over}
use Rattle.exact_numbers.specs.Decimal.{signed}
use Rattle.exact_numbers.specs.Values.{frac_value, fits, quotient}
use Rattle.exact_numbers.proofs.Fractions.{quotient_is, match_with}
use Rattle.exact_numbers.proofs.frac.Frac.new.Goals as goal

pub returns : goal.returns
returns c =
    let is : over (signed (not (beq (int_lt c.args.num (pos 0)) (int_lt c.args.den (pos 0)))) c.unsigned_abs.result)
    c.unsigned_abs-2.result ≡ quotient c.args.num c.args.den =
    quotient_is c.args.num c.args.den _ _ (search rules) (search rules) in
    match_with c.reduced.result (fits (quotient c.args.num c.args.den)) (λ f. frac_value f ≡ quotient c.args.num c.args.den) _ (search rules)
    (subst (λ x. MatchOption c.reduced.result (fits x ≡ false) (λ f. (fits x ≡ true) × (frac_value f ≡ x)))
    (ap₂ (λ n d. over (signed (not (beq (int_lt n (pos 0)) (int_lt d (pos 0)))) c.unsigned_abs.result)
    c.unsigned_abs-2.result) (to_z-of_z c.ranges.num) (to_z-of_z c.ranges.den) ∙ is) c.reduced.ensures)
