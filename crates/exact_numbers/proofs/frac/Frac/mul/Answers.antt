use Rattle.std.proofs.Common.{sym, ap, ◌∙◌}
use Rattle.exact_numbers.specs.Values.{frac_value}
use Rattle.exact_numbers.proofs.Bridge.{is_fitting}
use Rattle.exact_numbers.specs.Rational.{◌*ℚ◌}
use Rattle.exact_numbers.proofs.RationalLaws.{*ℚ_one, one-*ℚ}
use Rattle.exact_numbers.proofs.frac.Frac.mul.Goals as goal

pub returns-then-is_one : goal.returns-then-is_one
returns-then-is_one c = is_fitting c.args.other _ (sym (ap (λ x. x *ℚ frac_value c.args.other) (c.is_one.ensures c.if-is_one.true) ∙ one-*ℚ (frac_value c.args.other)))

pub returns-then-is_one-2 : goal.returns-then-is_one-2
returns-then-is_one-2 c = is_fitting c.args.self _ (sym (ap (λ x. frac_value c.args.self *ℚ x) (c.is_one-2.ensures c.if-is_one-2.true) ∙ *ℚ_one (frac_value c.args.self)))
