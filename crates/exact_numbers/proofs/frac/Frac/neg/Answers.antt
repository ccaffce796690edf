use Rattle.std.proofs.Common.{arith, refl}
use Rattle.std.proofs.lemmas.Int.{ints}
use Rattle.exact_numbers.proofs.Decimals.{abs_is}
use Rattle.exact_numbers.proofs.Fractions.{is_frac_neg}
use Rattle.exact_numbers.proofs.Bridge.{negated_parts}
use Rattle.exact_numbers.proofs.frac.Frac.neg.Goals as goal

pub invariant_of-result : goal.invariant_of-result
invariant_of-result c =
    let size = c.args.self.spelled.size in
    let parts = abs_is c.args.self.num in
    record { spelled = is_frac_neg c.args.self.num _ _ c.args.self.spelled (omega (arith, ints)) }

pub returns : goal.returns
returns c =
    let size = c.args.self.spelled.size in
    let parts = abs_is c.args.self.num in
    negated_parts c.args.self _ _ _ _ (omega (arith, ints)) refl
