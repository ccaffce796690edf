use Rattle.std.proofs.Common.{rules, ◌≡◌, unsigned_abs, pos, int_lt, to_z-of_z, SFits, ◌∙◌, ap}
use mir.Syntax.{w128}
use Rattle.exact_numbers.specs.Decimal.{signed}
use Rattle.exact_numbers.proofs.Fractions.{is_frac_turned, frac_fits}
use Rattle.exact_numbers.proofs.Bridge.{inverse_is, zero_is}
use Rattle.exact_numbers.proofs.frac.Frac.reciprocal.Goals as goal

pub paired-requires : goal.paired-requires
paired-requires c =
    let size : c.unsigned_abs.result ≡ unsigned_abs c.args.self.num = search rules in
    is_frac_turned _ c.args.self.num c.args.self.den _ size (λ e. c.requires (zero_is c.args.self e)) c.args.self.spelled

pub returns : goal.returns
returns c =
    let size : c.unsigned_abs.result ≡ unsigned_abs c.args.self.num = search rules in
    let fit : SFits w128 c.args.self.num = frac_fits _ _ c.args.self.spelled in
    inverse_is c.args.self c.paired.result (λ e. c.requires (zero_is c.args.self e))
    (c.paired.ensures.numerator ∙ ap (λ n. signed (int_lt n (pos 0)) c.args.self.den) (to_z-of_z fit))
    (c.paired.ensures.denominator ∙ size)
