use Rattle.std.proofs.Common.{◌∙◌, cond, None, sym, ap}
use Rattle.exact_numbers.specs.Words.{ratio, wide_of}
use Rattle.exact_numbers.proofs.Fracs.{ratio_of_held}
use Rattle.exact_numbers.proofs.Wide.{wide_held}
use Rattle.exact_numbers.proofs.fraction_words.ratio_of.Goals as goal

pub returns : goal.returns
returns c =
    ratio_of_held _ _ _ _ _ _ _ (sym c.in-Some.ensures) (sym c.in-Some-wide_of.ensures) (wide_held _ _ c.in-Some.ensures) (wide_held _ _ c.in-Some-wide_of.ensures) c.new.ensures
    ∙ ap (λ b. cond b (ratio (wide_of c.args.top.now) (wide_of c.args.bottom.now)) None) (c.if-not-are_digits.ensures)
