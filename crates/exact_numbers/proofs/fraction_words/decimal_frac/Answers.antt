use Rattle.std.proofs.Common.{◌∙◌, sym, ap}
use Rattle.exact_numbers.specs.Words.{decimal_frac}
use Rattle.exact_numbers.proofs.Fracs.{frac_is}
use Rattle.exact_numbers.proofs.fraction_words.decimal_frac.Goals as goal

pub returns-in-Some : goal.returns-in-Some
returns-in-Some c = frac_is _ _ c.of_dec.ensures ∙ ap decimal_frac (sym c.in-Some.is)
