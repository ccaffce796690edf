use Rattle.std.proofs.Common.{◌∙◌, ap, Some}
use Rattle.code_tables.specs.declared.class.OpClass.TheVariants.{Ceiling}
use Rattle.exact_numbers.specs.Functions.{floor_of}
use Rattle.exact_numbers.specs.Rational.{neg_ℚ}
use Rattle.linear_fold.specs.InsideOperates.{part_line}
use Rattle.linear_fold.proofs.ConstantLemmas.{ceiling_is, one_made}
use Rattle.linear_fold.proofs.constants.ceiling.Goals as goal

pub returns-in-Some : goal.returns-in-Some
returns-in-Some c n z =
    one_made n Ceiling (part_line c.args.a.now) _ (c.in-Some.ensures.test n z)
    (ap Some (c.neg-ceiling.ensures ∙ ap neg_ℚ (c.floor_of.ensures ∙ ap floor_of (c.neg.ensures ∙ ap neg_ℚ c.in-Some.ensures.value)) ∙ ceiling_is (part_line c.args.a.now).constant))
