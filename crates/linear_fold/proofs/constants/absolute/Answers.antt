use Rattle.std.proofs.Common.{◌∙◌, ap, Some}
use Rattle.code_tables.specs.declared.class.OpClass.TheVariants.{Absolute}
use Rattle.exact_numbers.specs.Functions.{absolute_of}
use Rattle.linear_fold.specs.InsideOperates.{part_line}
use Rattle.linear_fold.proofs.ConstantLemmas.{one_made}
use Rattle.linear_fold.proofs.constants.absolute.Goals as goal

pub returns-in-Some : goal.returns-in-Some
returns-in-Some c n z = one_made n Absolute (part_line c.args.a.now) _ (c.in-Some.ensures.test n z) (ap Some (c.absolute_of.ensures ∙ ap absolute_of c.in-Some.ensures.value))
