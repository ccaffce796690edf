use Rattle.std.proofs.Common.{◌∙◌, ap, Some}
use Rattle.code_tables.specs.declared.class.OpClass.TheVariants.{Floor}
use Rattle.exact_numbers.specs.Functions.{floor_of}
use Rattle.linear_fold.specs.InsideOperates.{part_line}
use Rattle.linear_fold.proofs.ConstantLemmas.{one_made}
use Rattle.linear_fold.proofs.constants.floor.Goals as goal

pub returns-in-Some : goal.returns-in-Some
returns-in-Some c n z = one_made n Floor (part_line c.args.a.now) _ (c.in-Some.ensures.test n z) (ap Some (c.floor_of.ensures ∙ ap floor_of c.in-Some.ensures.value))
