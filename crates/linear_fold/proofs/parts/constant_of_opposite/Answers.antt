use Rattle.std.proofs.Common.{◌∙◌}
use Rattle.linear_program.specs.Forms.{form_line}
use Rattle.linear_fold.proofs.SumLemmas.{neg_constant}
use Rattle.linear_fold.proofs.parts.constant_of_opposite.Goals as goal

pub returns-in-Some-clause-test : goal.returns-in-Some-clause-test
returns-in-Some-clause-test c n within = c.in-Some.ensures.test n within ∙ neg_constant n (form_line c.args.form.now)

pub returns-in-None-clause-test : goal.returns-in-None-clause-test
returns-in-None-clause-test c n within = c.in-None.ensures.test n within ∙ neg_constant n (form_line c.args.form.now)
