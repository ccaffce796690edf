use Rattle.std.proofs.Common.{◌∙◌, ap}
use Rattle.linear_program.proofs.PlaceTerms.{no_terms, open_line}
use Rattle.linear_program.proofs.form.Form.on_pad.Goals as goal

pub returns-clause-line : goal.returns-clause-line
returns-clause-line c = open_line c.on_pad.result ∙ c.on_pad.ensures.line

pub returns-clause-terms : goal.returns-clause-terms
returns-clause-terms c = no_terms c.on_pad.result.accumulator.value (λ j. ap (λ l. l.coef j) c.on_pad.ensures.line)
