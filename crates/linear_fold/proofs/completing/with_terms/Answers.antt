use Rattle.std.proofs.Common.{◌∙◌, ap}
use Rattle.linear_program.specs.Decimals.{fraction_terms}
use Rattle.linear_program.specs.Forms.{kept_constant}
use Rattle.linear_program.specs.Lines.{Line}
use Rattle.linear_fold.proofs.CompletionLemmas.{closed_is}
use Rattle.linear_fold.proofs.completing.with_terms.Goals as goal

pub returns : goal.returns
returns c =
    closed_is c.of_terms.result (kept_constant c.args.form.now.kept) (fraction_terms c.args.terms) c.of_terms.ensures.closed c.of_terms.ensures.terms
    (ap (λ (l : Line). l.constant) c.of_terms.ensures.line ∙ c.constant.ensures)
