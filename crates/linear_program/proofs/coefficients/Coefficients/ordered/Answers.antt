use Rattle.std.proofs.Common.{subst, sym, ◌∙◌, ap}
use Rattle.linear_program.specs.Coefs.{AreAscending}
use Rattle.linear_program.specs.InsideTermLists.{listed_terms}
use Rattle.linear_program.proofs.DecimalLemmas.{fractions_ascend}
use Rattle.linear_program.proofs.coefficients.Coefficients.ordered.Goals as goal

pub returns-in-Decimals-clause-ascending : goal.returns-in-Decimals-clause-ascending
returns-in-Decimals-clause-ascending c =
    subst (AreAscending 0) (sym (ap listed_terms c.in-Decimals.is) ∙ c.self.view_is) (fractions_ascend 0 c.in-Decimals.terms c.items-items-in-Decimals.ensures.decimals)
