use Rattle.std.proofs.Common.{subst, sym, ◌∙◌, ap}
use Rattle.linear_program.specs.Coefs.{AreAscending}
use Rattle.linear_program.specs.InsideTermLists.{listed_terms}
use Rattle.linear_program.proofs.DecimalLemmas.{fractions_ascend}
use Rattle.linear_program.proofs.coefficients.Coefficients.terms.Goals as goal

pub returns-in-Fractions-clause-terms : goal.returns-in-Fractions-clause-terms
returns-in-Fractions-clause-terms c = c.items.ensures.items ∙ sym (ap listed_terms c.in-Fractions.is) ∙ c.self.view_is

pub returns-in-Fractions-clause-ascending : goal.returns-in-Fractions-clause-ascending
returns-in-Fractions-clause-ascending c = subst (AreAscending 0) (sym (ap listed_terms c.in-Fractions.is) ∙ c.self.view_is) c.items.ensures.ascending

pub returns-in-Decimals-clause-terms : goal.returns-in-Decimals-clause-terms
returns-in-Decimals-clause-terms c = sym (ap listed_terms c.in-Decimals.is) ∙ c.self.view_is

pub returns-in-Decimals-clause-ascending : goal.returns-in-Decimals-clause-ascending
returns-in-Decimals-clause-ascending c =
    subst (AreAscending 0) (sym (ap listed_terms c.in-Decimals.is) ∙ c.self.view_is) (fractions_ascend 0 c.in-Decimals.terms c.items-items.ensures.decimals)
