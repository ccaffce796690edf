use Rattle.std.proofs.Common.{subst₂, sym, ◌∙◌, ap}
use Rattle.linear_program.specs.Coefs.{AreDecimalsOf}
use Rattle.linear_program.specs.Decimals.{fraction_terms}
use Rattle.linear_program.specs.InsideTermLists.{listed_terms}
use Rattle.linear_program.proofs.DecimalLemmas.{decimals_of}
use Rattle.linear_program.proofs.coefficients.Coefficients.into_terms.Goals as goal

pub returns-in-Decimals : goal.returns-in-Decimals
returns-in-Decimals c =
    subst₂ AreDecimalsOf (sym c.into_terms.ensures.terms) (ap fraction_terms c.in-Decimals.terms-is
    ∙ sym (ap listed_terms c.in-Decimals.is) ∙ c.self.view_is) (decimals_of 0 _ c.into_terms.ensures.decimals)
