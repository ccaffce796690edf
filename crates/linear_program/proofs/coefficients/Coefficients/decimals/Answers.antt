use Rattle.std.proofs.Common.{subst₂, sym, ◌∙◌, ap}
use Rattle.linear_program.specs.Coefs.{AreDecimalsOf}
use Rattle.linear_program.specs.InsideTermLists.{listed_terms}
use Rattle.linear_program.proofs.DecimalLemmas.{decimals_of}
use Rattle.linear_program.proofs.coefficients.Coefficients.decimals.Goals as goal

pub returns-in-Decimals : goal.returns-in-Decimals
returns-in-Decimals c =
    subst₂ AreDecimalsOf (sym c.items.ensures.items) (sym (ap listed_terms c.in-Decimals.is) ∙ c.self.view_is) (decimals_of 0 c.in-Decimals.terms c.items.ensures.decimals)
