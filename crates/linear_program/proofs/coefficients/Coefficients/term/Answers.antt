use Rattle.std.proofs.Common.{◌≡◌, ◌∙◌, ap, get_or, refl, subst, sym}
use Rattle.linear_program.specs.Numbers.{IsTermAt}
use Rattle.linear_program.specs.InsideTermLists.{listed_terms}
use Rattle.linear_program.proofs.coefficients.Coefficients.term.Goals as goal

pub returns-in-Fractions : goal.returns-in-Fractions
returns-in-Fractions c =
    let t = c.index-items-place.result in
    (t, subst (λ ts. t ≡ get_or ts c.args.place t) (c.items-items.ensures.items ∙ sym (ap listed_terms c.in-Fractions.is) ∙ c.self.view_is) c.index-items-place.is, refl, refl)

pub returns-in-Decimals : goal.returns-in-Decimals
returns-in-Decimals c = subst (λ ts. IsTermAt ts c.args.place c.number_at.result) (sym (ap listed_terms c.in-Decimals.is) ∙ c.self.view_is) c.number_at.ensures
