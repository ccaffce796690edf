use Rattle.std.proofs.Common.{◌≡◌, get_or, refl, subst, sym}
use Rattle.linear_program.specs.Decimals.{frac_of}
use Rattle.linear_program.proofs.DecimalLemmas.{fits_at, fraction_at, frac_of-value}
use Rattle.linear_program.proofs.decimal_terms.DecimalTerms.number_at.Goals as goal

pub returns : goal.returns
returns c =
    let ds = c.args.self.now in
    let d = c.index-items-place.result in
    let there : d ≡ get_or ds c.args.place d = subst (λ xs. d ≡ get_or xs c.args.place d) c.items-items.ensures.items c.index-items-place.is in
    let all = c.items-items.ensures.decimals in
    let value = frac_of-value d.1 (fits_at ds c.args.place d c.requires there all) in
    ((d.0, frac_of d.1), fraction_at ds c.args.place d c.requires there all (frac_of d.1) value, refl, sym value)
