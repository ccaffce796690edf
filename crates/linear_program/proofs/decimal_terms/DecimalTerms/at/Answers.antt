use Rattle.std.proofs.Common.{◌≡◌, ◌∙◌, true, false, get_or, sym, subst}
use Rattle.linear_program.proofs.DecimalLemmas.{fits_at, fraction_at}
use Rattle.linear_program.proofs.decimal_terms.DecimalTerms.at.Goals as goal

pub unreachable-requires : goal.unreachable-requires
unreachable-requires c =
    let t = c.index-items-place.result in
    let there : t ≡ get_or c.args.self.now c.args.place t = subst (λ ds. t ≡ get_or ds c.args.place t) c.items-items.ensures.items c.index-items-place.is in
    let clash : true ≡ false = sym (fits_at c.args.self.now c.args.place t c.requires there c.items-items.ensures.decimals) ∙ c.in-None.ensures in
    cc

pub returns : goal.returns
returns c =
    let t = c.index-items-place.result in
    let there : t ≡ get_or c.args.self.now c.args.place t = subst (λ ds. t ≡ get_or ds c.args.place t) c.items-items.ensures.items c.index-items-place.is in
    fraction_at c.args.self.now c.args.place t c.requires there c.items-items.ensures.decimals c.in-Some.fraction c.in-Some.ensures.1
