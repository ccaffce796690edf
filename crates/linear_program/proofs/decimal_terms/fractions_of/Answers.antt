use Rattle.std.proofs.Common.{◌≡◌, ◌∙◌, ◌∷◌, ◌++◌, [], true, false, ap, arith, subst, sym, take, take_all}
use Rattle.linear_program.specs.Coefs.{AreAscending}
use Rattle.linear_program.specs.Decimals.{fraction_terms}
use Rattle.linear_program.proofs.DecimalLemmas.{fits_at, fractions_ascend, is_frac_of, one_fraction_more}
use Rattle.linear_program.proofs.decimal_terms.fractions_of.Goals as goal

pub unreachable-requires : goal.unreachable-requires
unreachable-requires c =
    let clash : true ≡ false = sym (fits_at c.args.terms.now c.loop-i.i c.index-terms-i.result c.loop-i-test.true c.index-terms-i.is c.requires) ∙ c.in_default.ensures in
    cc

pub loop-i-preserved : goal.loop-i-preserved
loop-i-preserved c =
    let t = c.index-terms-i.result in
    let fit = fits_at c.args.terms.now c.loop-i.i t c.loop-i-test.true c.index-terms-i.is c.requires in
    c.in_ok-push.ensures.items
    ∙ ap (λ ts. ts ++ (t.0, c.in-Some.fraction) ∷ []) c.loop-i.invariant
    ∙ ap (λ f. fraction_terms (take c.loop-i.i c.args.terms.now) ++ (t.0, f) ∷ []) (is_frac_of t.1 c.in-Some.fraction fit c.in-Some.ensures.1)
    ∙ sym (one_fraction_more c.args.terms.now c.loop-i.i t c.loop-i-test.true c.index-terms-i.is)

pub returns-clause-ascending : goal.returns-clause-ascending
returns-clause-ascending c =
    let all = c.loop-i.invariant ∙ ap fraction_terms (take_all c.loop-i.i c.args.terms.now (omega arith)) in
    subst (AreAscending 0) (sym all) (fractions_ascend 0 c.args.terms.now c.requires)
