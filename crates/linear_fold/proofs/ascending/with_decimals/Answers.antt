use Rattle.std.proofs.Common.{◌≡◌, ◌∙◌, ◌+◌, ◌++◌, ◌∷◌, [], List, sym, subst, arith, drop, take, true}
use Rattle.exact_numbers.specs.Values.{dec_value, frac_value}
use Rattle.exact_numbers.specs.Fits.{fits}
use Rattle.nl_model.specs.Expressions.{linear_terms}
use Rattle.linear_program.specs.Coefs.{Term}
use Rattle.linear_program.specs.Decimals.{frac_of, fraction_terms}
use Rattle.linear_program.proofs.DecimalLemmas.{AllFit, fit_more, frac_of-value, one_fraction_more}
use Rattle.linear_fold.proofs.Expressions.{IsListed, list_line, none_listed, one_listed, term_at}
use Rattle.linear_fold.proofs.HeldLemmas.{all_listed}
use Rattle.linear_fold.proofs.ascending.with_decimals.Goals as goal

pub loop-index-preserved : goal.loop-index-preserved
loop-index-preserved g c =
    let i = c.loop-index.index in
    let t = c.index-terms-index.result in
    let all = c.args.terms.now in
    let k = frac_value c.args.number in
    let a = list_line k [] in
    let whole = linear_terms all in
    let rest = linear_terms (drop (i + 1) all) in
    let out = fraction_terms (take i all) in
    let at = term_at all i t c.loop-index-test.true c.index-terms-index.is in
    let fit : fits (dec_value t.1) ≡ true = sym c.has_fraction.ensures ∙ c.if-not-has_fraction.false in
    let place : c.args.first + i + 1 ≡ c.args.first + (i + 1) = omega arith in
    let left : IsListed a c.args.first whole k out (c.args.first + i)
    (record { variable = t.0; factor = dec_value t.1 } ∷ rest) =
    subst (λ ts. IsListed a c.args.first whole k out (c.args.first + i) (linear_terms ts)) at
    c.loop-index.invariant.listed in
    let more : IsListed a c.args.first whole k (out ++ (t.0, frac_of t.1) ∷ []) (c.args.first + i + 1) rest =
    one_listed a c.args.first whole k out (c.args.first + i) (record { variable = t.0; factor = dec_value t.1 }) rest
    left (frac_of t.1) fit (frac_of-value t.1 fit) in
    record {
      listed = subst (λ j. IsListed a c.args.first whole k (fraction_terms (take (i + 1) all)) j rest) place
          (subst (λ (ps : List Term). IsListed a c.args.first whole k ps (c.args.first + i + 1) rest)
          (sym (one_fraction_more all i t c.loop-index-test.true c.index-terms-index.is)) more);
      fit = fit_more all (drop (i + 1) all) i t (AllFit all) at fit c.loop-index.invariant.fit;
      counted = let h = c.loop-index.invariant.counted in let k = c.tick-in-loop-index.ensures in omega arith;
    }

pub loop-index-init : goal.loop-index-init
loop-index-init g c =
    let whole = linear_terms c.args.terms.now in
    let k = frac_value c.args.number in
    let start : c.args.first ≡ c.args.first + 0 = omega arith in
    record {
      listed = subst (λ j. IsListed (list_line k []) c.args.first whole k [] j whole) start (none_listed c.args.first whole k c.requires.ascending);
      fit = λ h. h;
      counted = (let h = c.tick.ensures in omega arith);
    }

pub returns-clause-held : goal.returns-clause-held
returns-clause-held g c =
    let i = c.loop-index.index in
    let all = c.args.terms.now in
    all_listed c.args.number c.args.first all i (c.args.first + i) c.loop-index-test.false c.requires.ascending c.loop-index.invariant.listed c.loop-index.invariant.fit
