use Rattle.std.proofs.Common.{◌∙◌, ap, subst, sym}
use Rattle.linear_program.specs.Coefs.{coef_in}
use Rattle.exact_checks.specs.Terms.{AreTerms}
use Rattle.linear_program.proofs.CoefLemmas.{not_zero}
use Rattle.linear_program.specs.Numbers.{number_value}
use Rattle.certificate_judge.proofs.Planes.{built_sum, built_terms, nothing_built, pair_added, pair_skipped}
use Rattle.certificate_judge.proofs.Written.{number_at}
use Rattle.certificate_judge.proofs.plane.terms_of.Goals as goal

pub loop-pair-init : goal.loop-pair-init
loop-pair-init c = nothing_built c.args.pairs.now c.in_ok-terms.terms.items c.requires.0 c.requires.1 c.in_ok-terms.ensures.items

pub fraction-requires : goal.fraction-requires
fraction-requires c = (number_at 0 c.requires.0 c.args.pairs.now c.loop-pair.pair-index c.pair-item.result c.requires.1 c.loop-pair-test.true c.pair-item.is).1

pub loop-pair-preserved-then-is_zero : goal.loop-pair-preserved-then-is_zero
loop-pair-preserved-then-is_zero c = pair_skipped c.args.pairs.now c.loop-pair.terms.items c.loop-pair.pair-index
    c.loop-pair.invariant c.requires.0 c.requires.1 c.pair-item.result c.loop-pair-test.true c.pair-item.is
    (c.is_zero.ensures.0 c.if-is_zero.true)

pub loop-pair-preserved : goal.loop-pair-preserved
loop-pair-preserved c = pair_added c.args.pairs.now c.loop-pair.terms.items c.loop-pair.pair-index c.loop-pair.invariant
    c.requires.0 c.requires.1 c.pair-item.result c.loop-pair-test.true c.pair-item.is c.fraction.result
    c.push.new.self.items c.fraction.ensures
    (not_zero c.is_zero.result (number_value c.pair-item.result.1) c.is_zero.ensures.1 c.if-is_zero.false) c.in_ok-push.ensures.items

pub returns-clause-sum : goal.returns-clause-sum
returns-clause-sum c = ap coef_in c.of_items.ensures ∙ built_sum c.args.pairs.now c.loop-pair.terms.items c.loop-pair.pair-index c.loop-pair.invariant c.loop-pair-test.false

pub returns-clause-terms : goal.returns-clause-terms
returns-clause-terms c n all = subst (AreTerms 0 n) (sym c.of_items.ensures) (built_terms c.args.pairs.now c.loop-pair.terms.items c.loop-pair.pair-index c.loop-pair.invariant n all)

pub of_items-requires : goal.of_items-requires
of_items-requires c = c.loop-pair.invariant.ascending
