use Rattle.std.proofs.Common.{◌∙◌, sym, arith}
use Rattle.mps_program.proofs.TermLemmas.{wide_here, wide_later, wide_end}
use Rattle.mps_program.proofs.terms.has_wide_term.Goals as goal

pub returns-then-not-has_fraction : goal.returns-then-not-has_fraction
returns-then-not-has_fraction c = sym (wide_here c.args.terms.now c.terms.term-index c.term-item.result (omega arith)
    c.term-item.is (sym c.has_fraction.ensures ∙ c.if-not-has_fraction.true)) ∙ c.terms.invariant

pub terms-preserved : goal.terms-preserved
terms-preserved c = wide_later c.args.terms.now c.terms.term-index c.term-item.result (omega arith) c.term-item.is (sym c.has_fraction.ensures ∙ c.if-not-has_fraction.false) ∙ c.terms.invariant

pub returns : goal.returns
returns c = sym (wide_end c.args.terms.now c.terms.term-index (omega arith)) ∙ c.terms.invariant
