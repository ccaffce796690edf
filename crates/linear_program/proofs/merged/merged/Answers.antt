use Rattle.std.proofs.Common.{◌∙◌, ◌++◌, ap, arith, drop, length, refl, subst, suc}
use Rattle.exact_numbers.specs.Values.{frac_value}
use Rattle.exact_numbers.specs.Rational.{ℚ}
use Rattle.linear_program.specs.Coefs.{AreAscending}
use Rattle.linear_program.specs.Forms.{parts_line, terms_left}
use Rattle.linear_program.proofs.CoefLemmas.{below_from}
use Rattle.linear_program.proofs.Scaled.{steps_left, term_added}
use Rattle.linear_program.proofs.merged.merged.Goals as goal

pub returns-in_default-clause-above : goal.returns-in_default-clause-above
returns-in_default-clause-above g c = let h = c.loop-term.invariant.8 in let n = c.tick.ensures in omega arith

pub returns-in-Err-clause-above : goal.returns-in-Err-clause-above
returns-in-Err-clause-above g c = let h = c.loop-term.invariant.8 in let n = c.tick.ensures in omega arith

pub add_merged-requires-clause-below : goal.add_merged-requires-clause-below
add_merged-requires-clause-below g c =
    let bound = c.loop-term.invariant.6 in
    let here = subst (AreAscending bound.0) c.in-Some.ensures.steps bound.2 in
    below_from bound.0 c.in-Some.term.0 c.loop-term.done.items here.0 bound.1

pub loop-term-preserved : goal.loop-term-preserved
loop-term-preserved g c =
    let k = frac_value c.args.k in
    let t = c.in-Some.term in
    let left = terms_left c.loop-term.term-iterator in
    let rest = terms_left c.next.new.self in
    let list = c.args.list.now in
    let old = c.loop-term.done.items ++ drop c.loop-term.at list in
    let new = c.add_merged.new.done.items ++ drop c.in-Ok.next list in
    let i = c.loop-term.invariant in
    let at = c.in-Some.ensures.steps in
    let bound = i.6 in
    let here = subst (AreAscending bound.0) at bound.2 in
    let added = λ (q : ℚ). term_added (parts_line q old) (parts_line q new) k t (frac_value c.in-Some-mul.scaled) c.in-Some-mul.ensures.1 c.in-Some-mul.ensures.0 refl c.in-Ok.ensures.adds in
    let go = λ (q : ℚ). steps_left (parts_line q old) (parts_line q new) k t rest left at (added q) in (
      tt,
      tt,
      λ q. (go q).0 ∙ i.2 q,
      λ q. (go q).1 ∙ i.3 q,
      c.in-Ok.ensures.ascending,
      c.in-Ok.ensures.within,
      (suc t.0, c.in-Ok.ensures.below, here.2),
      let h = i.7 in let n = c.tick.ensures in let l = ap length at in omega arith,
      let h = i.8 in let n = c.tick.ensures in omega arith,
    )
