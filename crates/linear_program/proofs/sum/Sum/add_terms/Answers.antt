use Rattle.std.proofs.Common.{◌∙◌, ap, arith, length, subst, sym}
use Rattle.exact_numbers.specs.Values.{frac_value}
use Rattle.linear_program.specs.Coefs.{AreBelow}
use Rattle.linear_program.specs.Forms.{place_count, sum_line, terms_left}
use Rattle.linear_program.proofs.Scaled.{steps_left, term_added}
use Rattle.linear_program.proofs.sum.Sum.add_terms.Goals as goal

pub loop-term-preserved : goal.loop-term-preserved
loop-term-preserved g c =
    let t = c.in-Some.term in
    let k = frac_value c.args.k in
    let old = c.loop-term.self in
    let new = c.add_term.new.self in
    let left = terms_left c.loop-term.term-iterator in
    let rest = terms_left c.next.new.self in
    let i = c.loop-term.invariant in
    let at = c.in-Some.ensures.steps in
    let added = term_added (sum_line old) (sum_line new) k t (frac_value c.in-Some-mul.scaled) c.in-Some-mul.ensures.1 c.in-Some-mul.ensures.0 c.in-Ok.ensures.constant c.in-Ok.ensures.adds in
    let go = steps_left (sum_line old) (sum_line new) k t rest left at added in (
      tt,
      tt,
      go.0 ∙ i.2,
      go.1 ∙ i.3,
      subst (λ n. AreBelow n rest) (sym c.in-Ok.ensures.places) (subst (AreBelow (place_count old)) at i.4).1,
      c.in-Ok.ensures.places ∙ i.5,
      let h = i.6 in let n = c.tick.ensures in let l = ap length at in omega arith,
      let h = i.7 in let n = c.tick.ensures in omega arith,
    )
