use Rattle.std.proofs.Common.{◌≡◌, ◌∙◌, ◌+◌, sym, ap, arith, drop}
use Rattle.nl_model.specs.Faults.{line_with_terms, terms_fault}
use Rattle.nl_model.specs.Expressions.{linear_terms}
use Rattle.linear_program.specs.Forms.{sum_line}
use Rattle.linear_fold.proofs.Expressions.{fault_past, term_at}
use Rattle.linear_fold.proofs.expression.add_linear_terms.Goals as goal
use Rattle.exact_numbers.specs.Values.{dec_value}

pub loop-index-preserved : goal.loop-index-preserved
loop-index-preserved g c =
    let i = c.loop-index.index in
    let all = c.args.terms.now in
    let t = c.index-terms-index.result in
    let a = sum_line c.loop-index.total in
    let new = sum_line c.add_one.new.total in
    let rest = linear_terms (drop (i + 1) all) in
    let at = term_at all i t c.loop-index-test.true c.index-terms-index.is in
    let place : c.args.first + (i + 1) ≡ c.args.first + i + 1 = omega arith in
    record {
      fault =
          ap (λ j. terms_fault new j rest) place
          ∙ sym (fault_past a new (c.args.first + i) (record { variable = t.0; factor = dec_value t.1 }) rest c.in-Ok.ensures.adds)
          ∙ ap (λ ts. terms_fault a (c.args.first + i) (linear_terms ts)) (sym at)
          ∙ c.loop-index.invariant.fault;
      line =
          ap (λ m. line_with_terms m rest) c.in-Ok.ensures.adds.1
          ∙ ap (λ ts. line_with_terms a (linear_terms ts)) (sym at)
          ∙ c.loop-index.invariant.line;
      places = c.in-Ok.ensures.places ∙ c.loop-index.invariant.places;
      counted = (let h = c.loop-index.invariant.counted in let k = c.tick.ensures in omega arith);
    }
