use Rattle.std.proofs.Common.{ap, arith, length}
use Rattle.exact_numbers.specs.Values.{frac_value}
use Rattle.linear_program.specs.Forms.{terms_left}
use Rattle.linear_program.proofs.Products.{all_products, later_wide, one_product, one_wide}
use Rattle.linear_program.proofs.form.products_of.Goals as goal

pub loop-term-preserved : goal.loop-term-preserved
loop-term-preserved g c =
    let k = frac_value c.args.k in
    let i = c.loop-term.invariant in
    let all = terms_left c.args.terms in
    let left = terms_left c.loop-term.term-iterator in
    let rest = terms_left c.next.new.self in
    let at = c.in-Some.ensures.steps in (
      tt,
      tt,
      one_product k all left rest c.in-Some.term at c.loop-term.products.items c.push.new.self.items
          c.in-Some-mul.product c.in_ok-push.ensures.items c.in-Some-mul.ensures.0 c.in-Some-mul.ensures.1 i.2,
      λ w. i.3 (later_wide k all left rest c.in-Some.term at w),
      let h = i.4 in let n = c.tick.ensures in let l = ap length at in omega arith,
      let h = i.5 in let n = c.tick.ensures in omega arith,
    )

pub returns-in_default-clause-wide : goal.returns-in_default-clause-wide
returns-in_default-clause-wide g c =
    let k = frac_value c.args.k in
    c.loop-term.invariant.3 (one_wide k (terms_left c.args.terms) (terms_left c.loop-term.term-iterator) (terms_left c.next.new.self) c.in-Some.term c.in-Some.ensures.steps c.in_default.ensures)

pub returns-clause-products : goal.returns-clause-products
returns-clause-products g c = all_products (frac_value c.args.k) (terms_left c.args.terms)
    (terms_left c.loop-term.term-iterator) c.loop-term.products.items c.in-None.ensures.steps.0 c.loop-term.invariant.2
