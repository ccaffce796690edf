use Rattle.std.proofs.Common.{◌≡◌, ◌+◌, ◌-◌, suc, arith, drop}
use Rattle.exact_numbers.specs.Rational.{zero_ℚ}
use Rattle.nl_model.specs.Nodes.{trees_of}
use Rattle.linear_program.specs.Forms.{parts_line}
use Rattle.linear_fold.specs.InsideLeafSums.{Appends}
use Rattle.linear_fold.proofs.LeafLemmas.{leaves_end, multiple_more, terms_from, terms_more}
use Rattle.linear_fold.proofs.leaf_sums.add_multiples.Goals as goal

pub loop-preserved : goal.loop-preserved
loop-preserved g c =
    let m = c.in-Some.multiple in
    let n = c.args.variables in
    let old = c.loop.terms.items in
    let new = c.append.new.terms.items in
    let adds : Appends n c.loop.least old m new = c.in_ok-added.ensures c.if-not-added.false in
    let left : c.args.count - c.loop.counter ≡ suc (c.args.count - (c.loop.counter + 1)) = (let h = c.loop-test.true in omega arith) in
    record {
      within = c.in-Some.ensures.within;
      terms = terms_more n c.loop.least m old new c.loop.invariant.terms adds;
      few = (let h = adds.inside in omega arith);
      leads = λ known line rest.
          c.loop.invariant.leads known line
          (multiple_more known n c.args.nodes.now c.loop.place c.loop.least (c.args.count - (c.loop.counter + 1))
          (c.args.count - c.loop.counter) m old new line c.in-Some.ensures c.loop.invariant.terms.below adds left
          rest);
      above = (let h = c.loop.invariant.above in let k = c.tick.ensures in omega arith);
      below = (let h = c.loop.invariant.below in let k = c.tick.ensures in let l = adds.up in omega arith);
    }

pub returns-clause-terms : goal.returns-clause-terms
returns-clause-terms g c t = terms_from c.loop.least c.args.variables c.loop.terms.items c.loop.invariant.few c.loop.invariant.terms

pub returns-clause-sum : goal.returns-clause-sum
returns-clause-sum g c known t =
    c.loop.invariant.leads known (parts_line zero_ℚ c.loop.terms.items)
    (leaves_end known c.args.variables c.loop.place (c.args.count - c.loop.counter)
    (trees_of (drop c.loop.place c.args.nodes.now)) (parts_line zero_ℚ c.loop.terms.items)
    (let h = c.loop-test.false in omega arith))
