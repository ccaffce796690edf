use Rattle.std.proofs.Common.{◌≡◌, ◌+◌, ◌-◌, suc, arith, drop}
use Rattle.nl_model.specs.Nodes.{trees_of}
use Rattle.linear_fold.specs.InsideLeafSums.{AddsLeaf, leaves_line}
use Rattle.linear_fold.proofs.LeafLemmas.{leaf_more, leaves_end}
use Rattle.linear_fold.proofs.leaf_sums.add_leaves.Goals as goal

pub loop-preserved : goal.loop-preserved
loop-preserved g c =
    let leaf = c.in-Some.leaf in
    let adds : AddsLeaf c.args.variables c.loop.sum leaf.variable leaf.factor c.add_leaf.new.sum = c.in_ok-added.ensures c.if-not-added.false in
    let left : c.args.count - c.loop.counter ≡ suc (c.args.count - (c.loop.counter + 1)) = (let h = c.loop-test.true in omega arith) in
    record {
      within = c.in-Some.ensures.within;
      leaves = adds.leaves;
      leads = λ known line rest.
          c.loop.invariant.leads known line
          (leaf_more known c.args.variables c.args.nodes.now c.loop.place (c.args.count - (c.loop.counter + 1))
          (c.args.count - c.loop.counter) leaf c.loop.sum c.add_leaf.new.sum line c.in-Some.ensures adds left rest);
      above = (let h = c.loop.invariant.above in let k = c.tick.ensures in omega arith);
      below = (let h = c.loop.invariant.below in let k = c.tick.ensures in let m = adds.more in omega arith);
    }

pub returns-clause-sum : goal.returns-clause-sum
returns-clause-sum g c known t =
    c.loop.invariant.leads known (leaves_line c.loop.sum)
    (leaves_end known c.args.variables c.loop.place (c.args.count - c.loop.counter) (trees_of (drop c.loop.place c.args.nodes.now)) (leaves_line c.loop.sum) (let h = c.loop-test.false in omega arith))
