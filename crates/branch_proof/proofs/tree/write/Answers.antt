use Rattle.std.proofs.Common.{◌<◌, ◌≤◌, ◌∙◌, sym, ap, subst, arith, length, get_or, pos}
use Rattle.certificates.specs.declared.proof.ProofNode.TheVariants.{Split}
use Rattle.branch_proof.specs.InsideConverted.{node_with}
use Rattle.certificates.specs.Proofs.{announced_pairs}
use Rattle.branch_proof.specs.InsideNumbers.{AreReady}
use Rattle.branch_proof.proofs.Conversion.{here, node_added, one_counted, own_rows, whole_begins, whole_ends}
use Rattle.branch_proof.proofs.tree.write.Goals as goal

pub loop-node-init : goal.loop-node-init
loop-node-init c =
    record {
      ready = c.requires.ready;
      count = (let none = ap length c.requires.nodes in omega (arith, none));
      on = λ f rows h. whole_begins f c.args.proof.now h c.items-rest.result.now c.args.tree.now.nodes.items
          c.args.tree.now.pairs.items (c.items-rest.ensures ∙ c.pairs.ensures) c.requires.nodes c.requires.pairs;
    }

pub split_at-requires : goal.split_at-requires
split_at-requires c =
    let within = subst (λ ns. c.loop-node.node-index < length ns) c.nodes-node-items.ensures c.loop-node-test.true in
    let many = c.announced_pairs.ensures ∙ ap (λ ns. announced_pairs (get_or ns c.loop-node.node-index (Split 0 (pos 0)))) c.nodes-node-items.ensures in
    let at = here c.requires.proof.0 c.requires.proof.2.tree c.args.proof.now.nodes c.loop-node.node-index
    c.loop-node.rest.now c.loop-node.tree.nodes.items c.loop-node.tree.pairs.items
    (c.loop-node.invariant.on c.requires.proof.0 c.requires.proof.1 c.requires.proof.2) (Split 0 (pos 0)) within in
    subst (λ n. n ≤ length c.loop-node.rest.now) (sym many) at.enough

pub put-requires-clause-within : goal.put-requires-clause-within
put-requires-clause-within c =
    let within = subst (λ ns. c.loop-node.node-index < length ns) c.nodes-node-items.ensures c.loop-node-test.true in
    let many = c.announced_pairs.ensures ∙ ap (λ ns. announced_pairs (get_or ns c.loop-node.node-index (Split 0 (pos 0)))) c.nodes-node-items.ensures in
    own_rows c.requires.proof.0 c.requires.proof.2.tree c.args.proof.now.nodes c.loop-node.node-index
    c.loop-node.rest.now c.loop-node.tree.nodes.items c.loop-node.tree.pairs.items
    (c.loop-node.invariant.on c.requires.proof.0 c.requires.proof.1 c.requires.proof.2) (Split 0 (pos 0)) within
    c.announced_pairs.result many c.split_at.result.0.now c.split_at.result.1.now c.split_at.ensures.front c.split_at.ensures.back
    (length c.loop-node.numbers.by_row.items) (c.requires.proof.1 ∙ sym c.loop-node.invariant.ready.count)

pub loop-node-preserved : goal.loop-node-preserved
loop-node-preserved c =
    let within = subst (λ ns. c.loop-node.node-index < length ns) c.nodes-node-items.ensures c.loop-node-test.true in
    let many = c.announced_pairs.ensures ∙ ap (λ ns. announced_pairs (get_or ns c.loop-node.node-index (Split 0 (pos 0)))) c.nodes-node-items.ensures in
    record {
      ready = subst (λ n. AreReady n c.put.new.self) c.loop-node.invariant.ready.count c.in_ok-count.ensures.ready;
      count = one_counted c.requires.proof.0 c.requires.proof.2.tree c.args.proof.now.nodes c.loop-node.node-index
          c.loop-node.rest.now c.loop-node.tree.nodes.items c.loop-node.tree.pairs.items
          (c.loop-node.invariant.on c.requires.proof.0 c.requires.proof.1 c.requires.proof.2) (Split 0 (pos 0)) within
          c.push.new.self.items c.node_with.result c.in_ok-push.ensures.items c.loop-node.invariant.count;
      on = λ f rows h.
          node_added f h.tree c.args.proof.now.nodes c.loop-node.node-index c.loop-node.rest.now
          c.loop-node.tree.nodes.items c.loop-node.tree.pairs.items (c.loop-node.invariant.on f rows h)
          (Split 0 (pos 0)) within
          c.announced_pairs.result many c.split_at.result.0.now c.split_at.result.1.now c.split_at.ensures.front c.split_at.ensures.back
          c.put.new.pairs.items (length c.loop-node.numbers.by_row.items) (rows ∙ sym c.loop-node.invariant.ready.count)
          c.in_ok-count.ensures.added c.in_ok-count.count c.in_ok-count.ensures.count c.in_ok-count.ensures.few
          c.node_with.result (c.node_with.ensures.node ∙ ap
          (λ ns. node_with (get_or ns c.loop-node.node-index (Split 0 (pos 0))) c.in_ok-count.count)
          c.nodes-node-items.ensures) c.node_with.ensures.number c.push.new.self.items c.in_ok-push.ensures.items;
    }

pub returns-clause-tree : goal.returns-clause-tree
returns-clause-tree c = λ f rows h.
    whole_ends f h.tree c.args.proof.now.nodes c.loop-node.node-index c.loop-node.rest.now c.loop-node.tree.nodes.items c.loop-node.tree.pairs.items (c.loop-node.invariant.on f rows h)
    (subst (λ ns. length ns ≤ c.loop-node.node-index) c.nodes-node-items.ensures c.loop-node-test.false)
