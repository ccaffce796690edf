use Rattle.std.proofs.Common.{◌≡◌, ◌∷◌, [], ◌-◌, ◌+◌, ◌*◌, ◌≤◌, ◌<◌, length, reverse, drop, sym, ap, subst, subst₂, arith, ◌∙◌, length-append}
use Rattle.nl_model.specs.Nodes.{trees_of, with_node}
use Rattle.linear_fold.specs.InsideFolds.{ArePartsFolded, ArePartsWithin, IsPartWithin, NodeFinds}
use Rattle.linear_fold.proofs.Folding.{entry_folded, entry_is_within, no_step, some_node, node_at, finds_at, top_first, top_folded, tree_steps, stopped_steps, last_steps}
use Rattle.linear_fold.proofs.Operators.{if_ok}
use Rattle.linear_fold.proofs.StackLemmas.{part_placed, same_folded, same_within}
use Rattle.linear_fold.proofs.SumLemmas.{popped_length}
use Rattle.linear_fold.proofs.fold.fold_tree.Goals as goal
use Rattle.linear_fold.proofs.fold.fold_tree.Goals.{After-take_last-part}

pub returns-in_err-stack-clause-below : goal.returns-in_err-stack-clause-below
returns-in_err-stack-clause-below g c = no_step (c.args.variables + 1) c.args.steps.now (length c.args.nodes.now) (some_node c.args.nodes.now c.requires.one)

pub part_of-requires-clause-finds : goal.part_of-requires-clause-finds
part_of-requires-clause-finds g c =
    let here = node_at c.args.nodes.now c.loop-place.place c.index-nodes-place.result c.loop-place-test.true c.loop-place.auto.place c.index-nodes-place.is in
    let found = finds_at c.args.variables c.args.slots.now c.args.nodes.now (drop c.loop-place.place c.args.nodes.now)
    (c.loop-place.place - 1) c.index-nodes-place.result c.requires.formed c.requires.within here in
    subst (λ r. NodeFinds c.args.variables c.args.slots.now r c.index-nodes-place.result) (omega (arith, c.loop-place.invariant.many, c.loop-place.stack.ok.0)) found

pub loop-place-preserved : goal.loop-place-preserved
loop-place-preserved g c =
    let here = node_at c.args.nodes.now c.loop-place.place c.index-nodes-place.result c.loop-place-test.true c.loop-place.auto.place c.index-nodes-place.is in
    let got = c.in_ok-part.ensures in
    let trees = trees_of (drop c.loop-place.place c.args.nodes.now) in
    let pushed = c.in_ok-put_part.ensures.items in
    let top = top_first c.put_part.new.stack.items c.part_of.new.stack.items c.in_ok-part.part pushed in
    let longer : length c.put_part.new.stack.items ≡ length c.part_of.new.stack.items + 1 = ap length pushed ∙ length-append c.part_of.new.stack.items (c.in_ok-part.part ∷ []) in
    record {
      folded = λ known are.
          subst₂ (λ ts es. ArePartsFolded known c.args.variables (c.loop-place.place - 1) ts es) (sym (ap trees_of here)) (sym top)
          (got.part known trees are (subst (λ q. ArePartsFolded known c.args.variables q trees
          (reverse c.loop-place.stack.items)) (let h = c.loop-place-test.true in omega arith)
          (c.loop-place.invariant.folded known are)));
      many =
          (let a : length (trees_of (drop (c.loop-place.place - 1) c.args.nodes.now)) ≡ length (with_node c.index-nodes-place.result trees) = ap (λ ns. length (trees_of ns)) here in
          omega (arith, got.size trees c.loop-place.invariant.many, longer));
      within = subst (λ es. ArePartsWithin c.args.variables es) (sym top) got.within;
      pad = rw c.in_ok-put_part.ensures.pad got.pad;
      above = (let h = c.loop-place.invariant.above in let k = got.above in omega arith);
      below =
          subst (λ k. c.part_of.new.steps + 2 * (c.args.variables + 1) * k ≤ c.args.steps.now + 2 * (c.args.variables + 1) * (length c.args.nodes.now - (c.loop-place.place - 1))) (sym longer)
          (tree_steps (c.args.variables + 1) (length c.args.nodes.now) c.loop-place.place c.args.steps.now
          c.loop-place.steps c.part_of.new.steps (length c.loop-place.stack.items) (length c.part_of.new.stack.items)
          c.loop-place-test.true c.loop-place.auto.place c.loop-place.invariant.below
          (subst₂ (λ a b. c.part_of.new.steps + 2 * (c.args.variables + 1) * a
          ≤ c.loop-place.steps + 2 * (c.args.variables + 1) * b) (omega (arith, c.part_of.new.stack.ok.0))
          (omega (arith, c.loop-place.stack.ok.0)) got.used));
    }

-- the one part that is left
top : (g : _) (c : After-take_last-part g) → reverse c.loop-place.stack.items ≡ c.take_last-part.result ∷ reverse c.take_last-part.new.stack.items
top g c = top_first c.loop-place.stack.items c.take_last-part.new.stack.items c.take_last-part.result c.take_last-part.ensures

top_within : (g : _) (c : After-take_last-part g) → IsPartWithin c.args.variables c.take_last-part.result
top_within g c = (subst (ArePartsWithin c.args.variables) (top g c) c.loop-place.invariant.within).0

pub take_last-part-requires : goal.take_last-part-requires
take_last-part-requires g c =
    let none : c.loop-place.place ≡ 0 = (let h = c.loop-place-test.false in omega arith) in
    let many = subst (λ p. length (trees_of (drop p c.args.nodes.now)) ≡ length c.loop-place.stack.items) none c.loop-place.invariant.many in
    let one = c.requires.one in
    let k = c.loop-place.stack.ok.0 in
    omega arith

pub close-requires-clause-part : goal.close-requires-clause-part
close-requires-clause-part g c = part_placed c.args.variables c.take_last-part.result (top_within g (goal.at.close-requires-clause-part g c).After-take_last-part)

pub into_entry-requires : goal.into_entry-requires
into_entry-requires g c = same_within c.args.variables c.take_last-part.result c.close.new.self c.in_ok-close.ensures.same (top_within g (goal.at.into_entry-requires g c).After-take_last-part)

pub returns-clause-entry : goal.returns-clause-entry
returns-clause-entry g c =
    if_ok c.into_entry.result _ _
    (λ e is known tree are one.
    entry_folded known c.args.variables tree c.close.new.self e is
    (same_folded known c.args.variables 0 tree c.take_last-part.result c.close.new.self c.in_ok-close.ensures.same
    (top_folded known c.args.variables c.loop-place.place c.args.nodes.now tree c.loop-place.stack.items
    c.take_last-part.new.stack.items c.take_last-part.result (let h = c.loop-place-test.false in omega arith) one
    (c.loop-place.invariant.folded known are) c.take_last-part.ensures)))
    c.into_entry.ensures.entry

pub returns-clause-within : goal.returns-clause-within
returns-clause-within g c =
    if_ok c.into_entry.result _ _
    (λ e is. entry_is_within c.args.variables c.close.new.self e is
    (same_within c.args.variables c.take_last-part.result c.close.new.self c.in_ok-close.ensures.same
    (top_within g (goal.at.returns-clause-within g c).After-take_last-part)))
    c.into_entry.ensures.entry

pub returns-in_err-part-clause-below : goal.returns-in_err-part-clause-below
returns-in_err-part-clause-below g c =
    stopped_steps (c.args.variables + 1) (length c.args.nodes.now) c.loop-place.place c.args.steps.now
    c.loop-place.steps c.part_of.new.steps (length c.loop-place.stack.items) c.loop-place-test.true
    c.loop-place.auto.place c.loop-place.invariant.below
    (subst (λ b. c.part_of.new.steps ≤ c.loop-place.steps + 2 * (c.args.variables + 1) * b) (omega (arith, c.loop-place.stack.ok.0)) c.in_err-part.ensures.below)

pub returns-in_err-put_part-clause-below : goal.returns-in_err-put_part-clause-below
returns-in_err-put_part-clause-below g c =
    stopped_steps (c.args.variables + 1) (length c.args.nodes.now) c.loop-place.place c.args.steps.now
    c.loop-place.steps c.part_of.new.steps (length c.loop-place.stack.items) c.loop-place-test.true
    c.loop-place.auto.place c.loop-place.invariant.below
    (subst (λ b. c.part_of.new.steps ≤ c.loop-place.steps + 2 * (c.args.variables + 1) * b) (omega (arith, c.loop-place.stack.ok.0)) c.in_ok-part.ensures.below)

some_left : (g : _) (c : After-take_last-part g) → 0 < length c.loop-place.stack.items
some_left g c = (let h = popped_length c.loop-place.stack.items c.take_last-part.new.stack.items c.take_last-part.result c.take_last-part.ensures in omega arith)

pub returns-in_err-close-clause-below : goal.returns-in_err-close-clause-below
returns-in_err-close-clause-below g c =
    last_steps (c.args.variables + 1) (length c.args.nodes.now) c.loop-place.place c.args.steps.now c.loop-place.steps
    c.loop-place.steps (length c.loop-place.stack.items) (some_left g
    (goal.at.returns-in_err-close-clause-below g c).After-take_last-part) c.loop-place.invariant.below (omega arith)

pub returns-clause-below : goal.returns-clause-below
returns-clause-below g c =
    last_steps (c.args.variables + 1) (length c.args.nodes.now) c.loop-place.place c.args.steps.now c.loop-place.steps
    c.into_entry.new.steps (length c.loop-place.stack.items)
    (some_left g (goal.at.returns-clause-below g c).After-take_last-part) c.loop-place.invariant.below
    c.into_entry.ensures.below
