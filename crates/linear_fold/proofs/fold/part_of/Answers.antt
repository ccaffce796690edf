use Rattle.std.proofs.Common.{◌≡◌, ◌≤◌, ◌∷◌, ◌∙◌, ◌+◌, ◌-◌, drop, length, refl, reverse, sym, ap, subst, take, arith, vec_len}
use Rattle.std.proofs.lemmas.List.{length-reverse, length-take-le}
use Rattle.nl_model.specs.Trees.{Takes, operator, rule_of}
use Rattle.nl_model.specs.Nodes.{with_node}
use Rattle.linear_fold.specs.InsideFolds.{ArePartsFolded, ArePartsWithin, IsPartFolded, NodeFinds}
use Rattle.linear_fold.proofs.Folding.{entry_steps, operator_size, operator_step, within_take, within_parts_drop}
use Rattle.linear_fold.proofs.StackLemmas.{left_within, parts_folded, parts_length, parts_within, rest_of}
use Rattle.linear_fold.proofs.SumLemmas.{left_shorter}
use Rattle.linear_fold.proofs.fold.part_of.Goals as goal
use Rattle.linear_fold.proofs.fold.part_of.Goals.{After-make_way, After-operation_part, In_ok-let_go-in-Op}

-- the operator has its operands on the stack
found : (g : _) (c : After-make_way g) → Takes (rule_of c.class_of-class.result) c.in-Op.count × (c.in-Op.count ≤ length c.args.stack.now.items)
found g c =
    let at = subst (NodeFinds c.args.variables c.args.slots.now (vec_len c.args.stack.now)) c.in-Op.is c.requires.finds in
    (subst (λ class. Takes (rule_of class) c.in-Op.count) (sym c.class_of-class.ensures) at.0, (let h = at.1 in let k = c.args.stack.now.ok.0 in omega arith))

-- after the open part is closed, where it has to be
within_now : (g : _) (c : After-operation_part g) → ArePartsWithin c.args.variables (reverse c.make_way.new.stack.items)
within_now g c = parts_within c.args.variables (reverse c.args.stack.now.items) (reverse c.make_way.new.stack.items) c.in_ok-make_way-in-Op.ensures.same c.requires.parts

size_now : (g : _) (c : After-operation_part g) → length c.make_way.new.stack.items ≡ length c.args.stack.now.items
size_now g c = sym (length-reverse c.make_way.new.stack.items)
    ∙ parts_length (reverse c.args.stack.now.items) (reverse c.make_way.new.stack.items)
    c.in_ok-make_way-in-Op.ensures.same ∙ length-reverse c.args.stack.now.items

-- what is left at the end
left : (g : _) (c : In_ok-let_go-in-Op g) → reverse c.let_go.new.stack.items ≡ drop c.in-Op.count (reverse c.make_way.new.stack.items)
left g c =
    let at = subst (NodeFinds c.args.variables c.args.slots.now (vec_len c.args.stack.now)) c.in-Op.is c.requires.finds in
    let same : length c.make_way.new.stack.items ≡ length c.args.stack.now.items =
    sym (length-reverse c.make_way.new.stack.items)
    ∙ parts_length (reverse c.args.stack.now.items) (reverse c.make_way.new.stack.items) c.in_ok-make_way-in-Op.ensures.same
    ∙ length-reverse c.args.stack.now.items in
    rest_of c.make_way.new.stack.items c.operation_part.new.stack.items c.let_go.new.stack.items c.in-Op.count (c.len.result - c.in-Op.count) c.in_ok-part-in-Op.ensures.left
    (let h = at.1 in let l = c.len.ensures in let k = c.args.stack.now.ok.0 in omega arith)
    c.in_ok-let_go-in-Op.ensures.front

pub returns-in-Num-clause-within : goal.returns-in-Num-clause-within
returns-in-Num-clause-within g c = (c.number_part.ensures.within c.args.variables, c.requires.parts)

pub returns-in-Num-clause-part : goal.returns-in-Num-clause-part
returns-in-Num-clause-part g c known trees are folded = rw c.in-Num.is (c.number_part.ensures.part c.args.variables known, folded)

pub returns-in-Var-clause-part : goal.returns-in-Var-clause-part
returns-in-Var-clause-part g c known trees are folded =
    let at = subst (NodeFinds c.args.variables c.args.slots.now (vec_len c.args.stack.now)) c.in-Var.is c.requires.finds in
    rw c.in-Var.is (c.variable_part.ensures.part c.args.variables c.args.place known at, folded)

pub returns-in-Var-clause-within : goal.returns-in-Var-clause-within
returns-in-Var-clause-within g c =
    let at = subst (NodeFinds c.args.variables c.args.slots.now (vec_len c.args.stack.now)) c.in-Var.is c.requires.finds in
    (c.variable_part.ensures.within c.args.variables at, c.requires.parts)

pub operation_part-requires-clause-count : goal.operation_part-requires-clause-count
operation_part-requires-clause-count g c =
    let at = goal.at.operation_part-requires-clause-count g c in
    let h = (found g at.After-make_way).1 in
    let s = sym (length-reverse c.make_way.new.stack.items)
    ∙ parts_length (reverse c.args.stack.now.items) (reverse c.make_way.new.stack.items)
    c.in_ok-make_way-in-Op.ensures.same ∙ length-reverse c.args.stack.now.items in
    let k = c.make_way.new.stack.ok.0 in
    omega arith

pub operation_part-requires-clause-within : goal.operation_part-requires-clause-within
operation_part-requires-clause-within g c =
    within_take c.args.variables c.in-Op.count (reverse c.make_way.new.stack.items)
    (parts_within c.args.variables (reverse c.args.stack.now.items) (reverse c.make_way.new.stack.items)
    c.in_ok-make_way-in-Op.ensures.same c.requires.parts)

pub let_go-requires-clause-rest : goal.let_go-requires-clause-rest
let_go-requires-clause-rest g c =
    let at = goal.at.let_go-requires-clause-rest g c in
    let s = size_now g at.After-operation_part in
    let few = c.in_ok-part-in-Op.ensures.left.few in
    let h = (found g at.After-make_way).1 in
    let l = c.len.ensures in
    let k = c.args.stack.now.ok.0 in
    let m = c.operation_part.new.stack.ok.0 in
    omega arith

pub let_go-requires-clause-parts : goal.let_go-requires-clause-parts
let_go-requires-clause-parts g c =
    let at = goal.at.let_go-requires-clause-parts g c in
    left_within c.args.variables c.in-Op.count c.make_way.new.stack.items c.operation_part.new.stack.items
    c.in_ok-part-in-Op.ensures.left (left_shorter c.in-Op.count c.make_way.new.stack.items
    c.operation_part.new.stack.items c.in_ok-part-in-Op.ensures.left) (within_now g at.After-operation_part)

pub returns-in_ok-let_go-in-Op-clause-within : goal.returns-in_ok-let_go-in-Op-clause-within
returns-in_ok-let_go-in-Op-clause-within g c =
    let at = goal.at.returns-in_ok-let_go-in-Op-clause-within g c in (
      c.in_ok-part-in-Op.ensures.within,
      subst (ArePartsWithin c.args.variables) (sym (left g at.In_ok-let_go-in-Op))
          (within_parts_drop c.args.variables c.in-Op.count (reverse c.make_way.new.stack.items)
          (within_now g at.After-operation_part)),
    )

pub returns-in_ok-let_go-in-Op-clause-size : goal.returns-in_ok-let_go-in-Op-clause-size
returns-in_ok-let_go-in-Op-clause-size g c trees same =
    let at = goal.at.returns-in_ok-let_go-in-Op-clause-size g c in
    let s = size_now g at.After-operation_part in
    let h = (found g at.After-make_way).1 in
    subst (λ node. length (with_node node trees) ≡ 1 + length c.let_go.new.stack.items) (sym c.in-Op.is)
    (operator_size c.in-Op.opcode c.in-Op.count trees c.make_way.new.stack.items c.let_go.new.stack.items (omega arith) (same ∙ sym s) (left g at.In_ok-let_go-in-Op))

pub returns-in_ok-let_go-in-Op-clause-part : goal.returns-in_ok-let_go-in-Op-clause-part
returns-in_ok-let_go-in-Op-clause-part g c known trees are folded =
    let at = goal.at.returns-in_ok-let_go-in-Op-clause-part g c in
    let s = size_now g at.After-operation_part in
    let h = (found g at.After-make_way).1 in
    let now = reverse c.make_way.new.stack.items in
    subst (λ node. ArePartsFolded known c.args.variables c.args.place (with_node node trees) (c.in_ok-part-in-Op.part ∷ reverse c.let_go.new.stack.items)) (sym c.in-Op.is)
    (operator_step known c.args.variables c.args.place c.in-Op.opcode c.in-Op.count trees now
    (reverse c.let_go.new.stack.items) (take c.in-Op.count now) c.in_ok-part-in-Op.part
    (omega (arith, h, s, length-reverse c.make_way.new.stack.items)) refl (left g at.In_ok-let_go-in-Op)
    (λ ts w. subst (λ class. IsPartFolded known c.args.variables c.args.place (operator class ts) c.in_ok-part-in-Op.part) c.class_of-class.ensures (c.in_ok-part-in-Op.ensures.part known ts w))
    (parts_folded known c.args.variables (c.args.place + 1) trees (reverse c.args.stack.now.items) now c.in_ok-make_way-in-Op.ensures.same folded))

pub returns-in_ok-let_go-in-Op-clause-used : goal.returns-in_ok-let_go-in-Op-clause-used
returns-in_ok-let_go-in-Op-clause-used g c =
    let at = goal.at.returns-in_ok-let_go-in-Op-clause-used g c in
    let s = size_now g at.After-operation_part in
    let h = (found g at.After-make_way).1 in
    let l = c.len.ensures in
    let k = c.args.stack.now.ok.0 in
    let m = c.let_go.new.stack.ok.0 in
    let front : length c.let_go.new.stack.items ≡ c.len.result - c.in-Op.count =
    ap length c.in_ok-let_go-in-Op.ensures.front ∙ length-take-le (c.len.result - c.in-Op.count)
    c.operation_part.new.stack.items (let few = c.in_ok-part-in-Op.ensures.left.few in omega arith) in
    entry_steps (c.args.variables + 1) c.args.steps.now c.operation_part.new.steps c.in-Op.count (vec_len c.let_go.new.stack) (vec_len c.args.stack.now) c.in_ok-part-in-Op.ensures.below (omega arith)
