-- Nodes in prefix form are one tree.
use Rattle.std.proofs.Common.{◌≡◌, ℕ, zero, suc, ◌+◌, ◌-◌, ◌^◌, ◌<◌, ◌≤◌, List, [], ◌∷◌, ◌++◌, drop, length, ◌∙◌, sym, ap, ap₂, subst, refl, append_assoc, append-nil, one-add, arith, length-drop}
use Rattle.std.proofs.lemmas.List.{length_push}
use Rattle.code_tables.specs.Opcodes.{class_of}
use Rattle.nl_model.specs.Trees.{Tree, operator, Trees, none, more, first_trees, count_of, Takes, rule_of}
use Rattle.nl_model.specs.declared.node.Node.{Node}
use Rattle.nl_model.specs.declared.node.Node.TheVariants.{Num, Var, Defined, Op}
use Rattle.nl_model.specs.Nodes.{with_node, trees_of, first_of_trees, tree_of, IsPrefix, a_number, a_variable}
use Rattle.nl_model.specs.Nodes.{a_defined, an_operation, ArePrefixes, no_tree, one_more, AreNodesFormed, IsTreeFormed}
use Rattle.nl_model.specs.Nodes.{AreTreesFormed, AreNodesOf, operand_count, awaited_after, awaited, IsNode, IsRun}
use Rattle.nl_model.specs.Nodes.{AreNodesBegun}

-- trees before a list of trees
abbrev before : Trees → List Tree → List Tree
before none us = us
before (more t ts) us = t ∷ before ts us

first_before : (ts : Trees) (us : List Tree) → first_trees (count_of ts) (before ts us) ≡ ts
first_before none us = refl
first_before (more t ts) us = rw one-add (ap (more t) (first_before ts us))

drop_before : (ts : Trees) (us : List Tree) → drop (count_of ts) (before ts us) ≡ us
drop_before none us = refl
drop_before (more t ts) us = rw one-add (drop_before ts us)

mutual
  trees_of-prefix : {t : Tree} {ns : List Node} → IsPrefix t ns → (rest : List Node) → trees_of (ns ++ rest) ≡ t ∷ trees_of rest
  trees_of-prefix (a_number d) rest = refl
  trees_of-prefix (a_variable j) rest = refl
  trees_of-prefix (a_defined i) rest = refl
  trees_of-prefix (an_operation o ts ns k h) rest =
      ap (with_node (Op o (count_of ts))) (trees_of-prefixes h rest)
      ∙ ap₂ (λ us vs. operator (class_of o) us ∷ vs) (first_before ts (trees_of rest)) (drop_before ts (trees_of rest))

  trees_of-prefixes : {ts : Trees} {ns : List Node} → ArePrefixes ts ns → (rest : List Node) → trees_of (ns ++ rest) ≡ before ts (trees_of rest)
  trees_of-prefixes no_tree rest = refl
  trees_of-prefixes (one_more t ns ts ms h k) rest =
      ap trees_of (append_assoc ns ms rest) ∙ trees_of-prefix h (ms ++ rest) ∙ ap (λ us. t ∷ us) (trees_of-prefixes k rest)

pub nodes_are_tree : (t : Tree) (ns : List Node) → IsPrefix t ns → trees_of ns ≡ t ∷ []
nodes_are_tree t ns h = ap trees_of (sym (append-nil ns)) ∙ trees_of-prefix h []

-- ---- a tree with these nodes is formed
mutual
  pub tree_formed : {t : Tree} {ns : List Node} → IsPrefix t ns → IsTreeFormed t
  tree_formed (a_number d) = tt
  tree_formed (a_variable j) = tt
  tree_formed (a_defined i) = tt
  tree_formed (an_operation o ts ns k h) = (k, trees_formed h)

  trees_formed : {ts : Trees} {ns : List Node} → ArePrefixes ts ns → AreTreesFormed ts
  trees_formed no_tree = tt
  trees_formed (one_more t ns ts ms h k) = (tree_formed h, trees_formed k)

-- ---- one more node
pub awaited-push : (w : ℕ) (ns : List Node) (n : Node) → awaited_after w (ns ++ n ∷ []) ≡ awaited_after w ns - 1 + operand_count n
awaited-push w [] n = refl
awaited-push w (m ∷ ns) n = awaited-push (w - 1 + operand_count m) ns n

pub IsRun-push : (w : ℕ) (ns : List Node) (n : Node) → IsRun w ns → 0 < awaited_after w ns → IsNode n → IsRun w (ns ++ n ∷ [])
IsRun-push w [] n r some fine = (some, fine, tt)
IsRun-push w (m ∷ ns) n r some fine = (r.0, r.1, IsRun-push (w - 1 + operand_count m) ns n r.2 some fine)

operands_few : (n : Node) → IsNode n → operand_count n ≤ 2 ^ 22
operands_few (Num d) fine = omega arith
operands_few (Var j) fine = omega arith
operands_few (Defined i) fine = omega arith
operands_few (Op o k) fine = fine.1

pub begun-push : (ns : List Node) (n : Node) (wants : ℕ) → AreNodesBegun ns wants → 0 < awaited ns → length ns < 2 ^ 22 → IsNode n
    → AreNodesBegun (ns ++ n ∷ []) (wants - 1 + operand_count n)
begun-push ns n wants b some few fine =
    let few_more = operands_few n fine in
    record {
      run = IsRun-push 1 ns n b.run some fine;
      wanted = ap (λ w. w - 1 + operand_count n) b.wanted ∙ sym (awaited-push 1 ns n);
      few = omega (arith, length_push ns n);
      bounded = omega (arith, length_push ns n, b.bounded);
    }

-- ---- a whole run of nodes is as many trees as were awaited
length-first : (k : ℕ) (ts : List Tree) → k ≤ length ts → count_of (first_trees k ts) ≡ k
length-first zero ts h = refl
length-first (suc k) [] h = absurd (omega arith)
length-first (suc k) (t ∷ ts) h = let same = length-first k ts (omega arith) in omega arith

length-trees : (w : ℕ) (ns : List Node) → IsRun w ns → awaited_after w ns ≡ 0 → length (trees_of ns) ≡ w
length-trees w [] r e = sym e
length-trees w (Num d ∷ ns) r e = let same = length-trees (w - 1 + 0) ns r.2 e in let some = r.0 in omega arith
length-trees w (Var j ∷ ns) r e = let same = length-trees (w - 1 + 0) ns r.2 e in let some = r.0 in omega arith
length-trees w (Defined i ∷ ns) r e = let same = length-trees (w - 1 + 0) ns r.2 e in let some = r.0 in omega arith
length-trees w (Op o k ∷ ns) r e =
    let same = length-trees (w - 1 + k) ns r.2 e in let some = r.0 in omega (arith, length-drop k (trees_of ns))

nodes_formed : (w : ℕ) (ns : List Node) → IsRun w ns → awaited_after w ns ≡ 0 → AreNodesFormed ns
nodes_formed w [] r e = tt
nodes_formed w (Num d ∷ ns) r e = nodes_formed (w - 1 + 0) ns r.2 e
nodes_formed w (Var j ∷ ns) r e = nodes_formed (w - 1 + 0) ns r.2 e
nodes_formed w (Defined i ∷ ns) r e = nodes_formed (w - 1 + 0) ns r.2 e
nodes_formed w (Op o k ∷ ns) r e =
    let same = length-trees (w - 1 + k) ns r.2 e in (r.1.0, omega arith, nodes_formed (w - 1 + k) ns r.2 e)

abbrev as_trees : List Tree → Trees
as_trees [] = none
as_trees (t ∷ ts) = more t (as_trees ts)

-- the nodes of the first k trees, and those of the others
record IsSplit (k : ℕ) (ts : List Tree) (ns : List Node) : Type 0 where
  front : List Node
  back : List Node
  joined : ns ≡ front ++ back
  first : ArePrefixes (first_trees k ts) front
  rest : ArePrefixes (as_trees (drop k ts)) back

pub record IsCut (t : Tree) (us : Trees) (ns : List Node) : Type 0 where
  pub head : List Node
  pub tail : List Node
  pub joined : ns ≡ head ++ tail
  pub first : IsPrefix t head
  pub rest : ArePrefixes us tail

pub cut : (t : Tree) (us : Trees) (ns : List Node) → ArePrefixes (more t us) ns → IsCut t us ns
cut t us _ (one_more _ ns _ ms h k) = record { head = ns; tail = ms; joined = refl; first = h; rest = k }

split : (k : ℕ) (ts : List Tree) (ns : List Node) → k ≤ length ts → ArePrefixes (as_trees ts) ns → IsSplit k ts ns
split zero ts ns h p = record { front = []; back = ns; joined = refl; first = no_tree; rest = p }
split (suc k) [] ns h p = absurd (omega arith)
split (suc k) (t ∷ ts) ns h p =
    let c = cut t (as_trees ts) ns p in
    let s = split k ts c.tail (omega arith) c.rest in
    record {
      front = c.head ++ s.front;
      back = s.back;
      joined = c.joined ∙ ap (λ ms. c.head ++ ms) s.joined ∙ sym (append_assoc c.head s.front s.back);
      first = one_more t c.head (first_trees k ts) s.front c.first s.first;
      rest = s.rest;
    }

forest : (ns : List Node) → AreNodesFormed ns → ArePrefixes (as_trees (trees_of ns)) ns
forest [] f = no_tree
forest (Num d ∷ ns) f = one_more _ (Num d ∷ []) _ ns (a_number d) (forest ns f)
forest (Var j ∷ ns) f = one_more _ (Var j ∷ []) _ ns (a_variable j) (forest ns f)
forest (Defined i ∷ ns) f = one_more _ (Defined i ∷ []) _ ns (a_defined i) (forest ns f)
forest (Op o k ∷ ns) f =
    let ts = trees_of ns in
    let s = split k ts ns f.1 (forest ns f.2) in
    let count = length-first k ts f.1 in
    let node = an_operation o (first_trees k ts) s.front (subst (Takes (rule_of (class_of o))) (sym count) f.0) s.first in
    let all : ArePrefixes (more (operator (class_of o) (first_trees k ts)) (as_trees (drop k ts))) (Op o (count_of (first_trees k ts)) ∷ s.front ++ s.back) =
    one_more _ _ _ _ node s.rest in
    let P : List Node → Type 0 = λ ms. ArePrefixes (more (operator (class_of o) (first_trees k ts)) (as_trees (drop k ts))) ms in
    subst P (ap₂ (λ m ms. Op o m ∷ ms) count (sym s.joined)) all

only : (ts : List Tree) → length ts ≡ 1 → ts ≡ first_of_trees ts ∷ []
only [] h = absurd (omega arith)
only (t ∷ []) h = refl
only (t ∷ u ∷ ts) h = absurd (omega arith)

pub none_empty : (ms : List Node) → ArePrefixes none ms → ms ≡ []
none_empty _ no_tree = refl

-- the nodes of one tree, from the tree alone
alone : (t : Tree) (ns : List Node) → ArePrefixes (more t none) ns → IsPrefix t ns
alone t ns p =
    let c = cut t none ns p in
    let P : List Node → Type 0 = λ ms. IsPrefix t ms in
    let nothing = none_empty c.tail c.rest in
    subst P (sym (c.joined ∙ ap (λ ms. c.head ++ ms) nothing ∙ append-nil c.head)) c.first

pub prefix_of_run : (ns : List Node) → IsRun 1 ns → awaited ns ≡ 0 → IsPrefix (tree_of ns) ns
prefix_of_run ns run e =
    let formed = nodes_formed 1 ns run e in
    let one = only (trees_of ns) (length-trees 1 ns run e) in
    let P : List Tree → Type 0 = λ ts. ArePrefixes (as_trees ts) ns in
    alone (tree_of ns) ns (subst P one (forest ns formed))

pub nodes_of_run : (ns : List Node) (wants : ℕ) → AreNodesBegun ns wants → awaited ns ≡ 0 → AreNodesOf (tree_of ns) ns
nodes_of_run ns wants b e =
    let whole = prefix_of_run ns b.run e in
    record { prefix = whole; trees = nodes_are_tree (tree_of ns) ns whole; formed = nodes_formed 1 ns b.run e; tree_formed = tree_formed whole; few = b.few }
