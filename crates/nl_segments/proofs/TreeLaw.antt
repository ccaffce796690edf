-- A tree whose nodes use what is there uses what is there.
use Rattle.std.proofs.Common.{◌≡◌, ℕ, suc, List, [], ◌∷◌, ◌++◌, sym, subst, arith, All}
use Rattle.nl_model.specs.Trees.{Tree, Trees}
use Rattle.nl_model.specs.File.{Term}
use Rattle.nl_model.specs.declared.definition.Def.{Def as Definition}
use Rattle.nl_model.specs.declared.node.Node.{Node}
use Rattle.nl_model.specs.Nodes.{IsPrefix, a_number, a_variable, a_defined, an_operation, ArePrefixes, no_tree, one_more, AreNodesOf}
use Rattle.nl_model.specs.Draft.{Draft}
use Rattle.nl_model.specs.Rules.{IsTreeWithin, AreTreesWithin}
use Rattle.nl_lines.specs.NodeRows.{IsNodeKnown}
use Rattle.nl_segments.specs.Current.{Current}
use Rattle.nl_lines.specs.declared.head.Head.{Head}
use Rattle.nl_segments.specs.InsideTreeSteps.{IsFresh, MayTake}

-- node by node
abbrev Each : ℕ → List Definition → List Node → Type 0
Each n ds [] = Unit {0}
Each n ds (m ∷ ns) = IsNodeKnown n ds m × Each n ds ns

each : (n : ℕ) (ds : List Definition) (ns : List Node) → All (IsNodeKnown n ds) ns → Each n ds ns
each n ds [] h = tt
each n ds (m ∷ ns) h = (h 0 m (omega arith), each n ds ns (λ i d lt. h (suc i) d (omega (arith, lt))))

front : (n : ℕ) (ds : List Definition) (ns ms : List Node) → Each n ds (ns ++ ms) → Each n ds ns
front n ds [] ms h = tt
front n ds (m ∷ ns) ms h = (h.0, front n ds ns ms h.1)

back : (n : ℕ) (ds : List Definition) (ns ms : List Node) → Each n ds (ns ++ ms) → Each n ds ms
back n ds [] ms h = h
back n ds (m ∷ ns) ms h = back n ds ns ms h.1

mutual
  within : (n : ℕ) (ds : List Definition) {t : Tree} {ns : List Node} → IsPrefix t ns → Each n ds ns → IsTreeWithin n ds t
  within n ds (a_number d) k = tt
  within n ds (a_variable j) k = k.0
  within n ds (a_defined i) k = k.0
  within n ds (an_operation o ts ns c h) k = all_within n ds h k.1

  all_within : (n : ℕ) (ds : List Definition) {ts : Trees} {ns : List Node} → ArePrefixes ts ns → Each n ds ns → AreTreesWithin n ds ts
  all_within n ds no_tree k = tt
  all_within n ds (one_more t ns ts ms h g) k = (within n ds h (front n ds ns ms k), all_within n ds g (back n ds ns ms k))

pub tree_within : (n : ℕ) (ds : List Definition) (t : Tree) (ns : List Node) → IsPrefix t ns → All (IsNodeKnown n ds) ns → IsTreeWithin n ds t
tree_within n ds t ns p h = within n ds p (each n ds ns h)

-- the draft may take the expression of a piece that is complete
pub may_take : (d : Draft) (cur : Current) (head : Head) (terms : List Term) (nodes : List Node) (tree : Tree) → head ≡ cur.head → terms ≡ cur.pairs → nodes ≡ cur.nodes
    → IsFresh d cur.head cur.pairs → All (IsNodeKnown d.counts.n_var d.definitions) cur.nodes → AreNodesOf tree nodes → MayTake d head terms tree
may_take d cur head terms nodes tree h t n fresh known of =
    record {
      fresh = subst (λ x. IsFresh d x terms) (sym h) (subst (λ ts. IsFresh d cur.head ts) (sym t) fresh);
      within = tree_within d.counts.n_var d.definitions tree nodes of.prefix (subst (All (IsNodeKnown d.counts.n_var d.definitions)) (sym n) known);
    }
