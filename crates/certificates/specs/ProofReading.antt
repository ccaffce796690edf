-- The tree that nodes in prefix order and the pairs of all leaves are read back as.
use Rattle.std.specs.Prelude.{ℕ, ℤ, List, [], ◌∷◌, take, drop}
use Rattle.certificates.specs.declared.proof.ProofNode.{ProofNode}
use Rattle.certificates.specs.declared.proof.ProofNode.TheVariants.{Split, Duals, Weights}
use Rattle.certificates.specs.Proofs.{Pair, ProofTree, ProofValue, split, duals, weights}

-- a split has the first two trees as its parts
abbrev pub joined : ℕ → ℤ → List ProofTree → List ProofTree
joined j t [] = []
joined j t (low ∷ []) = low ∷ []
joined j t (low ∷ high ∷ trees) = split j t low high ∷ trees

-- the trees of nodes that stand one after another, each leaf with the pairs that come first
unfoldable pub trees_in : List ProofNode → List Pair → List ProofTree
trees_in [] ps = []
trees_in (Split j t ∷ nodes) ps = joined j t (trees_in nodes ps)
trees_in (Duals n ∷ nodes) ps = duals (take n ps) ∷ trees_in nodes (drop n ps)
trees_in (Weights n ∷ nodes) ps = weights (take n ps) ∷ trees_in nodes (drop n ps)

-- the first of them
abbrev pub first_tree : List ProofTree → ProofTree
first_tree [] = weights []
first_tree (tree ∷ trees) = tree

-- the tree of a proof
abbrev pub tree_in : ProofValue → ProofTree
tree_in p = first_tree (trees_in p.nodes p.pairs)
