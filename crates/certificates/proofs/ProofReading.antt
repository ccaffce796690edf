-- Nodes in prefix order and the pairs of all leaves are those of one tree, which they are read back as.
use Rattle.std.proofs.Common.{◌≡◌, ◌∙◌, List, [], ◌∷◌, ◌++◌, length, refl, sym, ap, ap₂, append-nil, append_assoc}
use Rattle.std.proofs.lemmas.List.{take_at, drop_at}
use Rattle.certificates.specs.declared.proof.ProofNode.{ProofNode}
use Rattle.certificates.specs.Proofs.{Pair, ProofTree, ProofValue, split, duals, weights, nodes_of, pairs_of}
use Rattle.certificates.specs.ProofReading.{first_tree, joined, tree_in, trees_in}

trees_back : (tree : ProofTree) (nodes : List ProofNode) (ps : List Pair) → trees_in (nodes_of tree ++ nodes) (pairs_of tree ++ ps) ≡ tree ∷ trees_in nodes ps
unfolding trees_in nodes_of pairs_of
trees_back (duals xs) nodes ps = ap₂ (λ own rest. duals own ∷ trees_in nodes rest) (take_at xs ps (length xs) refl) (drop_at xs ps (length xs) refl)
trees_back (weights xs) nodes ps = ap₂ (λ own rest. weights own ∷ trees_in nodes rest) (take_at xs ps (length xs) refl) (drop_at xs ps (length xs) refl)
trees_back (split j t low high) nodes ps =
    ap₂ (λ ns qs. joined j t (trees_in ns qs)) (append_assoc (nodes_of low) (nodes_of high) nodes) (append_assoc (pairs_of low) (pairs_of high) ps)
    ∙ ap (joined j t) (trees_back low (nodes_of high ++ nodes) (pairs_of high ++ ps))
    ∙ ap (λ trees. joined j t (low ∷ trees)) (trees_back high nodes ps)

pub tree_back : (p : ProofValue) (tree : ProofTree) → nodes_of tree ≡ p.nodes → pairs_of tree ≡ p.pairs → tree_in p ≡ tree
tree_back p tree nodes pairs =
    ap₂ (λ ns ps. first_tree (trees_in ns ps)) (sym (append-nil (nodes_of tree) ∙ nodes)) (sym (append-nil (pairs_of tree) ∙ pairs)) ∙ ap first_tree (trees_back tree [] [])
