-- Proofs by branches as they are written: nodes in prefix order, and the pairs of all leaves in
-- order (own profile of branch and bound; a leaf closes by a bound of linear programming duality);
-- and what one is for a linear program.
use Rattle.std.specs.Prelude.{◌≡◌, ℕ, ◌<◌, ◌≤◌, ◌^◌, ◌==◌, ℤ, List, [], ◌∷◌, ◌++◌, length, IsTrue, true, if◌then◌else◌, All}
use Rattle.exact_numbers.specs.Fits.{fits}
use Rattle.exact_numbers.specs.Rational.{ℚ, zero_ℚ}
use Rattle.linear_program.specs.Elements.{elements_from}
use Rattle.linear_program.specs.Linear.{Linear, variable_at, variable_count, row_count}
use Rattle.certificates.specs.Branch.{BranchTree, split as split_tree, duals as duals_leaf, weights as weights_leaf}
use Rattle.certificates.specs.Parts.{bound}
use Rattle.exact_numbers.specs.declared.dec.Dec.{Dec}
use Rattle.exact_numbers.specs.Values.{dec_value}
use Rattle.certificates.specs.declared.proof.Claim.{Claim}
use Rattle.certificates.specs.declared.proof.Claim.TheVariants.{Value, Infeasible}
use Rattle.certificates.specs.declared.proof.ProofNode.{ProofNode}
use Rattle.certificates.specs.declared.proof.ProofNode.TheVariants.{Split, Duals, Weights}

-- a row and its number
abbrev pub Pair : Type 0
Pair = ℕ × Dec

pub record ProofValue : Type 0 where
  pub claim : Claim
  pub nodes : List ProofNode
  pub pairs : List Pair

-- a split of variable j at t has the parts "at most t" and "at least t + 1"; a leaf has duals for
-- the objective, or weights for the objective 0
pub data ProofTree : Type 0 where
  split : ℕ → ℤ → ProofTree → ProofTree → ProofTree
  duals : List Pair → ProofTree
  weights : List Pair → ProofTree

-- a tree in prefix order
unfoldable pub nodes_of : ProofTree → List ProofNode
nodes_of (split j t low high) = Split j t ∷ (nodes_of low ++ nodes_of high)
nodes_of (duals ps) = Duals (length ps) ∷ []
nodes_of (weights ps) = Weights (length ps) ∷ []

unfoldable pub pairs_of : ProofTree → List Pair
pairs_of (split j t low high) = pairs_of low ++ pairs_of high
pairs_of (duals ps) = ps
pairs_of (weights ps) = ps

-- how many pairs a node announces
abbrev pub announced_pairs : ProofNode → ℕ
announced_pairs (Split j t) = 0
announced_pairs (Duals n) = n
announced_pairs (Weights n) = n

-- the stated value; an infeasibility proof has none, and none of its leaves asks for it
abbrev pub claim_value : Claim → ℚ
claim_value (Value k d) = dec_value d
claim_value Infeasible = zero_ℚ

-- an infeasibility proof is one leaf with weights
abbrev pub IsAlone : Claim → ProofTree → Type 0
IsAlone (Value k d) tree = Unit {0}
IsAlone Infeasible (split j t low high) = ⊥
IsAlone Infeasible (duals ps) = ⊥
IsAlone Infeasible (weights ps) = Unit {0}

-- ---- over a linear program

-- the number of row i: that of its last pair, or x where it has none
unfoldable pub number_of : List Pair → ℕ → ℚ → ℚ
number_of [] i x = x
number_of (p ∷ ps) i x = number_of ps i (if p.0 == i then dec_value p.1 else x)

-- the numbers of m rows; those without a pair are 0
unfoldable pub spread : ℕ → List Pair → List ℚ
spread m ps = elements_from (λ i. number_of ps i zero_ℚ) 0 m

-- the tree over m rows
unfoldable pub tree_over : ℕ → ProofTree → BranchTree
tree_over m (split j t low high) = split_tree (bound j t) (tree_over m low) (tree_over m high)
tree_over m (duals ps) = duals_leaf (spread m ps)
tree_over m (weights ps) = weights_leaf (spread m ps)

-- each split is on a whole variable of the program, and each pair is of one of its rows
unfoldable pub IsTreeOf : Linear → ProofTree → Type 0
IsTreeOf f (split j t low high) =
    (j < variable_count f) × IsTrue (variable_at f j).whole × IsTreeOf f low × IsTreeOf f high
IsTreeOf f (duals ps) = All (λ (p : Pair). p.0 < row_count f) ps
IsTreeOf f (weights ps) = All (λ (p : Pair). p.0 < row_count f) ps

-- the nodes and pairs are those of a tree over the program, and the stated value is a fraction
pub record IsProofOf (f : Linear) (p : ProofValue) : Type 0 where
  pub tree : ProofTree
  pub nodes : nodes_of tree ≡ p.nodes
  pub pairs : pairs_of tree ≡ p.pairs
  pub fine : IsTreeOf f tree
  pub alone : IsAlone p.claim tree
  pub value : fits (claim_value p.claim) ≡ true
  pub few : length p.nodes ≤ 2 ^ 16
