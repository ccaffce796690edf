-- What the rows so far come to, and what is awaited behind them.
use Rattle.std.specs.Prelude.{◌≡◌, ℕ, ◌+◌, ◌-◌, ◌==◌, Bool, true, false, not, ◌&&◌, nat_lt, List, length, take, drop, filter_map, slice_get, count_by, sum_by, Option, Some, is_some}
use Rattle.std.specs.List.{list_any}
use Rattle.certificates.specs.declared.proof.Claim.{Claim}
use Rattle.certificates.specs.declared.proof.ProofNode.{ProofNode}
use Rattle.certificates.specs.declared.proof.ProofNode.TheVariants.{Split, Duals, Weights}
use Rattle.certificates.specs.Proofs.{Pair, ProofValue, announced_pairs}
use Rattle.branch_proof.specs.Rows.{claim_in, proof_node_in, proof_pair_in}
use Rattle.certificate_text.specs.TextRows.{TextRow}

-- whether a row has come; the claim, the nodes and the pairs
pub record ProofStanding : Type 0 where
  pub begun : Bool
  pub claim : Option Claim
  pub nodes : List ProofNode
  pub pairs : List Pair

-- what the rows say, each by itself
abbrev pub proof_standing : List TextRow → ProofStanding
proof_standing rows = record {
  begun = nat_lt 0 (length rows);
  claim = slice_get (filter_map claim_in rows) 0;
  nodes = filter_map proof_node_in rows;
  pairs = filter_map proof_pair_in rows;
}

-- ---- what is awaited

-- a leaf ends a subtree; a split begins two in place of one
abbrev pub is_leaf : ProofNode → Bool
is_leaf (Split j t) = false
is_leaf (Duals n) = true
is_leaf (Weights n) = true

abbrev pub is_split : ProofNode → Bool
is_split n = not (is_leaf n)

-- how many subtrees: at first one, the whole tree
abbrev pub subtrees_left : ProofStanding → ℕ
subtrees_left st = (1 + count_by is_split st.nodes) - count_by is_leaf st.nodes

-- how many pairs of the last leaf
abbrev pub pairs_left : ProofStanding → ℕ
pairs_left st = sum_by announced_pairs st.nodes - length st.pairs

-- all has come
abbrev pub is_whole_proof : ProofStanding → Bool
is_whole_proof st = is_some st.claim && (pairs_left st == 0) && (subtrees_left st == 0)

-- ---- the pairs of the last leaf: those behind the pairs of the nodes before it

abbrev pub earlier_count : List ProofNode → ℕ
earlier_count nodes = sum_by announced_pairs (take (length nodes - 1) nodes)

abbrev pub last_pairs : List ProofNode → List Pair → List Pair
last_pairs nodes pairs = drop (earlier_count nodes) pairs

-- one of them is of row i
abbrev pub has_pair : List Pair → ℕ → Bool
has_pair own i = list_any (λ q. q.0 == i) own

-- ---- what is said
pub record IsSaid (st : ProofStanding) (p : ProofValue) : Type 0 where
  pub claim : st.claim ≡ Some p.claim
  pub nodes : p.nodes ≡ st.nodes
  pub pairs : p.pairs ≡ st.pairs
