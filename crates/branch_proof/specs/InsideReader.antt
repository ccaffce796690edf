-- What the reader's counts and marks are of the nodes and pairs that it keeps.
use Rattle.std.specs.Prelude.{◌≡◌, ℕ, ◌+◌, ◌<◌, ◌≤◌, Bool, false, List, length, get_or, count_by, sum_by}
use Rattle.certificates.specs.declared.proof.ProofNode.{ProofNode}
use Rattle.certificates.specs.Proofs.{Pair, announced_pairs}
use Rattle.branch_proof.specs.Standing.{earlier_count, has_pair, is_leaf, is_split, last_pairs}

-- each row is marked where it has a pair
pub record AreMarked (rows : ℕ) (own : List Pair) (marks : List Bool) : Type 0 where
  pub count : length marks ≡ rows
  pub each : (i : ℕ) → i < rows → get_or marks i false ≡ has_pair own i

-- so many subtrees and pairs are awaited
pub record AreAwaited (nodes : List ProofNode) (pairs : List Pair) (subtrees left : ℕ)
    : Type 0 where
  pub subtrees_are : subtrees + count_by is_leaf nodes ≡ 1 + count_by is_split nodes
  pub left_are : left + length pairs ≡ sum_by announced_pairs nodes

-- the same, and the rows of the last leaf's pairs are marked
pub record AreCounted (nodes : List ProofNode) (pairs : List Pair) (subtrees left rows : ℕ)
    (marks : List Bool) : Type 0 where
  pub awaited : AreAwaited nodes pairs subtrees left
  pub earlier : earlier_count nodes ≤ length pairs
  pub marked : AreMarked rows (last_pairs nodes pairs) marks
