-- The counts and marks behind a node and a pair.
use Rattle.std.proofs.Common.{◌≡◌, ℕ, ◌+◌, ◌-◌, refl, List, [], ◌∷◌, ◌++◌, arith, length-append}
use Rattle.certificates.specs.declared.proof.ProofNode.{ProofNode}
use Rattle.certificates.specs.Proofs.{Pair, announced_pairs}
use Rattle.std.specs.Prelude.{cond, count_by}
use Rattle.std.proofs.lemmas.List.Sums.{sum_by-append, sum_by_push}
use Rattle.branch_proof.specs.InsideReader.{AreAwaited}
use Rattle.branch_proof.specs.Standing.{is_leaf, is_split}

-- ---- the counts

pub none_awaited : AreAwaited [] [] 1 0
none_awaited = record { subtrees_are = refl; left_are = refl }

-- a node more
pub node_awaited : (nodes : List ProofNode) (pairs : List Pair) (subtrees left new : ℕ) (n : ProofNode) → AreAwaited nodes pairs subtrees left → left ≡ 0
    → new + count_by is_leaf (n ∷ []) ≡ subtrees + count_by is_split (n ∷ []) → AreAwaited (nodes ++ n ∷ []) pairs new (announced_pairs n)
node_awaited nodes pairs subtrees left new n h none e = record {
  subtrees_are =
      let leaves = sum_by-append (λ (x : ProofNode). cond (is_leaf x) 1 0) nodes (n ∷ []) in
      let splits = sum_by-append (λ (x : ProofNode). cond (is_split x) 1 0) nodes (n ∷ []) in
      let old = h.subtrees_are in
      omega (arith, leaves, splits, old, e);
  left_are = (let sum = sum_by_push announced_pairs nodes n in let all = h.left_are in omega (arith, sum, all, none));
}

-- a pair more
pub pair_awaited : (nodes : List ProofNode) (pairs : List Pair) (subtrees left new : ℕ) (p : Pair)
    → AreAwaited nodes pairs subtrees left → new + 1 ≡ left → AreAwaited nodes (pairs ++ p ∷ []) subtrees new
pair_awaited nodes pairs subtrees left new p h some = record {
  subtrees_are = h.subtrees_are;
  left_are = (let all = h.left_are in omega (arith, length-append pairs (p ∷ []), all, some));
}

-- ---- with the marks
