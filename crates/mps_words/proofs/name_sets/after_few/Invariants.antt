use Rattle.std.proofs.Common.{◌≡◌, ◌++◌, ℕ, List, length}
use Rattle.mps_words.proofs.name_sets.after_few.Given as goal

-- what follows the rest of the bytes follows all of them
abbrev pub invariant-bytes : goal.invariant-bytes
invariant-bytes l = record {
  same : (x : List ℕ) → l.rest ≡ l.left ++ x → l.text ≡ l.bytes ++ x;
}

abbrev pub decreases-bytes : goal.decreases-bytes
decreases-bytes l = length l.left
