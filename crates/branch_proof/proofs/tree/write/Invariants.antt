use Rattle.std.proofs.Common.{◌≡◌, ◌+◌, drop, length}
use Rattle.linear_program.specs.Linear.{Linear, row_count}
use Rattle.branch_proof.specs.InsideNumbers.{AreReady}
use Rattle.certificates.specs.Proofs.{IsProofOf}
use Rattle.branch_proof.proofs.Conversion.{OnWrite}
use Rattle.branch_proof.proofs.tree.write.Given as goal

abbrev pub invariant-loop-node : goal.invariant-loop-node
invariant-loop-node l = record {
  ready : AreReady (length l.fn.numbers.by_row.items) l.numbers;
  count : length l.tree.nodes.items + length (drop l.node-index l.proof.nodes) ≡ length l.proof.nodes;
  on : (f : Linear) → row_count f ≡ length l.fn.numbers.by_row.items → (h : IsProofOf f l.proof) → OnWrite f h.tree (drop l.node-index l.proof.nodes) l.rest l.tree.nodes.items l.tree.pairs.items;
}
