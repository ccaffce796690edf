use Rattle.std.proofs.Common.{◌≤◌}
use Rattle.exact_numbers.specs.Values.{frac_value}
use Rattle.certificates.specs.Certificates.{CertificateTree}
use Rattle.exact_checks.specs.Programs.{program_value}
use Rattle.certificate_judge.specs.Walks.{IsWorkspace, IsWritten}
use Rattle.certificate_judge.proofs.Standing.{Stands}
use Rattle.certificate_judge.proofs.walk.first_open_leaf.Given as goal

abbrev pub invariant-loop-node : goal.invariant-loop-node
invariant-loop-node l = record {
  room : IsWorkspace l.program l.room;
  few : l.number ≤ l.node-index;
  on : (tree : CertificateTree) → IsWritten (program_value l.program) tree l.nodes l.fn.pairs
      → Stands (program_value l.program) (frac_value l.fn.value) tree l.nodes l.node-index l.rest l.number l.room.path;
}
