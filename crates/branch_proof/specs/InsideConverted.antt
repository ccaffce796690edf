-- The tree of a proof as that of a certificate.
use Rattle.std.specs.Prelude.{◌≡◌, ℕ, List}
use Rattle.linear_program.specs.Linear.{Linear, row_count}
use Rattle.certificates.specs.declared.proof.ProofNode.{ProofNode}
use Rattle.certificates.specs.declared.proof.ProofNode.TheVariants.{Split, Duals, Weights}
use Rattle.certificates.specs.Certificates.{CertificateTree, IsCutNumber, tree_over as written_over}
use Rattle.linear_program.specs.Numbers.{Pair}
use Rattle.certificates.specs.declared.certificate.CertificateNode.{CertificateNode}
use Rattle.certificates.specs.declared.certificate.CertificateNode.TheVariants.{Split as SplitAt, Plane, Lemma, Duals as DualsOf, Weights as WeightsOf}
use Rattle.certificate_judge.specs.Walks.{IsWritten}
use Rattle.certificates.specs.Proofs.{ProofTree, tree_over}

-- the node of a certificate, with so many pairs where it is a leaf
abbrev pub node_with : ProofNode → ℕ → CertificateNode
node_with (Split j t) n = SplitAt j t
node_with (Duals m) n = DualsOf n
node_with (Weights m) n = WeightsOf n

-- the number of a split, and the next one, fit
abbrev pub HasCutNumber : CertificateNode → Type 0
HasCutNumber (SplitAt j t) = IsCutNumber t
HasCutNumber (Plane n t) = Unit {0}
HasCutNumber (Lemma n t) = Unit {0}
HasCutNumber (DualsOf n) = Unit {0}
HasCutNumber (WeightsOf n) = Unit {0}

-- nodes and pairs are those of a tree of a certificate over the program, and it is the same tree
-- there as that of the proof
pub record IsTreeFor (f : Linear) (tree : ProofTree) (nodes : List CertificateNode)
    (pairs : List Pair) : Type 0 where
  pub written : CertificateTree
  pub is_written : IsWritten f written nodes pairs
  pub same : written_over (row_count f) written ≡ tree_over (row_count f) tree
