-- The walk over the leaves of a written tree.
use Rattle.std.specs.Prelude.{◌≡◌, ℕ, suc, ◌<◌, true, List, Option, length, All}
use Rattle.exact_numbers.specs.Fits.{fits}
use Rattle.exact_numbers.specs.Rational.{IsWhole}
use Rattle.linear_program.specs.Linear.{Linear, row_count, variable_count}
use Rattle.certificates.specs.Branch.{LeafFault, duals_check, weights_check}
use Rattle.certificates.specs.Certificate.{ClaimOutcome, OutcomeSays}
use Rattle.certificates.specs.Parts.{Part}
use Rattle.certificates.specs.Verdict.{BoundVerdict, dual_bound}
use Rattle.certificates.specs.Certificates.{AreNumbers, CertificateTree, CertificateValue, IsCertificateOf, IsCutNumber, certificate_over, claim_outcome, duals, lemma, nodes_of, pairs_of, plane, split, weights}
use Rattle.linear_program.specs.Numbers.{Pair, spread, number_value}
use Rattle.certificates.specs.declared.certificate.CertificateNode.{CertificateNode}
use Rattle.certificates.specs.declared.certificate.CertificateNode.TheVariants.{Split, Plane, Lemma, Duals, Weights}
use Rattle.exact_checks.specs.Leaves.{AreIndices}
use Rattle.exact_checks.specs.Programs.{asked}
use Rattle.exact_checks.specs.Sums.{AreZero, cost_count}
use Rattle.exact_checks.specs.declared.program.Program.{Program}
use Rattle.exact_checks.specs.declared.verdict.Goal.{Goal}
use Rattle.exact_checks.specs.declared.verdict.Goal.TheVariants.{Objective, Zero}
use Rattle.certificate_judge.specs.InsidePaths.{IsPath}
use Rattle.certificate_judge.specs.declared.walk.Workspace.{Workspace}

-- the test of leaf k of a part with this bound
abbrev pub leaf_check : Goal → Part → ℕ → BoundVerdict → Option LeafFault
leaf_check Objective p k b = duals_check p.program.maximise p.value k b
leaf_check Zero p k b = weights_check k b

-- a leaf with duals, or with weights
abbrev pub leaf_node : Goal → ℕ → CertificateNode
leaf_node Objective n = Duals n
leaf_node Zero n = Weights n

abbrev pub IsLeafNode : CertificateNode → Type 0
IsLeafNode (Split j t) = ⊥
IsLeafNode (Plane n t) = ⊥
IsLeafNode (Lemma n t) = ⊥
IsLeafNode (Duals n) = Unit {0}
IsLeafNode (Weights n) = Unit {0}

-- a tree over n variables and m rows: the numbers of cuts are there and fit, those of planes are
-- whole; the numbers of leaves are those of rows, and need not fit
unfoldable pub IsWalkable : ℕ → ℕ → CertificateTree → Type 0
IsWalkable n m (split j t below above) =
    (j < n) × IsCutNumber t × IsWalkable n m below × IsWalkable n m above
IsWalkable n m (plane ps t below above) =
    All (λ (p : Pair). IsWhole (number_value p.1)) ps × AreNumbers 0 n ps × IsCutNumber t
    × IsWalkable n (suc m) below × IsWalkable n (suc m) above
IsWalkable n m (lemma ps t shown rest) =
    AreNumbers 0 n ps × (fits (number_value t) ≡ true) × IsWalkable n m shown
    × IsWalkable n (suc m) rest
IsWalkable n m (duals ps) = AreIndices 0 m ps
IsWalkable n m (weights ps) = AreIndices 0 m ps

-- nodes and pairs are those of a tree over the program
pub record IsWritten (f : Linear) (tree : CertificateTree) (nodes : List CertificateNode)
    (pairs : List Pair) : Type 0 where
  pub nodes_are : nodes_of tree ≡ nodes
  pub pairs_are : pairs_of tree ≡ pairs
  pub fine : IsWalkable (variable_count f) (row_count f) tree

-- a way down over the program, and costs that are 0
pub record IsWorkspace (c : Program) (r : Workspace) : Type 0 where
  pub path : IsPath (length c.lower.items) r.path
  pub zero : AreZero r.costs
  pub count : cost_count r.costs ≡ length c.lower.items

-- the bound of a leaf with these pairs in a part
abbrev pub bound_in : Part → Goal → List Pair → BoundVerdict
bound_in p goal ps = dual_bound (asked goal p.program) p.box (spread (row_count p.program) ps)

-- the outcome of a certificate is that of each reading of it
abbrev pub IsOutcomeOf : Linear → CertificateValue → ClaimOutcome → Type 0
IsOutcomeOf f c o =
    (h : IsCertificateOf f c)
    → o ≡ claim_outcome f c.claim h.given

-- what an outcome says of the program
abbrev pub IsSaidOf : Linear → CertificateValue → ClaimOutcome → Type 0
IsSaidOf f c o =
    (h : IsCertificateOf f c)
    → OutcomeSays f (certificate_over (variable_count f) (row_count f) c.claim h.given) o
