-- The tests of the code.
use Rattle.std.specs.Prelude.{Bool, true, false, List, [], ◌∷◌}
use Rattle.certificates.specs.declared.certificate.CertificateNode.{CertificateNode}
use Rattle.certificates.specs.declared.certificate.CertificateNode.TheVariants.{Split, Plane, Lemma, Duals, Weights}
use Rattle.certificates.specs.declared.certificate.Claim.{Claim}
use Rattle.certificates.specs.declared.certificate.Claim.TheVariants.{Optimal, Within, Bound, Feasible, Infeasible, Unbounded}

abbrev pub has_point : Claim → Bool
has_point (Optimal k) = true
has_point (Within k b) = true
has_point (Bound k v) = false
has_point (Feasible k) = true
has_point Infeasible = false
has_point (Unbounded k) = true

abbrev pub is_duals : CertificateNode → Bool
is_duals (Split j t) = false
is_duals (Plane n t) = false
is_duals (Lemma n t) = false
is_duals (Duals n) = true
is_duals (Weights n) = false

abbrev pub begins_with_duals : List CertificateNode → Bool
begins_with_duals [] = false
begins_with_duals (node ∷ nodes) = is_duals node
