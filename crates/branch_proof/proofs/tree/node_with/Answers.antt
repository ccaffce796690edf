use Rattle.std.proofs.Common.{rules, ◌≡◌, sym, subst, to_z, of_z, w32}
use Rattle.std.proofs.Math.Facts.{sfits_widen, to_z-of_z}
use mir.Val.{SFits}
use Rattle.certificates.specs.Certificates.{IsCutNumber}
use Rattle.branch_proof.proofs.CutNumbers.{cut_number}
use Rattle.branch_proof.proofs.tree.node_with.Goals as goal
use mir.Syntax.{w128}

pub returns-in-Split-clause-number : goal.returns-in-Split-clause-number
returns-in-Split-clause-number c =
    let fit : SFits w32 (to_z w32 (of_z w32 c.in-Split.most)) = search rules in
    let back : to_z w128 (of_z w128 (to_z w32 (of_z w32 c.in-Split.most))) ≡ to_z w32 (of_z w32 c.in-Split.most) = to_z-of_z {w = w128} (sfits_widen tt fit) in
    subst IsCutNumber (sym back) (cut_number (to_z w32 (of_z w32 c.in-Split.most)) fit)
