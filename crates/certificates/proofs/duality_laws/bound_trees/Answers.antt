use Rattle.std.proofs.Common.{refl}
use Rattle.certificates.specs.Branch.{branch_fault}
use Rattle.certificates.proofs.duality_laws.bound_trees.Goals as goal

pub returns : goal.returns
unfolding branch_fault
returns c = record { splits = λ v f box k j t below above. refl; duals = λ v f box k ys. refl; weights = λ v f box k ys. refl }
