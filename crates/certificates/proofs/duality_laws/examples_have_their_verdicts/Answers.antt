use Rattle.std.proofs.Common.{refl}
use Rattle.exact_numbers.specs.LowestLemmas.{gcd_of, steps_of_euclid}
use Rattle.exact_numbers.specs.Rational.{over, whole, ◌+ℚ◌, ◌*ℚ◌, ◌-ℚ◌, neg_ℚ}
use Rattle.certificates.specs.Branch.{leaves, branch_fault, proof_fault}
use Rattle.certificates.specs.Checked.{plus_product, less_product, run, is_at_most, is_same}
use Rattle.certificates.specs.Parts.{capped, raised}
use Rattle.certificates.specs.Verdict.{first_fault, run_form, row_fault, bound_fault, reduced_cost, cost_fault, bound_total, dual_fault, dual_bound, early_fault, verdict}
use Rattle.certificates.proofs.duality_laws.examples_have_their_verdicts.Goals as goal

pub returns : goal.returns
unfolding verdict early_fault dual_fault dual_bound bound_total first_fault run_form row_fault bound_fault reduced_cost
    cost_fault plus_product less_product run is_at_most is_same proof_fault branch_fault capped raised leaves gcd_of
    steps_of_euclid over whole ◌+ℚ◌ ◌*ℚ◌ ◌-ℚ◌ neg_ℚ
returns c = record {
  row_broken = refl;
  bound_broken = refl;
  row_side = refl;
  bound_side = refl;
  proved = refl;
}
