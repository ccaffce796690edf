use Rattle.std.proofs.Common.{refl, arith}
use Rattle.exact_numbers.specs.LowestLemmas.{gcd_of, steps_of_euclid}
use Rattle.exact_numbers.specs.Rational.{over, whole, ◌+ℚ◌, ◌*ℚ◌, ◌-ℚ◌, neg_ℚ}
use Rattle.certificates.specs.Branch.{AreAllWeights, AreSplitsWhole, leaves, branch_fault, proof_fault}
use Rattle.certificates.specs.Certificate.{fitting_bound_fault, given_fault, whole_fault, judged, outcome}
use Rattle.certificates.specs.Checked.{plus_product, less_product, run, is_at_most}
use Rattle.certificates.specs.Parts.{capped, raised}
use Rattle.certificates.specs.Ray.{run_change, ray_row_fault, ray_bound_fault, ray_fault}
use Rattle.certificates.specs.Verdict.{first_fault, run_form, row_fault, bound_fault, reduced_cost, cost_fault, bound_total, dual_fault, dual_bound}
use Rattle.certificates.proofs.duality_laws.examples_have_their_outcomes.Goals as goal

pub returns : goal.returns
unfolding outcome judged given_fault fitting_bound_fault whole_fault ray_fault ray_row_fault ray_bound_fault run_change
    dual_fault dual_bound bound_total first_fault run_form row_fault bound_fault reduced_cost cost_fault plus_product
    less_product run is_at_most proof_fault branch_fault capped raised leaves gcd_of steps_of_euclid over whole ◌+ℚ◌ ◌*ℚ◌
    ◌-ℚ◌ neg_ℚ AreSplitsWhole AreAllWeights
returns c = record {
  best = refl;
  not_best = refl;
  no_side = refl;
  broken = refl;
  best_whole = refl;
  no_whole = refl;
  no_point = refl;
  no_end = refl;
  no_ray = refl;
  no_better = refl;
  near = refl;
  not_near = refl;
  by_lemma = refl;
  false_lemma = refl;
  weak_lemma = refl;
  no_lemma = refl;
  none_by_lemma = (((tt, ((omega arith, refl), tt, tt), tt), tt), refl);
}
