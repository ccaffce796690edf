-- A number that is no gap of weights.
use Rattle.std.proofs.Common.{◌≡◌, zero, suc, refl, arith, false, List, [], ◌∷◌}
use Rattle.exact_numbers.specs.LowestLemmas.{gcd_of, steps_of_euclid}
use Rattle.exact_numbers.specs.Rational.{ℚ, zero_ℚ, over, whole, ◌+ℚ◌, ◌*ℚ◌, ◌-ℚ◌, neg_ℚ, ◌≤ℚ◌}
use Rattle.exact_numbers.specs.Sums.{sum_below}
use Rattle.exact_numbers.proofs.RationalLaws.{≤ℚ_refl}
use Rattle.linear_program.specs.Linear.{linear_part, value_at}
use Rattle.certificates.specs.Branch.{weights, open_gap}
use Rattle.certificates.specs.Checked.{is_at_most}
use Rattle.certificates.specs.OneRowExamples.{example, number}
use Rattle.certificates.specs.LeafSays.{IsInBox, IsLeafDenied, leaf_at, weighted_lack}
use Rattle.certificates.specs.Means.{problem_in}
use Rattle.certificates.specs.Points.{bounds_of}
use Rattle.certificates.proofs.Checks.{at_most_of, at_most_yes}

abbrev point : List ℚ
point = zero_ℚ ∷ number 5 ∷ []

in_box : IsInBox example (bounds_of example) point
unfolding is_at_most whole
in_box zero l = record { above = at_most_yes zero_ℚ zero_ℚ refl; below = at_most_yes zero_ℚ (number 3) refl }
in_box (suc zero) l = record { above = at_most_yes zero_ℚ (number 5) refl; below = tt }
in_box (suc (suc j)) l = absurd (omega (arith, l))

-- with weight 1 the row, x + y at least 4, lacks 4 - 5
lacks : is_at_most zero_ℚ (sum_below (weighted_lack false example (value_at (number 1 ∷ [])) point) 1) ≡ false
unfolding is_at_most sum_below linear_part gcd_of steps_of_euclid over whole ◌+ℚ◌ ◌*ℚ◌ ◌-ℚ◌ neg_ℚ
lacks = refl

pub not_each : ¬ ((ys : List ℚ) (b : ℚ) → b ≤ℚ zero_ℚ → IsLeafDenied (problem_in example) example (weights ys) (open_gap 0 b))
unfolding leaf_at
not_each h =
    let gap = (h (number 1 ∷ []) zero_ℚ (≤ℚ_refl zero_ℚ)).1 in
    let above = at_most_of zero_ℚ (sum_below (weighted_lack false example (value_at (number 1 ∷ [])) point) 1) (gap.1 point in_box) in
    let below = lacks in
    cc
