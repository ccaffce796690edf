-- What is said of a certificate that shows nothing: of its point, its ray or a leaf.
use Rattle.std.specs.Prelude.{◌≡◌, ℕ, ◌<◌, ◌^◌, true, List, ◌++◌, codes}
use Rattle.std.specs.Fmt.{decimal}
use Rattle.exact_numbers.specs.Fits.{fits}
use Rattle.certificates.specs.Branch.{LeafFault, row_side, bound_side, wide, open_gap}
use Rattle.certificates.specs.Certificate.{Cause, at_point, not_whole, objective_wide, at_ray, at_leaf}
use Rattle.certificates.specs.Ray.{RayFault, ray_row_wide, ray_row_broken, ray_bound_broken, ray_objective_wide, ray_no_better}
use Rattle.certificates.specs.Verdict.{Place, at_row, at_bound, at_cost, Fault, row_broken, bound_broken, row_side_missing, bound_side_missing, too_wide}
use Rattle.exact_checks.specs.Reasons.{cause_text as point_text}
use Rattle.exact_numbers.specs.Written.{frac_text}

-- ---- a ray

abbrev pub ray_text : RayFault → List ℕ
ray_text (ray_row_wide i) = codes "too wide at ray row " ++ decimal i
ray_text (ray_row_broken i) = codes "ray row " ++ decimal i ++ codes " broken"
ray_text (ray_bound_broken j) = codes "ray bound " ++ decimal j ++ codes " broken"
ray_text ray_objective_wide = codes "too wide at ray objective"
ray_text ray_no_better = codes "ray does not improve"

-- ---- a leaf

-- why it does not close
abbrev pub open_text : LeafFault → List ℕ
open_text (row_side leaf row) = codes "row " ++ decimal row ++ codes " has no side"
open_text (bound_side leaf variable) = codes "bound " ++ decimal variable ++ codes " has no side"
open_text (wide leaf) = codes "too wide"
open_text (open_gap leaf bound) = codes "gap " ++ frac_text bound.top bound.bottom

-- its number from 0
abbrev pub leaf_number : LeafFault → ℕ
leaf_number (row_side leaf row) = leaf
leaf_number (bound_side leaf variable) = leaf
leaf_number (wide leaf) = leaf
leaf_number (open_gap leaf bound) = leaf

abbrev pub leaf_fault_text : LeafFault → List ℕ
leaf_fault_text g = codes "leaf " ++ decimal (leaf_number g) ++ codes " " ++ open_text g

-- ---- a certificate

-- why it shows nothing
abbrev pub failed_text : Cause → List ℕ
failed_text (at_point g) = point_text g
failed_text (not_whole j) = codes "variable " ++ decimal j ++ codes " not whole"
failed_text objective_wide = codes "too wide at objective"
failed_text (at_ray g) = ray_text g
failed_text (at_leaf g) = leaf_fault_text g

-- ---- causes that the program tells: with indices of 32 bits, and a bound that fits

abbrev pub place_index : Place → ℕ
place_index (at_row i) = i
place_index (at_bound j) = j
place_index (at_cost j) = j
place_index other = 0

abbrev pub fault_index : Fault → ℕ
fault_index (row_broken i) = i
fault_index (bound_broken j) = j
fault_index (row_side_missing i) = i
fault_index (bound_side_missing j) = j
fault_index (too_wide place) = place_index place

abbrev pub ray_index : RayFault → ℕ
ray_index (ray_row_wide i) = i
ray_index (ray_row_broken i) = i
ray_index (ray_bound_broken j) = j
ray_index other = 0

abbrev pub IsShortLeaf : LeafFault → Type 0
IsShortLeaf (row_side leaf row) = (leaf < 2 ^ 32) × (row < 2 ^ 32)
IsShortLeaf (bound_side leaf variable) = (leaf < 2 ^ 32) × (variable < 2 ^ 32)
IsShortLeaf (wide leaf) = leaf < 2 ^ 32
IsShortLeaf (open_gap leaf bound) = (leaf < 2 ^ 32) × (fits bound ≡ true)

abbrev pub IsShort : Cause → Type 0
IsShort (at_point g) = fault_index g < 2 ^ 32
IsShort (not_whole j) = j < 2 ^ 32
IsShort objective_wide = Unit {0}
IsShort (at_ray g) = ray_index g < 2 ^ 32
IsShort (at_leaf g) = IsShortLeaf g
