-- Proofs by branches: a tree of cuts, whose leaves close by duals or by weights.
use Rattle.std.specs.Prelude.{ℕ, ◌+◌, Bool, true, false, if◌then◌else◌, List, Option, Some, None}
use Rattle.std.specs.Option.{option_or}
use Rattle.exact_numbers.specs.Rational.{ℚ, zero_ℚ}
use Rattle.linear_program.specs.Linear.{Linear}
use Rattle.certificates.specs.Checked.{is_at_most}
use Rattle.certificates.specs.Parts.{Part, Cut, bound as bound_cut, plane, lemma, IsCutWhole, first_part, second_part, whole_part}
use Rattle.certificates.specs.Verdict.{Fault, row_broken, bound_broken, row_side_missing, bound_side_missing, too_wide, BoundVerdict, bound, no_bound, dual_bound, without_objective}

-- a cut, with a tree for each of its parts; a leaf has a number for each row of its part
pub data BranchTree : Type 0 where
  split : Cut → BranchTree → BranchTree → BranchTree
  duals : List ℚ → BranchTree
  weights : List ℚ → BranchTree

-- why a leaf does not close; the first number is the leaf
pub data LeafFault : Type 0 where
  row_side : ℕ → ℕ → LeafFault
  bound_side : ℕ → ℕ → LeafFault
  wide : ℕ → LeafFault
  open_gap : ℕ → ℚ → LeafFault

-- a is at least as good as b
abbrev pub is_as_good : Bool → ℚ → ℚ → Bool
is_as_good true a b = is_at_most b a
is_as_good false a b = is_at_most a b

-- what a fault of the bound says of a leaf
abbrev pub leaf_fault : ℕ → Fault → LeafFault
leaf_fault k (row_broken i) = wide k
leaf_fault k (bound_broken j) = wide k
leaf_fault k (row_side_missing i) = row_side k i
leaf_fault k (bound_side_missing j) = bound_side k j
leaf_fault k (too_wide place) = wide k

-- a leaf with duals closes where its bound is not better than the stated value
abbrev pub duals_check : Bool → ℚ → ℕ → BoundVerdict → Option LeafFault
duals_check max v k (no_bound f) = Some (leaf_fault k f)
duals_check max v k (bound b) = if is_as_good max v b then None else Some (open_gap k b)

-- a leaf with weights closes where its bound for the objective 0, minimised, is above 0
abbrev pub weights_check : ℕ → BoundVerdict → Option LeafFault
weights_check k (no_bound f) = Some (leaf_fault k f)
weights_check k (bound b) = if is_at_most b zero_ℚ then Some (open_gap k b) else None

unfoldable pub leaves : BranchTree → ℕ
leaves (split cut below above) = leaves below + leaves above
leaves (duals ys) = 1
leaves (weights ys) = 1

-- the first leaf of a part that does not close, counted from k
unfoldable pub branch_fault : Part → ℕ → BranchTree → Option LeafFault
branch_fault p k (split cut below above) =
    option_or
    (branch_fault (first_part cut p) k below)
    (branch_fault (second_part cut p) (k + leaves below) above)
branch_fault p k (duals ys) =
    duals_check p.program.maximise p.value k (dual_bound p.program p.box ys)
branch_fault p k (weights ys) =
    weights_check k (dual_bound (without_objective p.program) p.box ys)

-- the first leaf of a proof that does not close; none where the proof holds
unfoldable pub proof_fault : Linear → ℚ → BranchTree → Option LeafFault
proof_fault f v tree = branch_fault (whole_part f v) 0 tree

-- each bound and plane is on whole variables of the program
unfoldable pub AreSplitsWhole : Linear → BranchTree → Type 0
AreSplitsWhole f (split cut below above) =
    IsCutWhole f cut × AreSplitsWhole f below × AreSplitsWhole f above
AreSplitsWhole f (duals ys) = Unit {0}
AreSplitsWhole f (weights ys) = Unit {0}

-- outside the proofs of lemmas no leaf has duals, so that none speaks of the objective
unfoldable pub AreAllWeights : BranchTree → Type 0
AreAllWeights (split (bound_cut j t) below above) = AreAllWeights below × AreAllWeights above
AreAllWeights (split (plane form t) below above) = AreAllWeights below × AreAllWeights above
AreAllWeights (split (lemma form t) shown rest) = AreAllWeights rest
AreAllWeights (duals ys) = ⊥
AreAllWeights (weights ys) = Unit {0}
