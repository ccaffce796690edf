-- What a closed tree of cuts says.
use Rattle.std.proofs.Common.{◌≡◌, ℕ, ◌+◌, ◌⊎◌, inl, inr, ◌∙◌, ap, subst, refl, Bool, true, false, Some, None, List}
use Rattle.std.specs.Prelude.{if◌then◌else◌}
use Rattle.std.specs.Option.{option_or}
use Rattle.exact_numbers.specs.Rational.{ℚ, zero_ℚ, ◌≤ℚ◌, ◌<ℚ◌, ◌+ℚ◌}
use Rattle.exact_numbers.proofs.RationalLaws.{+ℚ_zero, zero-*ℚ, not_both}
use Rattle.exact_numbers.proofs.Adding.{sum_below_all_zero}
use Rattle.exact_numbers.proofs.Tests.{option_or-none}
use Rattle.certificates.specs.Checked.{is_at_most}
use Rattle.linear_program.specs.Linear.{Form, Linear, Row, IsFeasible, IsRelaxed, value_at, variable_count, linear_part, form_value, objective_value, zero_form}
use Rattle.certificates.specs.Points.{Box, bounds_of, IsRelaxedIn, IsAsGood, IsBetter}
use Rattle.certificates.specs.Verdict.{BoundVerdict, bound, no_bound, dual_bound, without_objective}
use Rattle.certificates.specs.Branch.{BranchTree, split, duals, weights, open_gap, is_as_good, duals_check, weights_check, leaves, branch_fault, proof_fault, AreSplitsWhole, AreAllWeights}
use Rattle.certificates.specs.Parts.{Part, Cut, bound as bound_cut, plane, lemma, IsFeasibleIn, IsCutWhole, sum_of, first_part, second_part, whole_part}
use Rattle.certificates.proofs.Checks.{at_most_no, at_most_yes, if_none}
use Rattle.certificates.proofs.Good.{good_trans, good_not_better}
use Rattle.certificates.proofs.Parts.{covered, in_proof, in_whole, with_lemma}
use Rattle.certificates.proofs.Weak.{weak}

zero_at : (n : ℕ) (xs : List ℚ) → form_value zero_form n xs ≡ zero_ℚ
unfolding linear_part
zero_at n xs = ap (λ z. zero_ℚ +ℚ z) (sum_below_all_zero _ n (λ j l. zero-*ℚ (value_at xs j))) ∙ +ℚ_zero zero_ℚ

-- weights that close leave no relaxed point
pub weights_close : (f : Linear) (box : Box) (k : ℕ) (ys : List ℚ) → weights_check k (dual_bound (without_objective f) box ys) ≡ None → (xs : List ℚ) → ¬ IsRelaxedIn f box xs
weights_close f box k ys h xs ok = by (dual_bound (without_objective f) box ys) refl h
  where
    positive : (b : ℚ) (t : Bool) → is_at_most b zero_ℚ ≡ t → (if t then Some (open_gap k b) else None) ≡ None → zero_ℚ <ℚ b
    positive b true e h = absurd (cc)
    positive b false e h = at_most_no b zero_ℚ e

    by : (r : BoundVerdict) → dual_bound (without_objective f) box ys ≡ r → weights_check k r ≡ None → ⊥
    by (no_bound g) e h = absurd (cc)
    by (bound b) e h =
        let below : b ≤ℚ objective_value (without_objective f) xs = weak (without_objective f) box ys b e xs (record { rows = ok.rows; bounds = ok.bounds }) in
        not_both b zero_ℚ (subst (λ z. b ≤ℚ z) (zero_at (variable_count f) xs) below) (positive b (is_at_most b zero_ℚ) refl h)

-- duals that close bound the objective by the stated value
duals_close : (f : Linear) (box : Box) (v : ℚ) (k : ℕ) (ys : List ℚ)
    → duals_check f.maximise v k (dual_bound f box ys) ≡ None → (xs : List ℚ) → IsRelaxedIn f box xs
    → IsAsGood f.maximise v (objective_value f xs)
duals_close f box v k ys h xs ok = by (dual_bound f box ys) refl h
  where
    good_yes : (max : Bool) (a b : ℚ) → is_as_good max a b ≡ true → IsAsGood max a b
    good_yes true a b e = at_most_yes b a e
    good_yes false a b e = at_most_yes a b e

    by : (r : BoundVerdict) → dual_bound f box ys ≡ r → duals_check f.maximise v k r ≡ None → IsAsGood f.maximise v (objective_value f xs)
    by (no_bound g) e h = absurd (cc)
    by (bound b) e h =
        good_trans f.maximise v b (objective_value f xs) (good_yes f.maximise v b (if_none (is_as_good f.maximise v b) (open_gap k b) h)) (weak f box ys b e xs ok)

-- cuts that are whole in a program are whole with other rows and another goal
splits_with : (f : Linear) (rows : List Row) (goal : Form) (max : Bool) (tree : BranchTree) → AreSplitsWhole f tree → AreSplitsWhole (record f { rows = rows; objective = goal; maximise = max }) tree
unfolding AreSplitsWhole
splits_with f rows goal max (split (bound_cut j t) below above) h = (h.0, splits_with f rows goal max below h.1, splits_with f rows goal max above h.2)
splits_with f rows goal max (split (plane form t) below above) h = (h.0, splits_with f rows goal max below h.1, splits_with f rows goal max above h.2)
splits_with f rows goal max (split (lemma form t) shown rest) h = (tt, splits_with f rows goal max shown h.1, splits_with f rows goal max rest h.2)
splits_with f rows goal max (duals ys) h = tt
splits_with f rows goal max (weights ys) h = tt

splits_of_parts : (p : Part) (cut : Cut) (tree : BranchTree) → AreSplitsWhole p.program tree → AreSplitsWhole (first_part cut p).program tree × AreSplitsWhole (second_part cut p).program tree
splits_of_parts p (bound_cut j t) tree h = (h, h)
splits_of_parts p (plane form t) tree h = (splits_with p.program _ _ _ tree h, splits_with p.program _ _ _ tree h)
splits_of_parts p (lemma form t) tree h = (splits_with p.program p.program.rows (sum_of form) true tree h, splits_with p.program _ _ _ tree h)

-- what a tree that closes shows of each feasible point of its part: the value that is to be met is at
-- least as good, and not all leaves outside the proofs of lemmas are weights
abbrev IsMet : List ℚ → Part → BranchTree → Type 0
IsMet xs p tree = IsAsGood p.program.maximise p.value (objective_value p.program xs) × ¬ AreAllWeights tree

module _ (xs : List ℚ) where
  abbrev Closes : Part → ℕ → BranchTree → Type 0
  Closes p k tree = IsFeasibleIn p xs → AreSplitsWhole p.program tree → branch_fault p k tree ≡ None → IsMet xs p tree

  -- a point is in one of the two parts
  part_met : (p : Part) (cut : Cut) (k : ℕ) (below above : BranchTree) → IsFeasibleIn p xs → IsCutWhole p.program cut × AreSplitsWhole p.program below × AreSplitsWhole p.program above
      → option_or (branch_fault (first_part cut p) k below) (branch_fault (second_part cut p) (k + leaves below) above)
      ≡ None → Closes (first_part cut p) k below → Closes (second_part cut p) (k + leaves below) above
      → IsMet xs (first_part cut p) below ⊎ IsMet xs (second_part cut p) above
  part_met p cut k below above ok fine h one other =
      let both = option_or-none (branch_fault (first_part cut p) k below) (branch_fault (second_part cut p) (k + leaves below) above) h in
      elim (covered p cut xs fine.0 ok) [
        | inl l ↦ inl (one l (splits_of_parts p cut below fine.1).0 both.0)
        | inr r ↦ inr (other r (splits_of_parts p cut above fine.2).1 both.1)
      ]

  either_met : (G A B : Type 0) → (G × ¬ A) ⊎ (G × ¬ B) → G × ¬ (A × B)
  either_met G A B (inl l) = (l.0, λ a. l.1 a.0)
  either_met G A B (inr r) = (r.0, λ a. r.1 a.1)

  closed : (tree : BranchTree) (p : Part) (k : ℕ) → Closes p k tree
  unfolding branch_fault AreSplitsWhole AreAllWeights
  closed (split (bound_cut j t) below above) p k ok fine h =
      either_met _ _ _ (part_met p (bound_cut j t) k below above ok fine h (closed below (first_part (bound_cut j t) p) k) (closed above (second_part (bound_cut j t) p) (k + leaves below)))
  closed (split (plane form t) below above) p k ok fine h =
      either_met _ _ _ (part_met p (plane form t) k below above ok fine h (closed below (first_part (plane form t) p) k) (closed above (second_part (plane form t) p) (k + leaves below)))
  closed (split (lemma form t) shown rest) p k ok fine h =
      let cut : Cut = lemma form t in
      let both = option_or-none (branch_fault (first_part cut p) k shown) (branch_fault (second_part cut p) (k + leaves shown) rest) h in
      let is : IsMet xs (first_part cut p) shown = closed shown (first_part cut p) k (in_proof p form t xs ok) (splits_of_parts p cut shown fine.1).0 both.0 in
      closed rest (second_part cut p) (k + leaves shown) (with_lemma p form t xs ok is.0) (splits_of_parts p cut rest fine.2).1 both.1
  closed (duals ys) p k ok fine h = (duals_close p.program p.box p.value k ys h xs ok.relaxed, λ a. a)
  closed (weights ys) p k ok fine h = absurd (weights_close p.program p.box k ys h xs ok.relaxed)

proof_met : (f : Linear) (v : ℚ) (tree : BranchTree) → AreSplitsWhole f tree → proof_fault f v tree ≡ None → (xs : List ℚ) → IsFeasible f xs → IsMet xs (whole_part f v) tree
unfolding proof_fault
proof_met f v tree fine h xs ok = closed xs tree (whole_part f v) 0 (in_whole f v xs ok) fine h

pub branches : (f : Linear) (v : ℚ) (tree : BranchTree) → AreSplitsWhole f tree → proof_fault f v tree ≡ None → (xs : List ℚ) → IsFeasible f xs → ¬ IsBetter f.maximise (objective_value f xs) v
branches f v tree fine h xs ok better = good_not_better f.maximise v (objective_value f xs) (proof_met f v tree fine h xs ok).0 better

-- where all leaves outside the proofs of lemmas are weights there is no point
pub infeasible_tree : (f : Linear) (v : ℚ) (tree : BranchTree) → AreSplitsWhole f tree → AreAllWeights tree → proof_fault f v tree ≡ None → (xs : List ℚ) → ¬ IsFeasible f xs
infeasible_tree f v tree fine all h xs ok = (proof_met f v tree fine h xs ok).1 all

pub infeasible : (f : Linear) (v : ℚ) (ys : List ℚ) → proof_fault f v (weights ys) ≡ None → (xs : List ℚ) → ¬ IsRelaxed f xs
unfolding proof_fault branch_fault
infeasible f v ys h xs ok = weights_close f (bounds_of f) 0 ys h xs (record { rows = ok.rows; bounds = ok.bounds })
