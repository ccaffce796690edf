-- What the gap that is told of a leaf says of it.
use Rattle.std.proofs.Common.{◌≡◌, ℕ, ◌+◌, ◌-◌, ◌<◌, ◌≤◌, ◌∙◌, sym, subst, refl, arith, Bool, true, false, List, Option, Some, None}
use Rattle.std.specs.Prelude.{if◌then◌else◌}
use Rattle.std.specs.Option.{option_or}
use Rattle.std.proofs.lemmas.Bool.{lt-ltb, le-ltb}
use Rattle.exact_numbers.specs.Rational.{ℚ, zero_ℚ, ◌≤ℚ◌}
use Rattle.linear_program.specs.Linear.{form_value, objective_value, variable_count}
use Rattle.certificates.specs.Branch.{BranchTree, split, duals, weights, LeafFault, row_side, bound_side, wide, open_gap, is_as_good, leaf_fault, duals_check, weights_check, leaves, branch_fault}
use Rattle.certificates.specs.Checked.{is_at_most}
use Rattle.certificates.specs.Means.{Means}
use Rattle.certificates.specs.Parts.{Part, Cut, bound as bound_cut, plane, lemma, first_part, second_part, sum_of}
use Rattle.certificates.specs.Points.{IsAsGood, IsRelaxedIn}
use Rattle.certificates.specs.Problem.{Problem}
use Rattle.certificates.specs.Verdict.{Fault, row_broken, bound_broken, row_side_missing, bound_side_missing, too_wide, BoundVerdict, bound, no_bound, dual_bound, without_objective}
use Rattle.certificates.specs.LeafSays.{Goal, objective, weights_at, goal_of_first, leaf_at, IsGoalReached, GapSays, LeafDenies}
use Rattle.certificates.proofs.Checks.{at_most_yes}
use Rattle.certificates.proofs.Weak.{lagrangian, weak}

-- a gap is told at the leaf that is judged, and it is the bound there
record IsGapAt (k n : ℕ) (r : BoundVerdict) (b : ℚ) : Type 0 where
  here : k ≡ n
  found : r ≡ bound b

no_gap : (k n : ℕ) (b : ℚ) (g : Fault) → Some (leaf_fault k g) ≡ Some (open_gap n b) → ⊥
no_gap k n b (row_broken i) e = cc
no_gap k n b (bound_broken j) e = cc
no_gap k n b (row_side_missing i) e = cc
no_gap k n b (bound_side_missing j) e = cc
no_gap k n b (too_wide place) e = cc

same_gap : (k n : ℕ) (b c : ℚ) → Some (open_gap k c) ≡ Some (open_gap n b) → IsGapAt k n (bound c) b
same_gap k n b c e = record { here = cc; found = cc }

duals_gap : (max : Bool) (v : ℚ) (k n : ℕ) (b : ℚ) (r : BoundVerdict) → duals_check max v k r ≡ Some (open_gap n b) → IsGapAt k n r b
duals_gap max v k n b (no_bound g) e = absurd (no_gap k n b g e)
duals_gap max v k n b (bound c) e = by (is_as_good max v c) e
  where
    by : (t : Bool) → (if t then None else Some (open_gap k c)) ≡ Some (open_gap n b) → IsGapAt k n (bound c) b
    by true e = absurd (cc)
    by false e = same_gap k n b c e

-- weights fail where their bound is not above 0
weights_gap : (k n : ℕ) (b : ℚ) (r : BoundVerdict) → weights_check k r ≡ Some (open_gap n b) → IsGapAt k n r b × (b ≤ℚ zero_ℚ)
weights_gap k n b (no_bound g) e = absurd (no_gap k n b g e)
weights_gap k n b (bound c) e = by (is_at_most c zero_ℚ) refl e
  where
    by : (t : Bool) → is_at_most c zero_ℚ ≡ t → (if t then Some (open_gap k c) else None) ≡ Some (open_gap n b) → IsGapAt k n (bound c) b × (b ≤ℚ zero_ℚ)
    by true h e = let same : c ≡ b = cc in (same_gap k n b c e, subst (λ z. z ≤ℚ zero_ℚ) same (at_most_yes c zero_ℚ h))
    by false h e = absurd (cc)

-- the same part with another value to be met
abbrev asked : Part → ℚ → Part
asked q v = record q { value = v }

-- the first part of a cut, too, is the same with another value
first_asked : (cut : Cut) (q : Part) (P : Part → Type 0) → ((u : ℚ) → P (asked (first_part cut q) u)) → (v : ℚ) → P (first_part cut (asked q v))
first_asked (bound_cut j t) q P h v = h v
first_asked (plane form t) q P h v = h v
first_asked (lemma form t) q P h v = h t

second_asked : (cut : Cut) (q : Part) (P : Part → Type 0) → ((u : ℚ) → P (asked (second_part cut q) u)) → (v : ℚ) → P (second_part cut (asked q v))
second_asked (bound_cut j t) q P h v = h v
second_asked (plane form t) q P h v = h v
second_asked (lemma form t) q P h v = h v

module _ (p : Problem) where
  -- a bound of the part's objective is one of the goal
  record IsGoalOf (goal : Goal) (q : Part) : Type 0 where
    variables : p.variables ≡ variable_count q.program
    reached : (b : ℚ) (xs : List ℚ) → IsAsGood q.program.maximise b (objective_value q.program xs) → IsGoalReached p goal b xs

  goal_in_first : (cut : Cut) (goal : Goal) (q : Part) → IsGoalOf goal q → IsGoalOf (goal_of_first cut goal) (first_part cut q)
  goal_in_first (bound_cut j t) goal q h = record { variables = h.variables; reached = h.reached }
  goal_in_first (plane form t) goal q h = record { variables = h.variables; reached = h.reached }
  goal_in_first (lemma form t) goal q h = record { variables = h.variables; reached = λ b xs good. subst (λ n. form_value (sum_of form) n xs ≤ℚ b) (sym h.variables) good }

  goal_in_second : (cut : Cut) (goal : Goal) (q : Part) → IsGoalOf goal q → IsGoalOf goal (second_part cut q)
  goal_in_second (bound_cut j t) goal q h = record { variables = h.variables; reached = h.reached }
  goal_in_second (plane form t) goal q h = record { variables = h.variables; reached = h.reached }
  goal_in_second (lemma form t) goal q h = record { variables = h.variables; reached = h.reached }

  -- the leaf is one of the tree, and the gap says so of it, whichever value is to be met
  record IsLeafGap (goal : Goal) (q : Part) (tree : BranchTree) (k n : ℕ) (b : ℚ) : Type 0 where
    from : k ≤ n
    to : n < k + leaves tree
    says : (v : ℚ) → GapSays p (leaf_at goal (asked q v) tree (n - k)) b

  in_first : (goal : Goal) (q : Part) (cut : Cut) (below above : BranchTree) (k n : ℕ) (b : ℚ)
      → IsLeafGap (goal_of_first cut goal) (first_part cut q) below k n b → IsLeafGap goal q (split cut below above) k n b
  unfolding leaf_at leaves
  in_first goal q cut below above k n b h =
      let few : n - k < leaves below = omega (arith, h.from, h.to) in
      record {
        from = h.from;
        to = omega (arith, h.to);
        says = λ v.
            subst (λ (t : Bool). GapSays p (if t then leaf_at (goal_of_first cut goal) (first_part cut (asked q v))
            below (n - k) else leaf_at goal (second_part cut (asked q v)) above (n - k - leaves below)) b)
            (sym (lt-ltb (n - k) (leaves below) few))
            (first_asked cut q (λ (r : Part). GapSays p (leaf_at (goal_of_first cut goal) r below (n - k)) b) h.says v);
      }

  in_second : (goal : Goal) (q : Part) (cut : Cut) (below above : BranchTree) (k n : ℕ) (b : ℚ)
      → IsLeafGap goal (second_part cut q) above (k + leaves below) n b → IsLeafGap goal q (split cut below above) k n b
  unfolding leaf_at leaves
  in_second goal q cut below above k n b h =
      let many : leaves below ≤ n - k = omega (arith, h.from) in
      let same : n - (k + leaves below) ≡ n - k - leaves below = omega arith in
      record {
        from = omega (arith, h.from);
        to = omega (arith, h.to);
        says = λ v.
            subst (λ (t : Bool). GapSays p (if t then leaf_at (goal_of_first cut goal) (first_part cut (asked q v))
            below (n - k) else leaf_at goal (second_part cut (asked q v)) above (n - k - leaves below)) b)
            (sym (le-ltb (n - k) (leaves below) many))
            (subst (λ m. GapSays p (leaf_at goal (second_part cut (asked q v)) above m) b) same
            (second_asked cut q (λ (r : Part). GapSays p (leaf_at goal r above (n - (k + leaves below))) b) h.says
            v));
      }

  at_duals : (goal : Goal) (q : Part) (ys : List ℚ) (k n : ℕ) (b : ℚ) → k ≡ n → ((xs : List ℚ) → IsRelaxedIn q.program q.box xs → IsGoalReached p goal b xs) → IsLeafGap goal q (duals ys) k n b
  unfolding leaf_at leaves
  at_duals goal q ys k n b here h = record { from = omega (arith, here); to = omega (arith, here); says = λ v. h }

  at_weights : (goal : Goal) (q : Part) (ys : List ℚ) (k n : ℕ) (b : ℚ) → k ≡ n → GapSays p (weights_at ys q) b → IsLeafGap goal q (weights ys) k n b
  unfolding leaf_at leaves
  at_weights goal q ys k n b here h = record { from = omega (arith, here); to = omega (arith, here); says = λ v. h }

  at_split : (goal : Goal) (q : Part) (cut : Cut) (below above : BranchTree) (k n : ℕ) (b : ℚ)
      → (branch_fault (first_part cut q) k below ≡ Some (open_gap n b)
      → IsLeafGap (goal_of_first cut goal) (first_part cut q) below k n b)
      → (branch_fault (second_part cut q) (k + leaves below) above ≡ Some (open_gap n b) → IsLeafGap goal (second_part cut q) above (k + leaves below) n b)
      → (o : Option LeafFault) → branch_fault (first_part cut q) k below ≡ o
      → option_or o (branch_fault (second_part cut q) (k + leaves below) above) ≡ Some (open_gap n b)
      → IsLeafGap goal q (split cut below above) k n b
  at_split goal q cut below above k n b one other None is e = in_second goal q cut below above k n b (other e)
  at_split goal q cut below above k n b one other (Some g) is e = in_first goal q cut below above k n b (one (is ∙ e))

  leaf_gap : (tree : BranchTree) (goal : Goal) (q : Part) → IsGoalOf goal q → (k n : ℕ) (b : ℚ) → branch_fault q k tree ≡ Some (open_gap n b) → IsLeafGap goal q tree k n b
  unfolding branch_fault
  leaf_gap (split cut below above) goal q of k n b e =
      at_split goal q cut below above k n b (leaf_gap below (goal_of_first cut goal) (first_part cut q)
      (goal_in_first cut goal q of) k n b) (leaf_gap above goal (second_part cut q) (goal_in_second cut goal q of)
      (k + leaves below) n b)
      (branch_fault (first_part cut q) k below) refl e
  leaf_gap (duals ys) goal q of k n b e =
      let at = duals_gap q.program.maximise q.value k n b (dual_bound q.program q.box ys) e in
      at_duals goal q ys k n b at.here (λ xs ok. of.reached b xs (weak q.program q.box ys b at.found xs ok))
  leaf_gap (weights ys) goal q of k n b e =
      let at = weights_gap k n b (dual_bound (without_objective q.program) q.box ys) e in
      at_weights goal q ys k n b at.0.here (at.1, lagrangian q.program q.box ys b at.0.found)

  -- the goal of the whole tree is the objective of a problem that the program means
  goal_of_whole : (q : Part) → Means q.program p → IsGoalOf objective q
  goal_of_whole q means = record {
    variables = means.variables;
    reached =
        λ b xs good. (
          objective_value q.program xs,
          means.value xs,
          subst (λ m. IsAsGood m b (objective_value q.program xs)) (sym means.sense) good,
        );
  }

  pub leaf_denies : (q : Part) → Means q.program p → (v : ℚ) (tree : BranchTree) (g : LeafFault) → branch_fault q 0 tree ≡ Some g → LeafDenies p (asked q v) tree g
  leaf_denies q means v tree (row_side n i) e = tt
  leaf_denies q means v tree (bound_side n j) e = tt
  leaf_denies q means v tree (wide n) e = tt
  leaf_denies q means v tree (open_gap n b) e =
      let h = leaf_gap tree objective q (goal_of_whole q means) 0 n b e in
      (omega (arith, h.to), subst (λ m. GapSays p (leaf_at objective (asked q v) tree m) b) (omega arith) (h.says v))
