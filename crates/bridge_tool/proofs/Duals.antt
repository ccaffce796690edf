-- What the duals of a .sol value say: the leaf that gives them closes for the bound that is told, and so they show it.
use Rattle.std.proofs.Common.{◌≡◌, ◌≢◌, ◌∙◌, ◌<◌, ℕ, Bool, List, [], Option, Some, None, refl, sym, ap, ap₂, subst}
use Rattle.std.specs.Prelude.{IsSomeAnd, IsTrue, option_map}
use Rattle.std.proofs.lemmas.Option.{same_Some}
use Rattle.exact_numbers.specs.Rational.{ℚ, ◌+ℚ◌}
use Rattle.exact_numbers.specs.Sums.{sum_below}
use Rattle.exact_numbers.proofs.Adding.{sum_below_same}
use Rattle.linear_program.specs.Linear.{IsInside, Linear, Row, Variable, form_value, row_at, row_count, value_at, variable_count}
use Rattle.linear_program.specs.Numbers.{Pair, number_value, spread}
use Rattle.certificates.specs.Branch.{BranchTree, LeafFault, duals as duals_leaf, proof_fault}
use Rattle.certificates.specs.Certificate.{Certificate, Judged, bounded, holds, judged, near, optimal as optimal_by, outcome, refused, unless_leaf, valued, with_leaves, with_proof}
use Rattle.certificates.specs.Certificates.{AreWeights, Given, HasWeights, IsAskedFor, claim_outcome, duals, tree_over, with_tree}
use Rattle.certificates.specs.Means.{problem_in}
use Rattle.certificates.specs.Points.{IsAsGood}
use Rattle.certificates.specs.Verdict.{has_needed}
use Rattle.certificates.specs.Told.{told_claim}
use Rattle.certificates.specs.ToldMeaning.{Told, bound, optimal, within}
use Rattle.certificates.specs.declared.certificate.Claim.{Claim}
use Rattle.certificates.specs.declared.certificate.Claim.TheVariants.{Optimal, Within, Bound, Feasible, Infeasible, Unbounded}
use Rattle.certified_solution.specs.Lagrangian.{ShowBound, IsWithinBounds, priced_lack}
use Rattle.certified_solution.specs.Solution.{dual_values}
use Rattle.certified_solution.proofs.Given.{has_leaf}
use Rattle.certified_solution.proofs.Signs.{duals_show}
use Rattle.nl_model.specs.File.{File}
use Rattle.nl_model.specs.LinearFile.{HasLines, body_form, linear_of}
use Rattle.nl_model.specs.Expressions.{maximises}
use Rattle.nl_model.specs.Meaning.{side_of}
use Rattle.nl_model.proofs.Files.{count_lem, same_objective, same_sense, variable_lem}
use Rattle.problems.specs.FileProblem.{problem_of}
use Rattle.problems.proofs.Files.{row_lem, rows_counted}
use Rattle.bridge_tool.specs.Certified.{told_bound}

-- ---- the tree of a claim that holds closes for the bound that is told

leaf_none : (r : Option LeafFault) (w o : Option ℚ) → unless_leaf r w ≡ holds o → (r ≡ None) × (w ≡ o)
leaf_none None w o e = (refl, cc)
leaf_none (Some g) w o e = absurd cc

module _ (f : Linear) (tree : BranchTree) where
  -- for this bound
  abbrev pub Closes : ℚ → Type 0
  Closes b = proof_fault f b tree ≡ None

  abbrev ClosesAs : Told → Type 0
  ClosesAs told = IsSomeAnd (told_bound told) Closes

  told_as : (a told : Told) → Some a ≡ Some told → ClosesAs a → ClosesAs told
  told_as a told e h = subst ClosesAs (same_Some a told e) h

  by_value : (j : Judged) (o : Option ℚ) (told : Told) → with_proof f tree j ≡ holds o → option_map optimal o ≡ Some told → ClosesAs told
  by_value (refused cause) o told h e = absurd cc
  by_value (valued v) o told h e =
      let r = leaf_none (proof_fault f v tree) (Some v) o h in
      told_as (optimal v) told (ap (option_map optimal) r.1 ∙ e) r.0

  by_bound : (b : ℚ) (j : Judged) (o : Option ℚ) (told : Told) → with_leaves (proof_fault f b tree) j ≡ holds o → option_map (within b) o ≡ Some told → ClosesAs told
  by_bound b (refused cause) o told h e = absurd cc
  by_bound b (valued v) o told h e =
      let r = leaf_none (proof_fault f b tree) (Some v) o h in
      told_as (within b v) told (ap (option_map (within b)) r.1 ∙ e) r.0

  by_tree : (v : ℚ) (o : Option ℚ) (told : Told) → unless_leaf (proof_fault f v tree) (Some v) ≡ holds o → option_map bound o ≡ Some told → ClosesAs told
  by_tree v o told h e =
      let r = leaf_none (proof_fault f v tree) (Some v) o h in
      told_as (bound v) told (ap (option_map bound) r.1 ∙ e) r.0

  optimal_closes : (xs : List ℚ) (o : Option ℚ) (told : Told) → outcome f (optimal_by xs tree) ≡ holds o → option_map optimal o ≡ Some told → ClosesAs told
  unfolding outcome
  optimal_closes xs o told h e = by_value (judged f xs) o told h e

  within_closes : (xs : List ℚ) (b : ℚ) (o : Option ℚ) (told : Told) → outcome f (near xs b tree) ≡ holds o → option_map (within b) o ≡ Some told → ClosesAs told
  unfolding outcome
  within_closes xs b o told h e = by_bound b (judged f xs) o told h e

  bound_closes : (v : ℚ) (o : Option ℚ) (told : Told) → outcome f (bounded v tree) ≡ holds o → option_map bound o ≡ Some told → ClosesAs told
  unfolding outcome
  bound_closes v o told h e = by_tree v o told h e

module _ (f : Linear) (g : Given) (ps : List Pair) (leaf : g.tree ≡ Some (duals ps)) where
  -- the tree over the rows of the program
  over : (make : BranchTree → Certificate) → with_tree make (row_count f) g.tree ≡ make (duals_leaf (spread (row_count f) ps))
  unfolding tree_over
  over make = ap (with_tree make (row_count f)) leaf

  no_tree : g.tree ≡ None → ⊥
  no_tree none = let e : Some (duals ps) ≡ None = sym leaf ∙ none in absurd cc

  no_weights : HasWeights (Some (duals ps)) → ⊥
  unfolding AreWeights
  no_weights h = h

  pub leaf_closes : (claim : Claim) (o : Option ℚ) (told : Told) → IsAskedFor claim g → claim_outcome f claim g ≡ holds o → told_claim claim o ≡ Some told
      → IsSomeAnd (told_bound told) (Closes f (duals_leaf (spread (row_count f) ps)))
  leaf_closes (Optimal k) o told asked h e = optimal_closes f (duals_leaf (spread (row_count f) ps))
      (spread (variable_count f) g.point) o told (ap (outcome f)
      (sym (over (optimal_by (spread (variable_count f) g.point)))) ∙ h) e
  leaf_closes (Within k b) o told asked h e = within_closes f (duals_leaf (spread (row_count f) ps))
      (spread (variable_count f) g.point) (number_value b) o told
      (ap (outcome f) (sym (over (near (spread (variable_count f) g.point) (number_value b)))) ∙ h) e
  leaf_closes (Bound k v) o told asked h e = bound_closes f (duals_leaf (spread (row_count f) ps)) (number_value v) o told (ap (outcome f) (sym (over (bounded (number_value v)))) ∙ h) e
  leaf_closes (Feasible k) o told asked h e = absurd (no_tree asked.1)
  leaf_closes Infeasible o told asked h e = absurd (no_weights (subst HasWeights leaf asked.2))
  leaf_closes (Unbounded k) o told asked h e = absurd (no_tree asked)

-- ---- what duals show of the linear program of a file they show of the file

module _ (file : File) (k : ℕ) (lines : HasLines file k) (ys : List ℚ) (b : ℚ) (h : ShowBound (problem_in (linear_of file k)) ys b) where
  abbrev f : Linear
  f = linear_of file k

  row_there : (i : ℕ) → i < file.counts.n_con → i < row_count f
  row_there i l = subst (λ n. i < n) (sym (rows_counted file k)) l

  file_sides : (i : ℕ) → i < file.counts.n_con → IsTrue (has_needed (maximises file k) (value_at ys i) (side_of file i))
  file_sides i l =
      subst (λ (max : Bool). IsTrue (has_needed max (value_at ys i) (side_of file i))) (same_sense file k)
      (subst (λ (r : Row). IsTrue (has_needed f.maximise (value_at ys i) r.side)) (row_lem file k i l) (h.sides i (row_there i l)))

  within_too : (xs : List ℚ) → IsWithinBounds (problem_of file k) xs → IsWithinBounds (problem_in f) xs
  within_too xs inside j l =
      let below : j < file.counts.n_var = subst (λ n. j < n) (count_lem file k) l in
      subst (λ (v : Variable). IsInside v.bound (value_at xs j)) (sym (variable_lem file k j below)) (inside j below)

  same_body : (xs : List ℚ) (i : ℕ) → i < file.counts.n_con → Some (form_value (body_form file i) file.counts.n_var xs) ≡ Some (form_value (row_at f i).body (variable_count f) xs)
  same_body xs i l =
      ap (λ n. Some (form_value (body_form file i) n xs)) (sym (count_lem file k))
      ∙ ap (λ (r : Row). Some (form_value r.body (variable_count f) xs)) (sym (row_lem file k i l))

  same_lacks : (body : ℕ → ℚ) → sum_below (λ i. priced_lack f.maximise (row_at f i).side (value_at ys i) (body i)) (row_count f)
      ≡ sum_below (λ i. priced_lack (maximises file k) (side_of file i) (value_at ys i) (body i)) file.counts.n_con
  same_lacks body =
      ap (λ n. sum_below (λ i. priced_lack f.maximise (row_at f i).side (value_at ys i) (body i)) n) (rows_counted file k)
      ∙ sum_below_same _ _ file.counts.n_con
      (λ i l. ap₂ (λ (max : Bool) (r : Row). priced_lack max r.side (value_at ys i) (body i)) (same_sense file k) (row_lem file k i l))

  pub file_shows : ShowBound (problem_of file k) ys b
  file_shows = record {
    sides = file_sides;
    best = λ xs inside.
        let got = h.best xs (within_too xs inside) in (
          got.0,
          record {
            value = got.1.value;
            objective = same_objective file k lines xs ∙ got.1.objective;
            body = got.1.body;
            bodies = λ i l. lines.bodies i l xs ∙ same_body xs i l ∙ got.1.bodies i (row_there i l);
            total = got.1.total ∙ ap (λ z. got.1.value +ℚ z) (same_lacks got.1.body);
          },
          subst (λ (max : Bool). IsAsGood max b got.0) (same_sense file k) got.2,
        );
  }

-- ---- the duals of a claim that holds show the bound that is told

module _ (file : File) (k : ℕ) (lines : HasLines file k) (claim : Claim) (g : Given) (o : Option ℚ) (told : Told) where
  by_bound_told : (r : Option ℚ) (ys : List ℚ) → IsSomeAnd r (λ b. proof_fault (linear_of file k) b (duals_leaf ys) ≡ None) → IsSomeAnd r (ShowBound (problem_of file k) ys)
  by_bound_told None ys h = h
  by_bound_told (Some b) ys h = file_shows file k lines ys b (duals_show (linear_of file k) b ys h)

  pub duals_so : IsAskedFor claim g → claim_outcome (linear_of file k) claim g ≡ holds o → told_claim claim o ≡ Some told
      → (ys : List ℚ) → ys ≡ dual_values file.counts.n_con g.tree → ys ≢ [] → IsSomeAnd (told_bound told) (ShowBound (problem_of file k) ys)
  duals_so asked h e ys same some =
      let leaf = has_leaf file.counts.n_con g.tree (λ none. some (same ∙ none)) in
      let closes = leaf_closes (linear_of file k) g leaf.0 leaf.1 claim o told asked h e in
      let at_rows : spread (row_count (linear_of file k)) leaf.0 ≡ ys = ap (λ n. spread n leaf.0) (rows_counted file k) ∙ sym leaf.2 ∙ sym same in
      by_bound_told (told_bound told) ys (subst (λ zs. IsSomeAnd (told_bound told) (λ b. proof_fault (linear_of file k) b (duals_leaf zs) ≡ None)) at_rows closes)
