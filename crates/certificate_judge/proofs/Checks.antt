-- The parts of a certificate, and its outcome.
use Rattle.std.proofs.Common.{◌≡◌, ℕ, ◌∙◌, sym, ap, ap₂, List, ◌++◌, drop, take, Option, Some, None, refl}
use Rattle.std.proofs.Math.Seq.{take-append_seam}
use Rattle.exact_numbers.specs.Rational.{zero_ℚ}
use Rattle.linear_program.specs.Linear.{Linear, row_count, value_at, variable_count}
use Rattle.certificates.specs.Branch.{proof_fault}
use Rattle.certificates.specs.Certificate.{ClaimOutcome as OutcomeWords, alone, judged, outcome, unless_leaf, with_leaves, with_ray, with_proof}
use Rattle.certificates.specs.Parts.{IsWholeVariable}
use Rattle.certificates.specs.Ray.{ray_fault}
use Rattle.linear_program.specs.declared.number.Number.{Number}
use Rattle.certificates.specs.declared.certificate.Claim.TheVariants.{Optimal, Within, Bound, Feasible, Infeasible, Unbounded}
use Rattle.certificates.specs.Certificates.{CertificateTree, CertificateValue, Given, HasTree, HasWeights, IsCertificateOf, certificate_over, pairs_in, nodes_in, tree_over}
use Rattle.linear_program.specs.Numbers.{Pair, spread, number_value}
use Rattle.certificate_judge.specs.Walks.{IsWritten}
use Rattle.certificate_judge.proofs.WalkSteps.{back_is, walkable}

given_tree : (P : Option CertificateTree → Type 0) (o : Option CertificateTree) → HasTree o → ((tree : CertificateTree) → o ≡ Some tree → P (Some tree)) → P o
given_tree P None has each = absurd has
given_tree P (Some tree) has each = each tree refl

module _ (f : Linear) (c : CertificateValue) (h : IsCertificateOf f c) where
  later : List Pair
  later = h.given.ray ++ pairs_in h.given.tree

  later_is : drop c.point c.pairs ≡ later
  unfolding later
  later_is = back_is h.given.point later c.pairs c.point (sym h.pairs) h.point

  rest_is : drop c.ray (drop c.point c.pairs) ≡ pairs_in h.given.tree
  unfolding later
  rest_is = back_is h.given.ray (pairs_in h.given.tree) (drop c.point c.pairs) c.ray later_is h.ray

  pub ray_is : take c.ray (drop c.point c.pairs) ≡ h.given.ray
  unfolding later
  ray_is = ap₂ take (sym h.ray) later_is ∙ take-append_seam h.given.ray (pairs_in h.given.tree)

  pub is_written : (tree : CertificateTree) → h.given.tree ≡ Some tree → IsWritten f tree c.nodes (drop c.ray (drop c.point c.pairs))
  is_written tree e =
      record {
        nodes_are = ap nodes_in (sym e) ∙ h.nodes;
        pairs_are = ap pairs_in (sym e) ∙ sym rest_is;
        fine = walkable (IsWholeVariable f) (variable_count f) (row_count f) tree (λ j w. w.0) (h.fine.tree tree e);
      }

  pub some_tree : HasTree h.given.tree → (tree : CertificateTree) × (h.given.tree ≡ Some tree)
  some_tree has = given_tree (λ o. (tree : CertificateTree) × (o ≡ Some tree)) h.given.tree has (λ tree e. (tree, refl))

-- ---- by claim
module _ (f : Linear) (n m : ℕ) where
  pub optimal_is : (k : ℕ) (g : Given) (o : OutcomeWords) (has : HasTree g.tree)
      → ((tree : CertificateTree) → g.tree ≡ Some tree → o ≡ with_proof f (tree_over m tree)
      (judged f (spread n g.point))) → o ≡ outcome f (certificate_over n m (Optimal k) g)
  unfolding outcome
  optimal_is k g o has h = given_tree (λ t. o ≡ outcome f (certificate_over n m (Optimal k) (record g { tree = t }))) g.tree has h

  pub near_is : (k : ℕ) (v : Number) (g : Given) (o : OutcomeWords) (has : HasTree g.tree)
      → ((tree : CertificateTree) → g.tree ≡ Some tree → o ≡ with_leaves
      (proof_fault f (number_value v) (tree_over m tree)) (judged f (spread n g.point)))
      → o ≡ outcome f (certificate_over n m (Within k v) g)
  unfolding outcome
  near_is k v g o has h = given_tree (λ t. o ≡ outcome f (certificate_over n m (Within k v) (record g { tree = t }))) g.tree has h

  pub bound_is : (k : ℕ) (v : Number) (g : Given) (o : OutcomeWords) (has : HasTree g.tree)
      → ((tree : CertificateTree) → g.tree ≡ Some tree → o ≡ unless_leaf
      (proof_fault f (number_value v) (tree_over m tree)) (Some (number_value v)))
      → o ≡ outcome f (certificate_over n m (Bound k v) g)
  unfolding outcome
  bound_is k v g o has h = given_tree (λ t. o ≡ outcome f (certificate_over n m (Bound k v) (record g { tree = t }))) g.tree has h

  pub infeasible_is : (g : Given) (o : OutcomeWords) (has : HasTree g.tree)
      → ((tree : CertificateTree) → g.tree ≡ Some tree → o ≡ unless_leaf (proof_fault f zero_ℚ (tree_over m tree)) None)
      → o ≡ outcome f (certificate_over n m Infeasible g)
  unfolding outcome
  infeasible_is g o has h = given_tree (λ t. o ≡ outcome f (certificate_over n m Infeasible (record g { tree = t }))) g.tree has h

  pub feasible_is : (k : ℕ) (g : Given) → alone (judged f (spread n g.point)) ≡ outcome f (certificate_over n m (Feasible k) g)
  unfolding outcome
  feasible_is k g i = alone (judged f (spread n g.point))

  pub unbounded_is : (k : ℕ) (g : Given) → with_ray (ray_fault f (value_at (spread n g.ray))) (judged f (spread n g.point)) ≡ outcome f (certificate_over n m (Unbounded k) g)
  unfolding outcome
  unbounded_is k g i = with_ray (ray_fault f (value_at (spread n g.ray))) (judged f (spread n g.point))

-- weights are a tree
pub tree_of_weights : (o : Option CertificateTree) → HasWeights o → HasTree o
tree_of_weights None h = h
tree_of_weights (Some tree) h = tt
