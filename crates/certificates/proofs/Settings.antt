-- What is a certificate, or a proof, for a setting is one of each linear program whose setting it is.
use Rattle.std.proofs.Common.{◌≡◌, ℕ, zero, suc, ◌<◌, List, [], ◌∷◌, length, get_or, IsTrue, All, refl, ap, subst, arith}
use Rattle.std.proofs.lemmas.List.Elements.{All-weaker}
use Rattle.exact_numbers.specs.Rational.{IsWhole}
use Rattle.linear_program.specs.Linear.{Linear, no_variable, variable_count, row_count}
use Rattle.certificates.specs.Parts.{IsWholeVariable}
use Rattle.linear_program.specs.Intervals.{is_whole_kind}
use Rattle.linear_program.specs.Numbers.{Pair, number_value}
use Rattle.linear_program.specs.Programs.{IsLinear, LinearValue, linear_value, rows_from, variables_from}
use Rattle.linear_program.specs.declared.form.Form.{Form}
use Rattle.linear_program.specs.declared.interval.Interval.{Interval}
use Rattle.linear_program.specs.declared.kind.Kind.{Kind}
use Rattle.linear_program.specs.declared.kind.Kind.TheVariants.{Continuous}
use Rattle.certificates.specs.Certificates.{CertificateTree, CertificateValue, Given, IsCertificateOf, IsGivenOver, IsTreeOver, split, plane, lemma, duals, weights}
use Rattle.certificates.specs.Proofs.{IsProofOf, IsTreeOf, ProofTree, ProofValue, Pair as ProofPair, split as split_proof, duals as duals_proof, weights as weights_proof}
use Rattle.certificates.specs.Setting.{IsCertificateFor, IsProofFor, IsSettingOf, IsTreeFor, IsWholeFor, Setting, program_setting}

-- ---- certificates

tree_by : (A B : ℕ → Type 0) → ((j : ℕ) → A j → B j) → (n m : ℕ) (tree : CertificateTree) → IsTreeOver A n m tree → IsTreeOver B n m tree
unfolding IsTreeOver
tree_by A B by n m (split j t below above) h = (by j h.0, h.1, tree_by A B by n m below h.2, tree_by A B by n m above h.3)
tree_by A B by n m (plane ps t below above) h = (
  All-weaker (λ (p : Pair). A p.0 × IsWhole (number_value p.1)) (λ (p : Pair). B p.0 × IsWhole (number_value p.1)) (λ p q. (by p.0 q.0, q.1)) ps h.0,
  h.1,
  h.2,
  h.3,
  tree_by A B by n (suc m) below h.4,
  tree_by A B by n (suc m) above h.5,
)
tree_by A B by n m (lemma ps t shown rest) h = (h.0, h.1, h.2, tree_by A B by n m shown h.3, tree_by A B by n (suc m) rest h.4)
tree_by A B by n m (duals ps) h = h
tree_by A B by n m (weights ps) h = h

module _ (f : Linear) (s : Setting) (is : IsSettingOf f s) where
  whole_for : (j : ℕ) → IsWholeFor s j → IsWholeVariable f j
  whole_for j h = (subst (λ n. j < n) is.variables h.0, subst (λ b. IsTrue b) (is.whole j h.0) h.1)

  pub given_for : (g : Given) → IsGivenOver (IsWholeFor s) (length s.kinds) s.rows g → IsGivenOver (IsWholeVariable f) (variable_count f) (row_count f) g
  given_for g h =
      let over : IsGivenOver (IsWholeVariable f) (length s.kinds) s.rows g =
      record {
        point = h.point;
        ray = h.ray;
        tree = λ t e. tree_by (IsWholeFor s) (IsWholeVariable f) whole_for (length s.kinds) s.rows t (h.tree t e);
        few_rows = h.few_rows;
      } in
      subst (λ n. IsGivenOver (IsWholeVariable f) n (row_count f) g) is.variables (subst (λ m. IsGivenOver (IsWholeVariable f) (length s.kinds) m g) is.rows over)

  pub certificate_for : (c : CertificateValue) → IsCertificateFor s c → IsCertificateOf f c
  certificate_for c h =
      record {
        given = h.given;
        point = h.point;
        ray = h.ray;
        nodes = h.nodes;
        pairs = h.pairs;
        asked = h.asked;
        fine = given_for h.given h.fine;
        few_nodes = h.few_nodes;
        few_pairs = h.few_pairs;
      }

  -- ---- proofs by branches

  proof_tree_for : (tree : ProofTree) → IsTreeFor s tree → IsTreeOf f tree
  unfolding IsTreeFor IsTreeOf
  proof_tree_for (split_proof j t low high) h = (let on = whole_for j h.0 in (on.0, on.1, proof_tree_for low h.1, proof_tree_for high h.2))
  proof_tree_for (duals_proof ps) h = subst (λ n. All (λ (p : ProofPair). p.0 < n) ps) is.rows h
  proof_tree_for (weights_proof ps) h = subst (λ n. All (λ (p : ProofPair). p.0 < n) ps) is.rows h

  pub proof_for : (p : ProofValue) → IsProofFor s p → IsProofOf f p
  proof_for p h = record { tree = h.tree; nodes = h.nodes; pairs = h.pairs; fine = proof_tree_for h.tree h.fine; alone = h.alone; value = h.value; few = h.few }

-- ---- a linear program as data

rows_counted : (i : ℕ) (bodies : List Form) (sides : List Interval) → length sides ≡ length bodies → length bodies ≡ length (rows_from i bodies sides)
rows_counted i [] sides e = refl
rows_counted i (b ∷ bodies) [] e = absurd (omega (arith, e))
rows_counted i (b ∷ bodies) (s ∷ sides) e = ap suc (rows_counted (suc i) bodies sides (omega (arith, e)))

variables_counted : (j : ℕ) (bounds : List Interval) (kinds : List Kind) → length kinds ≡ length bounds → length kinds ≡ length (variables_from j bounds kinds)
variables_counted j [] [] e = refl
variables_counted j [] (k ∷ kinds) e = absurd (omega (arith, e))
variables_counted j (b ∷ bounds) [] e = absurd (omega (arith, e))
variables_counted j (b ∷ bounds) (k ∷ kinds) e = ap suc (variables_counted (suc j) bounds kinds (omega (arith, e)))

whole_there : (i : ℕ) (bounds : List Interval) (kinds : List Kind) → length kinds ≡ length bounds → (j : ℕ) → j < length kinds
    → is_whole_kind (get_or kinds j Continuous) ≡ (get_or (variables_from i bounds kinds) j no_variable).whole
whole_there i [] [] e j h = absurd (omega (arith, h))
whole_there i [] (k ∷ kinds) e j h = absurd (omega (arith, e))
whole_there i (b ∷ bounds) [] e j h = absurd (omega (arith, e))
whole_there i (b ∷ bounds) (k ∷ kinds) e zero h = refl
whole_there i (b ∷ bounds) (k ∷ kinds) e (suc j) h = whole_there (suc i) bounds kinds (omega (arith, e)) j (omega (arith, h))

pub program_has_setting : (l : LinearValue) → IsLinear l → IsSettingOf (linear_value l) (program_setting l)
unfolding linear_value
program_has_setting l h = record {
  rows = rows_counted 0 l.bodies l.sides h.sides;
  variables = variables_counted 0 l.bounds l.kinds h.kinds;
  whole = whole_there 0 l.bounds l.kinds h.kinds;
}
