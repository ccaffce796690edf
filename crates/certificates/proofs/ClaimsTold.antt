-- What is told of a claim, or of a proof by branches, is true of each problem that the linear program means.
use Rattle.std.proofs.Common.{◌≡◌, ℕ, sym, subst, refl, [], Option, Some, None}
use Rattle.std.proofs.lemmas.Option.{same_Some}
use Rattle.exact_numbers.specs.Rational.{ℚ}
use Rattle.linear_program.specs.Linear.{Linear, variable_count, row_count}
use Rattle.certificates.specs.Branch.{AreSplitsWhole, proof_fault}
use Rattle.certificates.specs.Certificate.{Cause, ClaimOutcome, fails, holds}
use Rattle.certificates.specs.Means.{Means}
use Rattle.certificates.specs.Parts.{IsWholeVariable}
use Rattle.certificates.specs.Problem.{Problem}
use Rattle.certificates.specs.ProblemSays.{Denies, IsShown, OutcomeSays}
use Rattle.certificates.specs.ToldMeaning.{IsToldTrue, IsTrueOf, bound as told_bound, infeasible as told_infeasible}
use Rattle.certificates.proofs.Problems.{bounds, none_relaxed, outcomes}
use Rattle.exact_numbers.specs.Values.{dec_value}
use Rattle.linear_program.specs.Numbers.{spread}
use Rattle.certificates.specs.Certificates.{CertificateTree, CertificateValue, Given, HasTree, HasWeights, IsAskedFor, IsCertificateOf, IsGivenOver, certificate_over, claim_outcome}
use Rattle.certificates.specs.Proofs.{IsProofOf, IsTreeOf, IsAlone, ProofTree, ProofValue, split, duals, weights, claim_value, tree_over as proof_tree_over}
use Rattle.certificates.specs.ProofSays.{IsProvedTrueOf}
use Rattle.certificates.specs.Told.{told_claim}
use Rattle.certificates.specs.declared.certificate.Claim.{Claim}
use Rattle.certificates.specs.declared.certificate.Claim.TheVariants.{Optimal, Within, Bound, Feasible, Infeasible, Unbounded}
use Rattle.certificates.specs.declared.proof.Claim.{Claim as ProofClaim}
use Rattle.certificates.specs.declared.proof.Claim.TheVariants.{Value, Infeasible as NoPoint}
use Rattle.certificates.proofs.Given.{is_certificate}

-- ---- certificates
claim_by : (p : Problem) (n m : ℕ) (claim : Claim) (g : Given) (tree : Option CertificateTree) → g.tree ≡ tree
    → IsAskedFor claim g → (o : Option ℚ) → IsShown p (certificate_over n m claim (record g { tree = tree })) o
    → IsToldTrue p (spread n g.point) (told_claim claim o)
claim_by p n m (Optimal k) g None e asked o h = absurd (subst HasTree e asked.1)
claim_by p n m (Optimal k) g (Some tree) e asked o h = h
claim_by p n m (Within k b) g None e asked o h = absurd (subst HasTree e asked.1)
claim_by p n m (Within k b) g (Some tree) e asked o h = h
claim_by p n m (Bound k v) g None e asked o h = absurd (subst HasTree e asked.2)
claim_by p n m (Bound k v) g (Some tree) e asked None h = let e = h.is_told in absurd (cc)
claim_by p n m (Bound k v) g (Some tree) e asked (Some w) h = record { told = told_bound w; is_told = refl; true_of = subst (IsTrueOf p []) (sym (same_Some _ h.told h.is_told)) h.true_of }
claim_by p n m (Feasible k) g tree e asked o h = h
claim_by p n m Infeasible g None e asked o h = absurd (subst HasWeights e asked.2)
claim_by p n m Infeasible g (Some tree) e asked None h = record { told = told_infeasible; is_told = refl; true_of = subst (IsTrueOf p []) (sym (same_Some _ h.told h.is_told)) h.true_of }
claim_by p n m Infeasible g (Some tree) e asked (Some v) h = let e = h.is_told in absurd (cc)
claim_by p n m (Unbounded k) g tree e asked o h = h

module _ (f : Linear) (p : Problem) (means : Means f p) where
  abbrev IsOver : Given → Type 0
  IsOver g = IsGivenOver (IsWholeVariable f) (variable_count f) (row_count f) g

  says : (claim : Claim) (g : Given) → IsAskedFor claim g → IsOver g → (o : ClaimOutcome) → claim_outcome f claim g ≡ o → OutcomeSays p f (certificate_over (variable_count f) (row_count f) claim g) o
  says claim g asked fine o e =
      subst (OutcomeSays p f (certificate_over (variable_count f) (row_count f) claim g)) e
      (outcomes f p means (certificate_over (variable_count f) (row_count f) claim g)
      (is_certificate f claim g asked fine))

  -- of what is given for a claim
  pub given_true : (claim : Claim) (g : Given) → IsAskedFor claim g → IsOver g → (o : Option ℚ)
      → claim_outcome f claim g ≡ holds o → IsToldTrue p (spread (variable_count f) g.point) (told_claim claim o)
  given_true claim g asked fine o e = claim_by p (variable_count f) (row_count f) claim g g.tree refl asked o (says claim g asked fine (holds o) e)

  pub given_denied : (claim : Claim) (g : Given) → IsAskedFor claim g → IsOver g → (cause : Cause)
      → claim_outcome f claim g ≡ fails cause → Denies p f (certificate_over (variable_count f) (row_count f) claim g)
      cause
  given_denied claim g asked fine cause e = says claim g asked fine (fails cause) e

  -- of a certificate
  pub told_true : (c : CertificateValue) (h : IsCertificateOf f c) (o : Option ℚ)
      → claim_outcome f c.claim h.given ≡ holds o → IsToldTrue p (spread (variable_count f) h.given.point)
      (told_claim c.claim o)
  told_true c h = given_true c.claim h.given h.asked h.fine

  pub told_denied : (c : CertificateValue) (h : IsCertificateOf f c) (cause : Cause)
      → claim_outcome f c.claim h.given ≡ fails cause → Denies p f
      (certificate_over (variable_count f) (row_count f) c.claim h.given) cause
  told_denied c h = given_denied c.claim h.given h.asked h.fine

  -- ---- proofs by branches
  splits_whole : (m : ℕ) (tree : ProofTree) → IsTreeOf f tree → AreSplitsWhole f (proof_tree_over m tree)
  unfolding IsTreeOf AreSplitsWhole proof_tree_over
  splits_whole m (split j t low high) h = ((h.0, h.1), splits_whole m low h.2, splits_whole m high h.3)
  splits_whole m (duals ps) h = tt
  splits_whole m (weights ps) h = tt

  proved_by : (claim : ProofClaim) (m : ℕ) (tree : ProofTree) → IsTreeOf f tree → IsAlone claim tree → proof_fault f (claim_value claim) (proof_tree_over m tree) ≡ None → IsProvedTrueOf p claim
  unfolding proof_tree_over
  proved_by (Value k d) m tree fine alone closed = bounds f p means (dec_value d) (proof_tree_over m tree) (splits_whole m tree fine) closed
  proved_by NoPoint m (split j t low high) fine alone closed = absurd alone
  proved_by NoPoint m (duals ps) fine alone closed = absurd alone
  proved_by NoPoint m (weights ps) fine alone closed = none_relaxed f p means _ _ closed

  pub proved_true : (q : ProofValue) (h : IsProofOf f q) → proof_fault f (claim_value q.claim) (proof_tree_over (row_count f) h.tree) ≡ None → IsProvedTrueOf p q.claim
  proved_true q h closed = proved_by q.claim (row_count f) h.tree h.fine h.alone closed
