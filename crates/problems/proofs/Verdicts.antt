-- What verdicts on the linear program of a file say of the file: what they say of the problem that it states.
use Rattle.std.proofs.Common.{◌≡◌, ℕ, List, None, Some}
use Rattle.exact_numbers.specs.Rational.{ℚ}
use Rattle.linear_program.specs.Linear.{IsRelaxed as IsRelaxedProgram}
use Rattle.certificates.specs.Branch.{BranchTree, LeafFault, duals, open_gap, weights, AreSplitsWhole, proof_fault}
use Rattle.certificates.specs.Certificate.{Certificate, IsCertificate, outcome}
use Rattle.certificates.specs.LeafSays.{IsLeafDenied}
use Rattle.certificates.specs.Problem.{IsBestRelaxed, IsBound, IsBroken, IsReached, IsRelaxed}
use Rattle.certificates.specs.ProblemSays.{OutcomeSays, VerdictSays}
use Rattle.certificates.specs.Solutions.{IsBound as IsBoundProgram}
use Rattle.certificates.specs.Verdict.{verdict, yes}
use Rattle.certificates.proofs.Problems.{bound_of, bounds, broken_at, certificates, leaf_at, lone_leaf, none_relaxed, outcomes, verdicts}
use Rattle.nl_model.specs.File.{File}
use Rattle.nl_model.specs.Rules.{IsFile}
use Rattle.nl_model.specs.FoldFaults.{fold_fault}
use Rattle.nl_model.specs.LinearFile.{linear_of}
use Rattle.problems.specs.FileProblem.{problem_of}
use Rattle.problems.proofs.Files.{meant}

module _ (f : File) (k : ℕ) (file : IsFile f) (clean : fold_fault f k ≡ None) where
  -- what holds of its linear program
  pub file_bound_of : (v : ℚ) → IsBoundProgram (linear_of f k) v → IsBound (problem_of f k) v
  file_bound_of = bound_of (linear_of f k) (problem_of f k) (meant f k file clean)

  pub file_broken_at : ((xs : List ℚ) → ¬ IsRelaxedProgram (linear_of f k) xs) → (xs : List ℚ) → IsBroken (problem_of f k) xs
  file_broken_at = broken_at (linear_of f k) (problem_of f k) (meant f k file clean)

  -- verdicts
  pub file_verdicts : (xs ys : List ℚ) → VerdictSays (problem_of f k) xs (verdict (linear_of f k) xs ys)
  file_verdicts = verdicts (linear_of f k) (problem_of f k) (meant f k file clean)

  pub file_certificates : (xs ys : List ℚ) (v : ℚ) → verdict (linear_of f k) xs ys ≡ yes v → IsBestRelaxed (problem_of f k) xs v
  file_certificates = certificates (linear_of f k) (problem_of f k) (meant f k file clean)

  pub file_outcomes : (c : Certificate) → IsCertificate (linear_of f k) c → OutcomeSays (problem_of f k) (linear_of f k) c (outcome (linear_of f k) c)
  file_outcomes = outcomes (linear_of f k) (problem_of f k) (meant f k file clean)

  pub file_proofs : (v : ℚ) (tree : BranchTree) → AreSplitsWhole (linear_of f k) tree → proof_fault (linear_of f k) v tree ≡ None → IsBound (problem_of f k) v
  file_proofs = bounds (linear_of f k) (problem_of f k) (meant f k file clean)

  pub file_broken : (v : ℚ) (ys : List ℚ) → proof_fault (linear_of f k) v (weights ys) ≡ None → (xs : List ℚ) → IsBroken (problem_of f k) xs
  file_broken = none_relaxed (linear_of f k) (problem_of f k) (meant f k file clean)

  pub file_leaf : (v : ℚ) (tree : BranchTree) (g : LeafFault) → proof_fault (linear_of f k) v tree ≡ Some g → IsLeafDenied (problem_of f k) (linear_of f k) tree g
  file_leaf v tree g e = leaf_at (linear_of f k) (problem_of f k) (meant f k file clean) tree g (v, e)

  pub file_gaps : (ys : List ℚ) (n : ℕ) (b : ℚ) → IsLeafDenied (problem_of f k) (linear_of f k) (duals ys)
      (open_gap n b) → (xs : List ℚ) → IsRelaxed (problem_of f k) xs → IsReached (problem_of f k) b xs
  file_gaps = lone_leaf (linear_of f k) (problem_of f k) (meant f k file clean)
