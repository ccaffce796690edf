-- What a yes on a proof shows of the linear program of a file, it shows of the file.
use Rattle.std.proofs.Common.{◌≡◌, ℕ, None}
use Rattle.exact_numbers.specs.Values.{dec_value}
use Rattle.nl_model.specs.File.{File}
use Rattle.nl_model.specs.Rules.{IsFile}
use Rattle.nl_model.specs.FoldFaults.{fold_fault}
use Rattle.nl_model.specs.LinearFile.{linear_of}
use Rattle.certificates.specs.declared.proof.Claim.{Claim}
use Rattle.certificates.specs.declared.proof.Claim.TheVariants.{Value, Infeasible}
use Rattle.certificates.specs.ProofSays.{IsProvedTrueOf}
use Rattle.problems.specs.FileProblem.{problem_of}
use Rattle.problems.proofs.Verdicts.{file_bound_of, file_broken_at}
use Rattle.branch_proof.specs.Leaves.{IsProved}
use Rattle.branch_proof.specs.declared.verdict.ProofVerdict.TheVariants.{Yes}

pub claim_true : (f : File) (k : ℕ) → IsFile f → fold_fault f k ≡ None → (claim : Claim) → IsProved (linear_of f k) claim Yes → IsProvedTrueOf (problem_of f k) claim
claim_true f k file clean (Value n d) proved = file_bound_of f k file clean (dec_value d) proved
claim_true f k file clean Infeasible proved = file_broken_at f k file clean proved
