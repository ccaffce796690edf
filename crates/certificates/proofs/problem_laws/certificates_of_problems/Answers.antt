use Rattle.certificates.proofs.Problems.{certificates}
use Rattle.certificates.proofs.problem_laws.certificates_of_problems.Goals as goal

pub returns : goal.returns
returns c = certificates
