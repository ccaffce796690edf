use Rattle.certificates.proofs.Meant.{meant}
use Rattle.certificates.proofs.problem_laws.programs_are_meant.Goals as goal

pub returns : goal.returns
returns c = meant
