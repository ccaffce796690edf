use Rattle.problems.proofs.Given.{certificate_of}
use Rattle.problems.proofs.nl_laws.certificates_are_of_programs.Goals as goal

pub returns : goal.returns
returns c = certificate_of
