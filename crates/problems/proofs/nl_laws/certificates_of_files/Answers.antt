use Rattle.problems.proofs.Verdicts.{file_certificates}
use Rattle.problems.proofs.nl_laws.certificates_of_files.Goals as goal

pub returns : goal.returns
returns c = file_certificates
