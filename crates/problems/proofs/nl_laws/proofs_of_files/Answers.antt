use Rattle.problems.proofs.Verdicts.{file_proofs}
use Rattle.problems.proofs.nl_laws.proofs_of_files.Goals as goal

pub returns : goal.returns
returns c = file_proofs
