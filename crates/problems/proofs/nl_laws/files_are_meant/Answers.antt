use Rattle.problems.proofs.Files.{meant}
use Rattle.problems.proofs.nl_laws.files_are_meant.Goals as goal

pub returns : goal.returns
returns c = meant
