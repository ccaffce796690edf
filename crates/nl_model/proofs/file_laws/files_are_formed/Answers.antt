use Rattle.nl_model.proofs.Formed.{file_formed}
use Rattle.nl_model.proofs.file_laws.files_are_formed.Goals as goal

pub returns : goal.returns
returns c = file_formed
