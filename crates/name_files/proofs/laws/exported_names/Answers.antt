use Rattle.name_files.proofs.ExportedNames.{plain_names, tied_names}
use Rattle.name_files.proofs.laws.exported_names.Goals as goal

pub returns-clause-plain : goal.returns-clause-plain
returns-clause-plain c = λ f factor is. plain_names f factor is

pub returns-clause-tied : goal.returns-clause-tied
returns-clause-tied c = λ f factor g is. tied_names f factor is g
