use Rattle.certificates.proofs.Settings.{certificate_for, proof_for, program_has_setting}
use Rattle.certificates.proofs.laws.settings_are_of_programs.Goals as goal

pub returns-clause-certificates : goal.returns-clause-certificates
returns-clause-certificates c = certificate_for

pub returns-clause-proofs : goal.returns-clause-proofs
returns-clause-proofs c = proof_for

pub returns-clause-settings : goal.returns-clause-settings
returns-clause-settings c = program_has_setting
