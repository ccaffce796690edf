use Rattle.mps_program.specs.Program.{linear_of, values_of}
use Rattle.certificates.proofs.Settings.{certificate_for}
use Rattle.problems.specs.MpsSetting.{mps_setting}
use Rattle.problems.proofs.MpsSettings.{program_setting}
use Rattle.problems.proofs.mps_laws.certificates_are_of_programs.Goals as goal

pub returns-clause-setting : goal.returns-clause-setting
returns-clause-setting c = program_setting

pub returns-clause-certificate : goal.returns-clause-certificate
returns-clause-certificate c m = certificate_for (linear_of (values_of m)) (mps_setting m) (program_setting m)
