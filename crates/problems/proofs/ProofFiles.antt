-- A proof of a file is one of its linear program.
use Rattle.std.proofs.Common.{ℕ}
use Rattle.nl_model.specs.File.{File}
use Rattle.nl_model.specs.LinearFile.{linear_of}
use Rattle.problems.specs.Files.{IsProofIn}
use Rattle.problems.specs.NlSetting.{setting_of}
use Rattle.problems.proofs.NlSettings.{file_setting}
use Rattle.certificates.proofs.Settings.{proof_for}
use Rattle.certificates.specs.Proofs.{IsProofOf, ProofValue}

pub proof_of : (f : File) (k : ℕ) (p : ProofValue) → IsProofIn f p → IsProofOf (linear_of f k) p
proof_of f k = proof_for (linear_of f k) (setting_of f) (file_setting f k)
