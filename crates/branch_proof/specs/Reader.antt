-- What reading a proof answers, and what a reader of one stands for.
use Rattle.std.specs.Prelude.{◌≡◌, ℕ, List, Option, Result}
use Rattle.text_base.specs.declared.stop.Stop.{Stop}
use Rattle.text_base.specs.declared.fault.TextFault.{TextFault}
use Rattle.text_base.specs.Lines.{LinesState}
use Rattle.text_base.specs.Reading.{Stands, Reads, IsRead, HasFault}
use Rattle.certificates.specs.Proofs.{ProofValue}
use Rattle.branch_proof.specs.declared.fault.ProofReason.{ProofReason}
use Rattle.certificates.specs.Setting.{Setting}
use Rattle.certificate_text.specs.TextRows.{rows_in}
use Rattle.branch_proof.specs.Standing.{proof_standing}
use Rattle.branch_proof.specs.Steps.{ReadSoFar}
use Rattle.branch_proof.specs.Grammar.{SaysProof, proof_rules}

-- ---- texts

-- the text has no fault as a proof, and says this
abbrev pub IsProofText : Setting → List ℕ → ProofValue → Type 0
IsProofText s text p = IsRead (proof_rules s) SaysProof text p

-- the text's first fault
abbrev pub HasProofFault : Setting → List ℕ → TextFault ProofReason → Type 0
HasProofFault s text fault = HasFault (proof_rules s) text fault

-- the text is a proof, which says this, or has this first fault
abbrev pub ReadsProof : Setting → List ℕ → Result ProofValue (Stop (TextFault ProofReason)) → Type 0
ReadsProof s text result = Reads (proof_rules s) SaysProof text result

-- ---- readers

-- what was read, the lines of the bytes so far, and why it stopped
pub record Reading : Type 0 where
  pub read : ReadSoFar
  pub lines : LinesState
  pub stopped : Option (Stop (TextFault ProofReason))

-- the reader was made for this setting, and was fed this text
pub record IsFed (s : Setting) (r : Reading) (text : List ℕ) : Type 0 where
  pub same : r.read.setting ≡ s
  pub stands : Stands r.stopped (proof_rules r.read.setting)
      (λ lines. r.read.standing ≡ proof_standing (rows_in lines)) r.lines text
