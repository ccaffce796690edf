-- The grammar of proof texts: which have no fault, what they say, and what is the first fault of
-- the others.
use Rattle.std.specs.Prelude.{ℕ, List}
use Rattle.text_base.specs.Judged.{Rules, first_reason}
use Rattle.text_base.specs.declared.lines.LineFault.{LineFault}
use Rattle.text_base.specs.declared.lines.LineFault.TheVariants.{LineTooLong as LongLine, InputTooLong as LongInput}
use Rattle.certificates.specs.Proofs.{ProofValue}
use Rattle.branch_proof.specs.declared.fault.ProofReason.{ProofReason}
use Rattle.branch_proof.specs.declared.fault.ProofReason.TheVariants.{LineTooLong, InputTooLong}
use Rattle.certificates.specs.Setting.{Setting}
use Rattle.certificate_text.specs.TextRows.{rows_in}
use Rattle.branch_proof.specs.Standing.{IsSaid, proof_standing}
use Rattle.branch_proof.specs.Tests.{proof_end_tests, proof_line_tests}

abbrev pub proof_reason_of : LineFault → ProofReason
proof_reason_of LongLine = LineTooLong
proof_reason_of LongInput = InputTooLong

abbrev pub proof_rules : Setting → Rules ProofReason
proof_rules s = record {
  at_line = λ before line. first_reason (proof_line_tests s (proof_standing (rows_in before)) line);
  at_fault = λ before fault. proof_reason_of fault;
  at_end = λ lines. first_reason (proof_end_tests (proof_standing (rows_in lines)));
}

-- these lines say this
abbrev pub SaysProof : List (List ℕ) → ProofValue → Type 0
SaysProof lines p = IsSaid (proof_standing (rows_in lines)) p
