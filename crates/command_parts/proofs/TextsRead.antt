-- Each text that a command reads says one value, or is refused with one line.
use Rattle.std.proofs.Common.{◌≡◌, inl, inr, ◌⊎◌, ℕ, List, refl, sym, ap, ◌∙◌, ap₂}
use Rattle.std.specs.Prelude.{map}
use Rattle.nl_segments.specs.Grammar.{NlValue, nl_rules, standing, said, counts_of}
use Rattle.command_parts.specs.NlTold.{nl_line}
use Rattle.text_base.specs.Judged.{HasOneOutcome, IsClean}
use Rattle.text_base.specs.Reading.{lines_of, last_of}
use Rattle.text_base.proofs.JudgedLemmas.{one_outcome}
use Rattle.nl_lines.specs.Saying.{place_lines}
use Rattle.nl_model.specs.Draft.{file_of}
use Rattle.nl_segments.specs.Reader.{IsNl, HasNlFault, fault_of}
use Rattle.nl_lines.specs.declared.fault.NlFault.{NlFault}
use Rattle.command_parts.specs.Refusal.{HasTextRefusal, IsFixedRefused, IsMpsRefused, IsSolRefused, IsAnswerRefused, IsProofRefused, IsCertificateRefused}
use Rattle.command_core.proofs.SeveralFiles.{AreRead, read_so, read_by}
use Rattle.mps_reader.specs.Grammar.{SaysMps, mps_rules, standing as mps_standing}
use Rattle.mps_reader.specs.Reader.{IsMpsText}
use Rattle.fixed_mps.specs.Fields.{free}
use Rattle.fixed_mps.specs.Grammar.{SaysFixed, fixed_rules}
use Rattle.fixed_mps.specs.Reader.{IsFixedText}
use Rattle.mps_reader.specs.Reasons.{mps_reason_text}
use Rattle.command_core.specs.Told.{fault_line}
use Rattle.sol_files.specs.Reader.{HasSolFault, IsSol}
use Rattle.sol_files.proofs.ReadingLemmas.{one_reading}
use Rattle.command_parts.specs.SolTold.{sol_line}
use Rattle.answer_file.specs.Grammar.{SaysAnswer, answer_of, answer_rules, standing as answer_standing}
use Rattle.answer_file.specs.Names.{Setting}
use Rattle.answer_file.specs.Reading.{IsAnswer}
use Rattle.answer_file.specs.Reasons.{answer_reason_text}
use Rattle.branch_proof.specs.Reader.{HasProofFault, IsProofText}
use Rattle.certificates.specs.Setting.{Setting as CertificateSetting}
use Rattle.branch_proof.proofs.ReadingLemmas.{one_reading as one_proof}
use Rattle.branch_proof.specs.Reasons.{proof_reason_text}
use Rattle.certificate_text.specs.Reader.{HasCertificateFault, IsCertificateText}
use Rattle.certificate_text.proofs.ReadingLemmas.{one_reading as one_certificate}
use Rattle.certificate_text.specs.Reasons.{certificate_reason_text}

-- ---- .nl texts

outcome_of_text : (text : List ℕ) → HasOneOutcome nl_rules (lines_of text) (last_of text)
outcome_of_text text = one_outcome nl_rules (lines_of text) (last_of text)

not_both : (text : List ℕ) (value : NlValue) (fault : NlFault) → IsNl text value → HasNlFault text fault → ⊥
not_both text value fault h k = (outcome_of_text text).not_both h.clean fault.line _ k.first

pub same_file : (text : List ℕ) (a b : NlValue) → IsNl text a → IsNl text b → a.file ≡ b.file
same_file text a b h k = h.said.file ∙ sym k.said.file

same_places : (text : List ℕ) (a b : NlValue) → IsNl text a → IsNl text b → a.places ≡ b.places
same_places text a b h k = h.said.places ∙ sym k.said.places

-- the file and the places are the value
one_value : (text : List ℕ) (a b : NlValue) → IsNl text a → IsNl text b → a ≡ b
one_value text a b h k = ap₂ (λ f p. record { file = f; places = p }) (same_file text a b h k) (same_places text a b h k)

same_nl_line : (text : List ℕ) (a b : NlFault) → HasNlFault text a → HasNlFault text b → nl_line a ≡ nl_line b
same_nl_line text a b h k =
    let same = (outcome_of_text text).one_fault a.line b.line a.reason b.reason h.first k.first in
    ap₂ (λ line reason. nl_line (record { reason = reason; line = line; opcode = 0 })) same.0 same.1

value_of_text : List ℕ → NlValue
value_of_text text = record { file = file_of (said (standing (lines_of text))); places = place_lines (counts_of (standing (lines_of text))) (standing (lines_of text)).pieces }

clean_text : (text : List ℕ) → IsClean nl_rules (lines_of text) (last_of text) → IsNl text (value_of_text text)
unfolding value_of_text
clean_text text clean = record { clean = clean; said = record { file = refl; places = refl } }

either_nl : (text : List ℕ) → ((value : NlValue) × IsNl text value) ⊎ ((fault : NlFault) × HasNlFault text fault)
either_nl text = elim (outcome_of_text text).some [
  | inl clean ↦ inl (value_of_text text, clean_text text clean)
  | inr found ↦ inr (fault_of (record { reason = found.1; line = found.0 }), record { first = found.2; opcode = refl })
]

-- each text says one file with its places, or is refused with one line
pub nl_read : AreRead IsNl HasTextRefusal
nl_read = read_so IsNl HasNlFault nl_line one_value same_nl_line either_nl not_both

-- ---- MPS and .sol texts

pub mps_read : AreRead IsMpsText IsMpsRefused
mps_read = read_by mps_rules SaysMps (fault_line mps_reason_text 1) (λ lines. (mps_standing lines).draft.mps) (λ lines m h. h) (λ lines. refl)

pub fixed_read : AreRead IsFixedText IsFixedRefused
fixed_read = read_by fixed_rules SaysFixed (fault_line mps_reason_text 1) (λ lines. (mps_standing (map free lines)).draft.mps) (λ lines m h. h) (λ lines. refl)

-- each text says one value, or is refused with one line
pub sol_read : (file : ℕ) → AreRead IsSol (IsSolRefused file)
sol_read file =
    read_so IsSol HasSolFault (sol_line file)
    (λ text. (one_reading text).one_value) (λ text a b h k. ap (sol_line file) ((one_reading text).one_fault a b h k)) (λ text. (one_reading text).some) (λ text. (one_reading text).not_both)

-- ---- answers

pub answer_read : (s : Setting) → AreRead (IsAnswer s) (IsAnswerRefused s)
answer_read s = read_by (answer_rules s) (SaysAnswer s) (fault_line answer_reason_text 2) (λ lines. answer_of (answer_standing s lines)) (λ lines a h. h) (λ lines. refl)

-- ---- proofs and certificates

-- each text says one proof, or is refused with one line
pub proof_read : (s : CertificateSetting) (file : ℕ) → AreRead (IsProofText s) (IsProofRefused s file)
proof_read s file =
    read_so (IsProofText s) (HasProofFault s) (fault_line proof_reason_text file)
    (λ text. (one_proof s text).one_value) (λ text a b h claimed. ap (fault_line proof_reason_text file)
    ((one_proof s text).one_fault a b h claimed)) (λ text. (one_proof s text).some)
    (λ text. (one_proof s text).not_both)

-- each text says one certificate, or is refused with one line
pub certificate_read : (s : CertificateSetting) (file : ℕ) → AreRead (IsCertificateText s) (IsCertificateRefused s file)
certificate_read s file =
    read_so (IsCertificateText s) (HasCertificateFault s) (fault_line certificate_reason_text file)
    (λ text. (one_certificate s text).one_value) (λ text a b h k. ap (fault_line certificate_reason_text file)
    ((one_certificate s text).one_fault a b h k)) (λ text. (one_certificate s text).some)
    (λ text. (one_certificate s text).not_both)
