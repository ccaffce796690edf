-- Why a text is refused: its first fault, and the line that tells it.
use Rattle.std.specs.Prelude.{ℕ, List}
use Rattle.text_base.specs.Reading.{HasFault}
use Rattle.answer_file.specs.Grammar.{answer_rules}
use Rattle.answer_file.specs.Names.{Setting as AnswerSetting}
use Rattle.certificate_text.specs.Reader.{HasCertificateFault}
use Rattle.certificates.specs.Setting.{Setting}
use Rattle.fixed_mps.specs.Reader.{HasFixedFault}
use Rattle.mps_reader.specs.Reader.{HasMpsFault}
use Rattle.nl_segments.specs.Reader.{HasNlFault}
use Rattle.branch_proof.specs.Reader.{HasProofFault}
use Rattle.sol_files.specs.Reader.{HasSolFault}
use Rattle.answer_file.specs.Reasons.{answer_reason_text}
use Rattle.command_core.specs.Told.{fault_line}
use Rattle.certificate_text.specs.Reasons.{certificate_reason_text}
use Rattle.mps_reader.specs.Reasons.{mps_reason_text}
use Rattle.command_parts.specs.NlTold.{nl_line}
use Rattle.branch_proof.specs.Reasons.{proof_reason_text}
use Rattle.command_parts.specs.SolTold.{sol_line}
use Rattle.command_core.specs.Told.{TellsFault}

-- the text is no .nl text, and this line tells its first fault
abbrev pub HasTextRefusal : List ℕ → List ℕ → Type 0
HasTextRefusal text = TellsFault (HasNlFault text) nl_line

-- the text has a first fault as an MPS text, which this line tells
abbrev pub IsMpsRefused : List ℕ → List ℕ → Type 0
IsMpsRefused text = TellsFault (HasMpsFault text) (fault_line mps_reason_text 1)

-- the same as an MPS text of fixed columns
abbrev pub IsFixedRefused : List ℕ → List ℕ → Type 0
IsFixedRefused text = TellsFault (HasFixedFault text) (fault_line mps_reason_text 1)

-- the text, which is this file of its command, has a first fault as a .sol text, which this line
-- tells
abbrev pub IsSolRefused : (file : ℕ) → List ℕ → List ℕ → Type 0
IsSolRefused file text = TellsFault (HasSolFault text) (sol_line file)

-- the same as an answer, which is the second file of its command
abbrev pub IsAnswerRefused : AnswerSetting → List ℕ → List ℕ → Type 0
IsAnswerRefused s text =
    TellsFault (HasFault (answer_rules s) text) (fault_line answer_reason_text 2)

-- the same as a proof, which is this file of its command
abbrev pub IsProofRefused : Setting → (file : ℕ) → List ℕ → List ℕ → Type 0
IsProofRefused s file text = TellsFault (HasProofFault s text) (fault_line proof_reason_text file)

-- the same as a certificate
abbrev pub IsCertificateRefused : Setting → (file : ℕ) → List ℕ → List ℕ → Type 0
IsCertificateRefused s file text =
    TellsFault (HasCertificateFault s text) (fault_line certificate_reason_text file)
