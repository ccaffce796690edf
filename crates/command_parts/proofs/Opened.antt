-- What an opened file says, in a format's own words, and what is known of that.
use Rattle.std.proofs.Common.{◌≡◌, ◌∙◌, ℕ, List, Result, Ok, Err, refl, ap₂}
use Rattle.std.specs.Prelude.{IfOk, MatchResult}
use Rattle.text_base.specs.Desk.{Meaning}
use Rattle.text_base.specs.Reading.{IsRead}
use Rattle.nl_segments.specs.Grammar.{SaysFile, nl_rules}
use Rattle.nl_segments.specs.Reader.{HasLines, IsNl, fault_of, value_of}
use Rattle.nl_segments.specs.declared.nl_read.NlRead.{NlRead}
use Rattle.nl_segments.proofs.CleanTexts.{has_lines}
use Rattle.sol_files.specs.Grammar.{sol_rules}
use Rattle.sol_files.specs.Told.{told}
use Rattle.nl_model.specs.declared.header_counts.Counts.{Counts}
use Rattle.nl_model.specs.File.{File}
use Rattle.nl_model.specs.Kinds.{kinds_in}
use Rattle.linear_program.specs.declared.kind.Kind.{Kind}
use Rattle.problems.specs.NlSetting.{setting_of}
use Rattle.certificates.specs.Certificates.{CertificateValue}
use Rattle.certificates.specs.Setting.{IsCertificateFor, Setting}
use Rattle.certificate_text.specs.Reader.{IsCertificateText}
use Rattle.certificate_text.proofs.Files.{certificate_from}
use Rattle.command_parts.specs.NlTold.{nl_line}
use Rattle.command_parts.specs.Refusal.{HasTextRefusal, IsSolRefused}
use Rattle.command_parts.specs.SolTold.{sol_line}
use Rattle.command_core.specs.SeveralFiles.{HasEnded, HasSaid, IsRefusedBy, ReadsFile, itself}
use Rattle.command_core.specs.declared.answer.Answer.{Answer}
use Rattle.command_core.specs.declared.answer.Answer.TheVariants.{InputFault, NoMemory, Refused}

-- what is known of each value that a text says is known of what was read
pub known_of : {R V : Type 0} (seen : R → V) (reads : List ℕ → V → Type 0) (refuses : List ℕ → List ℕ → Type 0) (P : R → Type 0) → ((text : List ℕ) (r : R) → reads text (seen r) → P r)
    → (file : List ℕ) (old new : Meaning) (result : Result R Answer) → ReadsFile seen reads refuses file old new result → IfOk result P
known_of seen reads refuses P is file old new (Ok r) read = is read.judged.bytes r read.judged.says
known_of seen reads refuses P is file old new (Err answer) read = tt

-- a text that was read by a grammar is what the format's words say
module _ {R V : Type 0} (seen : R → V) (reads : List ℕ → R → Type 0) (says : List ℕ → V → Type 0) (refuses tells : List ℕ → List ℕ → Type 0)
    (value : (text : List ℕ) (r : R) → reads text r → says text (seen r)) (line : (text line : List ℕ) → refuses text line → tells text line)
    (file : List ℕ) (old new : Meaning) where
  ended_as : (answer : Answer) → HasEnded refuses file old new answer → HasEnded tells file old new answer
  ended_as (Refused refusal) h = record { bytes = h.bytes; read = h.read; says = line h.bytes refusal.line h.says; same = h.same }
  ended_as InputFault h = h
  ended_as NoMemory h = h
  ended_as other h = absurd h

  judged_as : (result : Result R Answer) → MatchResult result (λ r. HasSaid reads file old new r) (λ answer. HasEnded refuses file old new answer)
      → MatchResult result (λ r. HasSaid says file old new (seen r)) (λ answer. HasEnded tells file old new answer)
  judged_as (Ok r) h = record { bytes = h.bytes; read = h.read; says = value h.bytes r h.says; same = h.same }
  judged_as (Err answer) h = ended_as answer h

  pub read_as : (result : Result R Answer) → ReadsFile itself reads refuses file old new result → ReadsFile seen says tells file old new result
  read_as result h = record { rest = h.rest; later = h.later; judged = judged_as result h.judged }

-- ---- .nl and .sol texts

pub nl_said : (text : List ℕ) (r : NlRead) → IsRead nl_rules (λ lines r. SaysFile lines (value_of r)) text r → IsNl text (value_of r)
nl_said text r h = record { clean = h.clean; said = h.said }

pub nl_refused : (text line : List ℕ) → IsRefusedBy nl_rules (λ fault. nl_line (fault_of fault)) text line → HasTextRefusal text line
nl_refused text line h = record { fault = fault_of h.fault; first = record { first = h.first; opcode = refl }; told = h.told }

-- each place of a file has its line
pub nl_lines : (text : List ℕ) (r : NlRead) → IsNl text (value_of r) → HasLines r
nl_lines text r h = has_lines text r (record { clean = h.clean; said = h.said })

pub sol_refused : (number : ℕ) (text line : List ℕ) → IsRefusedBy sol_rules (λ found. sol_line number (told found)) text line → IsSolRefused number text line
sol_refused number text line h = record { fault = told h.fault; first = (h.fault, h.first, refl); told = h.told }

-- ---- proofs and certificates

pub certificate_known : (s : Setting) (text : List ℕ) (c : CertificateValue) → IsCertificateText s text c → IsCertificateFor s c
certificate_known s text c h = certificate_from s text s refl (Ok c) h

-- what a proof of a file is judged by
pub setting_in : (f : File) (counts : Counts) (kinds : List Kind) (s : Setting) → counts ≡ f.counts → kinds ≡ kinds_in f → s ≡ record { rows = counts.n_con; kinds = kinds } → s ≡ setting_of f
setting_in f counts kinds s e k same =
    let by : Counts → List Kind → Setting = λ cs ks. record { rows = cs.n_con; kinds = ks } in
    same ∙ ap₂ by e k
