-- The commands verify, verify_mps and verify_fixed: what a certificate shows of an .nl text, or of
-- an MPS text in free form or in fixed columns.
use Rattle.std.specs.Prelude.{◌≡◌, ◌⊎◌, ℕ, ◌+◌, ◌≤◌, nat_lt, if◌then◌else◌, true, List, codes, option_map}
use Rattle.std.specs.declared.option.Option.{Option}
use Rattle.std.specs.declared.option.Option.TheVariants.{None, Some}
use Rattle.linear_program.specs.Linear.{Linear}
use Rattle.certificates.specs.Certificate.{ClaimOutcome}
use Rattle.certificates.specs.Problem.{Problem}
use Rattle.text_base.specs.Desk.{Texts}
use Rattle.text_base.specs.Reading.{lines_of}
use Rattle.exact_numbers.specs.declared.dec.Dec.{Dec}
use Rattle.nl_model.specs.LinearFile.{linear_of}
use Rattle.linear_fold.specs.FoldedFaults.{first_fold_fault}
use Rattle.nl_model.specs.Draft.{file_of}
use Rattle.nl_segments.specs.Grammar.{NlValue, said, standing}
use Rattle.nl_segments.specs.Reader.{IsNl}
use Rattle.mps_model.specs.Mps.{Mps}
use Rattle.mps_reader.specs.Grammar.{SaysMps}
use Rattle.mps_reader.specs.Reader.{IsMpsText}
use Rattle.fixed_mps.specs.Grammar.{SaysFixed}
use Rattle.fixed_mps.specs.Reader.{IsFixedText}
use Rattle.mps_program.specs.Faults.{mps_fault}
use Rattle.mps_program.specs.Program.{linear_of as mps_linear_of, values_of}
use Rattle.certificates.specs.Certificates.{CertificateValue, Given, claim_outcome, claim_objective}
use Rattle.certificates.specs.Reading.{given_in}
use Rattle.certificates.specs.Setting.{Setting}
use Rattle.certificates.specs.declared.certificate.Claim.{Claim}
use Rattle.certificate_text.specs.Reader.{IsCertificateText}
use Rattle.certificate_text.specs.Written.{AreRowsOf, written_pieces}
use Rattle.certificate_text.specs.TextRows.{rows_in}
use Rattle.problems.specs.FileProblem.{problem_of}
use Rattle.problems.specs.NlSetting.{setting_of}
use Rattle.problems.specs.Problem.{mps_problem}
use Rattle.problems.specs.MpsSetting.{mps_setting}
use Rattle.command_parts.specs.CertificateTold.{is_held, outcome_line}
use Rattle.command_parts.specs.ImportTold.{import_line}
use Rattle.command_parts.specs.NlTold.{fold_line}
use Rattle.command_core.specs.Outcome.{Outcome, Refused, Done}
use Rattle.command_core.specs.Promise.{Promise}
use Rattle.command_parts.specs.Refusal.{HasTextRefusal, IsFixedRefused, IsMpsRefused, IsCertificateRefused}
use Rattle.command_core.specs.SeveralFiles.{IsTextOf, after_file, desk_promise, judges_last, saying}
use Rattle.command_parts.specs.Stages.{fold_steps}
use Rattle.command_core.specs.Told.{TellsFault, refusal}
use Rattle.bridge_tool.specs.Claims.{IsClaimDenied, IsClaimTrue}
use Rattle.bridge_tool.specs.declared.verify.ProblemText.{ProblemText}
use Rattle.bridge_tool.specs.declared.verify.ProblemText.TheVariants.{Nl, Mps as MpsIn}
use Rattle.bridge_tool.specs.declared.verify_mps.Layout.{Layout}
use Rattle.bridge_tool.specs.declared.verify_mps.Layout.TheVariants.{Free, Fixed}

-- ---- rows

-- What a command reads first, why it refuses a text, and what a certificate is then judged by. By
-- the number of the objective: which problem lines state, which problem and which linear program a
-- value is, the line that tells why it has none, and the steps before and after.
pub record ClaimRow : Type 1 where
  pub Value : Type 0
  pub reads : List ℕ → Value → Type 0
  pub refuses : List ℕ → List ℕ → Type 0
  pub setting : Value → Setting
  pub states : List (List ℕ) → ℕ → Problem → Type 0
  pub problem : Value → ℕ → Problem
  pub linear : Value → ℕ → Linear
  pub no_linear : Value → ℕ → Option (List ℕ)
  pub counts : Value → ℕ → ℕ → ℕ → Type 0

-- ---- an .nl text

-- the problem of the file that lines say
abbrev pub nl_states : List (List ℕ) → ℕ → Problem → Type 0
nl_states lines k problem = problem ≡ problem_of (file_of (said (standing lines))) k

-- a file has no linear program where it does not fold with the objective
abbrev pub nl_claim_row : ClaimRow
nl_claim_row = record {
  Value = NlValue;
  reads = IsNl;
  refuses = HasTextRefusal;
  setting = λ nl. setting_of nl.file;
  states = nl_states;
  problem = λ nl. problem_of nl.file;
  linear = λ nl. linear_of nl.file;
  no_linear = λ nl k. option_map (fold_line nl.places) (first_fold_fault nl.file k);
  counts = λ nl k old new. new ≤ old + fold_steps nl k;
}

-- ---- an MPS text in free form or in fixed columns, whose program has a linear program

abbrev pub IsTextIn : Layout → List ℕ → Mps Dec → Type 0
IsTextIn Free = IsMpsText
IsTextIn Fixed = IsFixedText

abbrev pub IsTextRefused : Layout → List ℕ → List ℕ → Type 0
IsTextRefused Free = IsMpsRefused
IsTextRefused Fixed = IsFixedRefused

-- lines in this form say this program
abbrev pub IsSaidIn : Layout → List (List ℕ) → Mps Dec → Type 0
IsSaidIn Free = SaysMps
IsSaidIn Fixed = SaysFixed

-- the text says this program, which has no fault
pub record HasProgram (layout : Layout) (text : List ℕ) (m : Mps Dec) : Type 0 where
  pub says : IsTextIn layout text m
  pub clean : mps_fault m ≡ None

-- this line tells the first fault of a program
abbrev pub HasNoLinear : Mps Dec → List ℕ → Type 0
HasNoLinear m = TellsFault (λ fault. mps_fault m ≡ Some fault) import_line

-- the text has a first fault, or its program has
abbrev pub IsProgramRefused : Layout → List ℕ → List ℕ → Type 0
IsProgramRefused layout text line = IsTextRefused layout text line
    ⊎ ((m : Mps Dec) × (IsTextIn layout text m × HasNoLinear m line))

-- an MPS program has objective 0 alone
abbrev pub no_objective : ℕ → Option (List ℕ)
no_objective k =
    if nat_lt 0 k then Some (refusal 1 (codes "objective") k (codes "no such objective")) else None

-- the problem of the program that lines say
abbrev pub mps_states : Layout → List (List ℕ) → ℕ → Problem → Type 0
mps_states layout lines k problem =
    (m : Mps Dec) × (IsSaidIn layout lines m × (problem ≡ mps_problem (values_of m)))

abbrev pub mps_claim_row : Layout → ClaimRow
mps_claim_row layout = record {
  Value = Mps Dec;
  reads = HasProgram layout;
  refuses = IsProgramRefused layout;
  setting = mps_setting;
  states = mps_states layout;
  problem = λ m k. mps_problem (values_of m);
  linear = λ m k. mps_linear_of (values_of m);
  no_linear = λ m. no_objective;
  counts = λ m k old new. new ≡ old;
}

abbrev pub claim_row_of : ProblemText → ClaimRow
claim_row_of Nl = nl_claim_row
claim_row_of (MpsIn layout) = mps_claim_row layout

-- ---- what the values of both files come to

-- the verdict on what is given for the claim, in a linear program
abbrev pub claim_shown : Linear → CertificateValue → ClaimOutcome
claim_shown f c = claim_outcome f c.claim (given_in c)

-- a line that tells why there is no linear program, or the verdict on the certificate
abbrev pub by_linear : CertificateValue → ClaimOutcome → Option (List ℕ) → Outcome
by_linear c shown (Some line) = Refused line
by_linear c shown None = Done (is_held shown) (outcome_line c.claim shown)

module _ (row : ClaimRow) (value : row.Value) (c : CertificateValue) where
  -- A claim that there is no feasible point is judged with objective 0.
  abbrev pub verify_outcome : Outcome
  verify_outcome = let k = claim_objective c.claim in
      by_linear c (claim_shown (row.linear value k) c) (row.no_linear value k)

  -- what a yes means: the line is true of the problem with the objective of the claim
  abbrev pub IsVerified : (bytes : List ℕ) → Type 0
  IsVerified = IsClaimTrue (row.problem value (claim_objective c.claim)) c.claim (given_in c)

  -- what a no means
  abbrev pub IsDenied : Type 0
  IsDenied = let k = claim_objective c.claim in
      IsClaimDenied (row.problem value k) (row.linear value k) c verify_outcome

-- ---- the promise

-- What a yes says: which problem the one text states; that the rows of the other are those of the
-- claim and of what is given for it; and that the line that is written is true of these.
pub record SaysVerified (states : List (List ℕ) → ℕ → Problem → Type 0) (texts : Texts)
    (first certificate bytes : List ℕ) : Type 0 where
  pub problem : Problem
  pub claim : Claim
  pub given : Given
  pub says : IsTextOf texts first (λ t. states (lines_of t) (claim_objective claim) problem)
  pub certifies : IsTextOf texts certificate (λ t.
      AreRowsOf (rows_in (lines_of t)) (written_pieces claim given))
  pub verified : IsClaimTrue problem claim given bytes

-- both texts are read, and the verdict is given
abbrev pub verify_read : ClaimRow → (first certificate : List ℕ) → Texts → Promise
verify_read row first certificate texts =
    after_file row.reads row.refuses texts first (λ value.
    after_file (IsCertificateText (row.setting value))
    (IsCertificateRefused (row.setting value) 2) texts certificate (λ c.
    judges_last (texts certificate) (λ outcome. outcome ≡ verify_outcome row value c)
    (row.counts value (claim_objective c.claim)) (IsVerified row value c) (IsDenied row value c)))

abbrev pub verify_told : ClaimRow → (first certificate : List ℕ) → Texts → Promise
verify_told row first certificate texts =
    saying (SaysVerified row.states texts first certificate)
    (verify_read row first certificate texts)

abbrev pub verify_promise : Option Texts → ClaimRow → (first certificate : List ℕ) → Promise
verify_promise texts row first certificate =
    desk_promise true (verify_told row first certificate) texts
