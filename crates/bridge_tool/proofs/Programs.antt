-- What a text that states a problem and a certificate come to: one outcome, and what each verdict means.
use Rattle.std.proofs.Common.{[], ◌≡◌, ◌∙◌, inl, inr, ◌⊎◌, ℕ, ◌+◌, ◌<◌, ◌≤◌, Bool, true, false, List, Option, Some, None, Result, Ok, Err, if◌then◌else◌, refl, sym, ap, subst, arith, nat_lt, codes}
use Rattle.std.specs.Prelude.{◌++◌, IfOk, option_map}
use Rattle.std.specs.Option.{option_map_or}
use Rattle.std.specs.Global.{Vec}
use Rattle.std.proofs.lemmas.Bool.{lt-ltb}
use Rattle.std.proofs.lemmas.Bool.Decides.{nat_tests}
use Rattle.std.proofs.lemmas.Option.{same_Some}
use Rattle.text_base.specs.Desk.{Meaning, Texts}
use Rattle.text_base.specs.Reading.{lines_of}
use Rattle.text_base.specs.declared.stop.Stop.{Stop}
use Rattle.text_base.specs.declared.stop.Stop.TheVariants.{Fault, Memory}
use Rattle.linear_program.specs.Linear.{Linear, variable_count, row_count}
use Rattle.certificates.specs.Certificate.{ClaimOutcome, holds, fails}
use Rattle.certificates.specs.Means.{Means}
use Rattle.certificates.specs.Problem.{Problem}
use Rattle.certificates.specs.ProblemSays.{Denies}
use Rattle.certificates.specs.ToldMeaning.{Told, IsToldTrue}
use Rattle.exact_numbers.specs.declared.dec.Dec.{Dec}
use Rattle.nl_model.specs.FoldFaults.{FoldFault, fold_fault}
use Rattle.nl_model.specs.LinearFile.{linear_of}
use Rattle.linear_fold.specs.FoldedFaults.{first_fold_fault, named_fault}
use Rattle.linear_program.specs.Numbers.{spread}
use Rattle.linear_program.specs.Programs.{LinearValue, linear_value}
use Rattle.nl_segments.specs.Grammar.{NlValue}
use Rattle.nl_segments.specs.Reader.{IsNl}
use Rattle.mps_model.specs.Mps.{Mps}
use Rattle.mps_program.specs.Faults.{mps_fault}
use Rattle.mps_program.specs.Program.{values_of}
use Rattle.mps_program.specs.declared.mps_fault.MpsFault.{MpsFault}
use Rattle.certificate_text.specs.TextRows.{rows_in}
use Rattle.certificates.specs.Certificates.{CertificateValue, Given, IsAskedFor, IsCertificateOf, certificate_over, claim_outcome, claim_objective}
use Rattle.certificates.specs.Reading.{given_in}
use Rattle.certificates.specs.Setting.{IsSettingOf, Setting, program_setting}
use Rattle.certificates.specs.Told.{told_claim}
use Rattle.certificates.specs.declared.certificate.Claim.{Claim}
use Rattle.certificates.specs.declared.certificate.Claim.TheVariants.{Within}
use Rattle.certificates.proofs.ClaimsTold.{told_denied, told_true}
use Rattle.certificates.proofs.Reading.{given_back}
use Rattle.certificates.proofs.Settings.{certificate_for}
use Rattle.certificate_text.specs.Reader.{IsCertificateText}
use Rattle.certificate_text.specs.Written.{AreRowsOf, written_pieces}
use Rattle.certificate_text.proofs.Files.{text_is_certificate}
use Rattle.problems.specs.FileProblem.{problem_of}
use Rattle.problems.specs.Files.{IsCertificateIn}
use Rattle.problems.proofs.Files.{meant as file_meant}
use Rattle.problems.proofs.Given.{certificate_of}
use Rattle.problems.proofs.NlSettings.{file_setting}
use Rattle.problems.specs.MpsSetting.{mps_setting}
use Rattle.problems.proofs.Meaning.{mps_means}
use Rattle.problems.proofs.MpsSettings.{program_setting as setting_so}
use Rattle.command_parts.specs.CertificateTold.{HasFittingBound, is_held, objective_text, outcome_line, told_text}
use Rattle.command_parts.specs.ImportTold.{import_line}
use Rattle.command_core.specs.InsideAnswer.{IsCounted}
use Rattle.command_parts.specs.NlTold.{fold_line}
use Rattle.command_core.specs.Outcome.{Outcome, Refused as IsRefusal, Done}
use Rattle.command_parts.specs.Refusal.{IsCertificateRefused}
use Rattle.command_core.specs.SeveralFiles.{Answered, ByVerdict, Comes, HasEnded, ReadsFile, desk_promise, itself}
use Rattle.command_parts.specs.Stages.{HasFolded}
use Rattle.command_core.specs.Told.{refusal}
use Rattle.command_core.specs.declared.answer.Answer.{Answer}
use Rattle.command_core.specs.declared.answer.Answer.TheVariants.{Refused, InputFault, NoMemory}
use Rattle.command_core.specs.declared.refused.Refusal.{Refusal}
use Rattle.command_core.proofs.SeveralFiles.{AreRead, IsLast, IsPlain, meant_as, same_one, text_so, value_said}
use Rattle.command_parts.proofs.TextsRead.{certificate_read, fixed_read, mps_read, nl_read}
use Rattle.bridge_tool.specs.Claims.{IsClaimDenied, IsClaimTrue}
use Rattle.bridge_tool.specs.InsideVerify.{GivesProgram, IsProgramOf}
use Rattle.bridge_tool.specs.Verify.{ClaimRow, HasNoLinear, HasProgram, IsDenied, IsProgramRefused, IsSaidIn, IsTextIn}
use Rattle.bridge_tool.specs.Verify.{IsTextRefused, IsVerified, SaysVerified, by_linear, claim_row_of, claim_shown}
use Rattle.bridge_tool.specs.Verify.{mps_claim_row, nl_claim_row, no_objective, verify_outcome, verify_promise}
use Rattle.bridge_tool.specs.Verify.{verify_read}
use Rattle.bridge_tool.specs.declared.verify.ProblemText.{ProblemText}
use Rattle.bridge_tool.specs.declared.verify.ProblemText.TheVariants.{Mps as MpsIn, Nl}
use Rattle.bridge_tool.specs.declared.verify_mps.Layout.{Layout}
use Rattle.bridge_tool.specs.declared.verify_mps.Layout.TheVariants.{Free, Fixed}
use Rattle.bridge_tool.proofs.Exporting.{text_file}

-- ---- an MPS text

pub text_read : (layout : Layout) → AreRead (IsTextIn layout) (IsTextRefused layout)
text_read Free = mps_read
text_read Fixed = fixed_read

-- one program has one first fault, and one line that tells it
one_line : (m n : Mps Dec) (a b : List ℕ) → m ≡ n → HasNoLinear m a → HasNoLinear n b → a ≡ b
one_line m n a b same h k =
    h.told ∙ ap import_line (same_Some h.fault k.fault (sym h.first ∙ ap mps_fault same ∙ k.first)) ∙ sym k.told

no_both : (m n : Mps Dec) (line : List ℕ) → m ≡ n → mps_fault m ≡ None → HasNoLinear n line → ⊥
no_both m n line same clean h = (let first = ap mps_fault same ∙ h.first in cc)

-- each text has one program with a linear program, or one line
pub program_read : (layout : Layout) → AreRead (HasProgram layout) (IsProgramRefused layout)
program_read layout = record {
  said = λ text a b h k. d.said text a b h.says k.says;
  refused = one;
  either = λ text. elim (d.either text) [ inl said ↦ by text said.0 said.1 (mps_fault said.0) refl | inr found ↦ inr (found.0, inl found.1) ];
  apart = λ text m line h k. elim k [ inl first ↦ d.apart text m line h.says first | inr none ↦ no_both m none.0 line (d.said text m none.0 h.says none.1.0) h.clean none.1.1 ];
}
  where
    d : AreRead (IsTextIn layout) (IsTextRefused layout)
    d = text_read layout

    one : (text a b : List ℕ) → IsProgramRefused layout text a → IsProgramRefused layout text b → a ≡ b
    one text a b (inl h) (inl k) = d.refused text a b h k
    one text a b (inl h) (inr k) = absurd (d.apart text k.0 a k.1.0 h)
    one text a b (inr h) (inl k) = absurd (d.apart text h.0 b h.1.0 k)
    one text a b (inr h) (inr k) = one_line h.0 k.0 a b (d.said text h.0 k.0 h.1.0 k.1.0) h.1.1 k.1.1

    by : (text : List ℕ) (m : Mps Dec) → IsTextIn layout text m → (o : Option MpsFault) → mps_fault m ≡ o
        → ((n : Mps Dec) × HasProgram layout text n) ⊎ ((line : List ℕ) × IsProgramRefused layout text line)
    by text m says None e = inl (m, record { says = says; clean = e })
    by text m says (Some fault) e = inr (import_line fault, inr (m, (says, record { fault = fault; first = e; told = refl })))

-- ---- reading it

no_answer : (l : LinearValue) (answer : Answer) (r : Result LinearValue Answer) → r ≡ Err answer → r ≡ Ok l → ⊥
no_answer l answer r e h = cc

same_answer : (a b : Answer) (r : Result LinearValue Answer) → r ≡ Err a → r ≡ Err b → a ≡ b
same_answer a b r e h = cc

same_program : (k l : LinearValue) (r : Result LinearValue Answer) → r ≡ Ok l → r ≡ Ok k → k ≡ l
same_program k l r e h = cc

module _ (layout : Layout) (file : List ℕ) (old new : Meaning) where
  ended_by : (answer : Answer) → HasEnded (IsTextRefused layout) file old new answer → HasEnded (IsProgramRefused layout) file old new answer
  ended_by (Refused refusal) h = record { bytes = h.bytes; read = h.read; says = inl h.says; same = h.same }
  ended_by InputFault h = h
  ended_by NoMemory h = h
  ended_by other h = absurd h

  -- its text ends the command
  pub text_ended : (answer : Answer) → ReadsFile {R = Mps Dec} itself (IsTextIn layout) (IsTextRefused layout) file old
      new (Err answer) → ReadsFile {R = Mps Dec} itself (HasProgram layout) (IsProgramRefused layout) file old new
      (Err answer)
  text_ended answer h = record { rest = h.rest; later = h.later; judged = ended_by answer h.judged }

  module _ (m : Mps Dec) (h : ReadsFile {R = Mps Dec} itself (IsTextIn layout) (IsTextRefused layout) file old new (Ok m)) where
    no_linear : (answer : Answer) (refusal : Refusal) → answer ≡ Refused refusal → HasNoLinear m refusal.line → HasEnded (IsProgramRefused layout) file old new answer
    no_linear answer refusal e none = rw e (record { bytes = h.judged.bytes; read = h.judged.read; says = inr (m, (h.judged.says, none)); same = h.judged.same })

    no_memory : (answer : Answer) → answer ≡ NoMemory → HasEnded (IsProgramRefused layout) file old new answer
    no_memory answer e = rw e h.judged.same

    ended_with : (judged : Result LinearValue (Stop Refusal)) (answer : Answer) → GivesProgram m judged → Answered judged (Err answer) → HasEnded (IsProgramRefused layout) file old new answer
    ended_with (Ok l) answer gives same = absurd (no_answer l answer (Err answer) refl same)
    ended_with (Err (Fault why)) answer gives same = no_linear answer why (same_answer answer (Refused why) (Err answer) refl same) gives
    ended_with (Err Memory) answer gives same = no_memory answer (same_answer answer NoMemory (Err answer) refl same)

    -- its program ends it
    pub program_ended : (judged : Result LinearValue (Stop Refusal)) (answer : Answer) → GivesProgram m judged
        → Answered judged (Err answer) → ReadsFile {R = Mps Dec} itself (HasProgram layout) (IsProgramRefused layout) file
        old new (Err answer)
    program_ended judged answer gives same = record { rest = h.rest; later = h.later; judged = ended_with judged answer gives same }

    -- it has a linear program
    pub program_is : (judged : Result LinearValue (Stop Refusal)) (l : LinearValue) → GivesProgram m judged → Answered judged (Ok l) → IsProgramOf m l
    program_is (Ok k) l gives same = subst (IsProgramOf m) (same_program k l (Ok l) refl same) gives
    program_is (Err (Fault why)) l gives same = absurd (no_answer l (Refused why) (Ok l) same refl)
    program_is (Err Memory) l gives same = absurd (no_answer l NoMemory (Ok l) same refl)

    pub program_there : (l : LinearValue) → IsProgramOf m l → ReadsFile {R = Mps Dec} itself (HasProgram layout) (IsProgramRefused layout) file old new (Ok m)
    program_there l is = record {
      rest = h.rest;
      later = h.later;
      judged = record { bytes = h.judged.bytes; read = h.judged.read; says = record { says = h.judged.says; clean = is.clean }; same = h.judged.same };
    }

-- ---- the first text

none_mapped : {A B : Type 0} (f : A → B) (o : Option A) → option_map f o ≡ None → o ≡ None
none_mapped f None e = refl
none_mapped f (Some x) e = absurd cc

-- a file that has a linear program folds
pub folds_clean : (nl : NlValue) (k : ℕ) → nl_claim_row.no_linear nl k ≡ None → fold_fault nl.file k ≡ None
folds_clean nl k none = none_mapped (named_fault nl.file) (fold_fault nl.file k) (none_mapped (fold_line nl.places) (first_fold_fault nl.file k) none)

lines_say : (layout : Layout) (text : List ℕ) (m : Mps Dec) → HasProgram layout text m → IsSaidIn layout (lines_of text) m
lines_say Free text m h = h.says.said
lines_say Fixed text m h = h.says.said

-- what is known of its value
pub record IsClaimed (row : ClaimRow) : Type 0 where
  pub read : AreRead row.reads row.refuses
  pub idle : (value : row.Value) (k n : ℕ) → row.counts value k n n
  pub states : (text : List ℕ) (value : row.Value) (k : ℕ) → row.reads text value → row.states (lines_of text) k (row.problem value k)
  pub over : (value : row.Value) (k : ℕ) → IsSettingOf (row.linear value k) (row.setting value)
  pub means : (text : List ℕ) (value : row.Value) (k : ℕ) → row.reads text value → row.no_linear value k ≡ None → Means (row.linear value k) (row.problem value k)

pub claimed : (of : ProblemText) → IsClaimed (claim_row_of of)
claimed Nl = record {
  read = nl_read;
  idle = λ nl k n. omega arith;
  states = λ text nl k (h : IsNl text nl). ap (λ f. problem_of f k) h.said.file;
  over = λ nl k. file_setting nl.file k;
  means = λ text nl k h none. file_meant nl.file k (text_file text nl h) (folds_clean nl k none);
}
claimed (MpsIn layout) = record {
  read = program_read layout;
  idle = λ m k n. refl;
  states = λ text m k h. (m, (lines_say layout text m h, refl));
  over = λ m k. setting_so m;
  means = λ text m k h none. mps_means (values_of m);
}

-- ---- a verdict

-- a certificate's text is written as what is read back of it
written_so : (s : Setting) (text : List ℕ) (c : CertificateValue) → IsCertificateText s text c → AreRowsOf (rows_in (lines_of text)) (written_pieces c.claim (given_in c))
written_so s text c h =
    let w = text_is_certificate s text c h in
    let is = w.is in
    subst (λ (g : Given). AreRowsOf (rows_in (lines_of text)) (written_pieces c.claim g)) (sym (given_back c is.given is.point is.ray is.nodes is.pairs)) w.rows

fits_for : (claim : Claim) (g : Given) → IsAskedFor claim g → HasFittingBound claim
fits_for (Within k b) g h = h.2
fits_for other g h = tt

module _ (f : Linear) (c : CertificateValue) (h : IsCertificateOf f c) where
  -- the bound of the claim can be written
  pub bound_fits : HasFittingBound c.claim
  bound_fits = fits_for c.claim h.given h.asked

  pub back : given_in c ≡ h.given
  back = given_back c h.given h.point h.ray h.nodes h.pairs

  -- what was judged is what is shown
  pub shown_so : (o : ClaimOutcome) → ((given : IsCertificateOf f c) → o ≡ claim_outcome f c.claim given.given) → o ≡ claim_shown f c
  shown_so o exact = exact h ∙ ap (λ (g : Given). claim_outcome f c.claim g) (sym back)

  module _ (p : Problem) (means : Means f p) where
    -- what a verdict says of a problem that the linear program means
    abbrev pub Says : ℕ → ℕ → Given → ClaimOutcome → Type 0
    Says n m g (holds value) = IsToldTrue p (spread n g.point) (told_claim c.claim value)
    Says n m g (fails cause) = Denies p f (certificate_over n m c.claim g) cause

    says : (o : ClaimOutcome) → claim_outcome f c.claim h.given ≡ o → Says (variable_count f) (row_count f) h.given o
    says (holds value) e = told_true f p means c h value e
    says (fails cause) e = told_denied f p means c h cause e

    -- it is so of what is shown
    pub says_so : Says p.variables p.constraints (given_in c) (claim_shown f c)
    says_so =
        subst (λ (g : Given). Says p.variables p.constraints g (claim_outcome f c.claim g)) (sym back)
        (subst (λ n. Says n p.constraints h.given (claim_outcome f c.claim h.given)) (sym means.variables)
        (subst (λ m. Says (variable_count f) m h.given (claim_outcome f c.claim h.given)) (sym means.constraints) (says (claim_outcome f c.claim h.given) refl)))

    -- so its line means what it should
    pub line_so : (outcome : Outcome) (o : ClaimOutcome) → claim_shown f c ≡ o → outcome ≡ by_linear c o None
        → ByVerdict (is_held o) (IsClaimTrue p c.claim (given_in c) (outcome_line c.claim o))
        (IsClaimDenied p f c outcome)
    line_so outcome (holds value) shown is =
        let so : Says p.variables p.constraints (given_in c) (holds value) = subst (Says p.variables p.constraints (given_in c)) shown says_so in
        record { told = so.told; line = ap (λ (t : Option Told). option_map_or told_text t [] ++ objective_text (claim_objective c.claim) ++ codes "\n") so.is_told; true_of = so.true_of }
    line_so outcome (fails cause) shown is = record { cause = cause; line = is; denies = subst (Says p.variables p.constraints (given_in c)) shown says_so }

-- ---- the command

module _ (row : ClaimRow) (d : IsClaimed row) where
  module _ (text given : List ℕ) (value : row.Value) (c : CertificateValue) (reads : row.reads text value) (certifies : IsCertificateText (row.setting value) given c) where
    abbrev k : ℕ
    k = claim_objective c.claim

    abbrev shown : ClaimOutcome
    shown = claim_shown (row.linear value k) c

    certificate_so : IsCertificateOf (row.linear value k) c
    certificate_so = certificate_for (row.linear value k) (row.setting value) (d.over value k) c (text_is_certificate (row.setting value) given c certifies).is

    means_so : (o : Option (List ℕ)) → row.no_linear value k ≡ o → (held : Bool) (bytes : List ℕ)
        → Done held bytes ≡ by_linear c shown o → ByVerdict held (IsVerified row value c bytes) (IsDenied row value c)
    means_so None none held bytes done =
        let yes : held ≡ is_held shown = cc in
        let line : bytes ≡ outcome_line c.claim shown = cc in
        subst (λ (t : Bool). ByVerdict t (IsVerified row value c bytes) (IsDenied row value c)) (sym yes)
        (subst (λ (b : List ℕ). ByVerdict (is_held shown) (IsVerified row value c b) (IsDenied row value c)) (sym line)
        (line_so (row.linear value k) c certificate_so (row.problem value k) (d.means text value k reads none) (verify_outcome row value c) shown refl (ap (by_linear c shown) none)))
    means_so (Some line) some held bytes done = absurd cc

    -- a verdict means what it should
    pub claim_meant : (judged : Result (Bool × Vec ℕ) (Stop Refusal))
        → Comes (λ outcome. outcome ≡ verify_outcome row value c) judged
        → IfOk judged (λ t. ByVerdict t.0 (IsVerified row value c t.1.items) (IsDenied row value c))
    claim_meant (Ok t) comes = means_so (row.no_linear value k) refl t.0 t.1.items comes
    claim_meant (Err stop) comes = tt

  plain : (c : CertificateValue) (o : ClaimOutcome) (line : Option (List ℕ)) → IsPlain (by_linear c o line)
  plain c o None = tt
  plain c o (Some line) = tt

  pub claim_last : (value : row.Value) → IsLast true (IsCertificateText (row.setting value))
      (IsCertificateRefused (row.setting value) 2) (λ c outcome. outcome ≡ verify_outcome row value c)
      (λ c. row.counts value (claim_objective c.claim))
  claim_last value = record {
    read = certificate_read (row.setting value) 2;
    one = λ c. same_one (verify_outcome row value c) (plain c (claim_shown (row.linear value (claim_objective c.claim)) c) (row.no_linear value (claim_objective c.claim)));
    idle = λ c n. d.idle value (claim_objective c.claim) n;
    verdict = λ c held bytes e. inr refl;
  }

  module _ (first certificate : List ℕ) where
    yes_says : (texts : Texts) (bytes : List ℕ) → (verify_read row first certificate texts).means bytes → SaysVerified row.states texts first certificate bytes
    yes_says texts bytes h =
        let one = value_said row.reads row.refuses texts first _ bytes h in
        let s = row.setting one.0 in
        let two = value_said (IsCertificateText s) (IsCertificateRefused s 2) texts certificate _ bytes one.1.1 in
        record {
          problem = row.problem one.0 (claim_objective two.0.claim);
          claim = two.0.claim;
          given = given_in two.0;
          says = text_so _ (λ (text : List ℕ) (is : row.reads text one.0). d.states text one.0 (claim_objective two.0.claim) is) one.1.0;
          certifies = text_so _ (λ (text : List ℕ) (is : IsCertificateText s text two.0). written_so s text two.0 is) two.1.0;
          verified = two.1.1;
        }

    pub claim_counted : {old new : Meaning} {m n : ℕ} {answer : Answer} (t : Option Texts)
        → IsCounted (desk_promise true (verify_read row first certificate) t) old new m n answer
        → IsCounted (verify_promise t row first certificate) old new m n answer
    claim_counted t = meant_as true (verify_read row first certificate) (λ texts. SaysVerified row.states texts first certificate) t yes_says

-- ---- what the code answers

module _ (nl : NlValue) (c : CertificateValue) (given : IsCertificateIn nl.file c) (l : LinearValue) (folds : HasFolded nl (claim_objective c.claim) l) where
  -- the certificate is one of the folded program
  pub folded_so : IsCertificateOf (linear_value l) c
  folded_so = subst (λ (g : Linear). IsCertificateOf g c) (sym folds.linear) (certificate_of nl.file (claim_objective c.claim) c given)

  -- the file folds, and the verdict is told
  pub claim_done : (held : Bool) (bytes : List ℕ) → Done held bytes ≡ by_linear c (claim_shown (linear_value l) c) None → Done held bytes ≡ verify_outcome nl_claim_row nl c
  claim_done held bytes told =
      told ∙ ap (λ (g : Linear). by_linear c (claim_shown g c) None) folds.linear
      ∙ sym (ap (λ (o : Option FoldFault). by_linear c (claim_shown (linear_of nl.file (claim_objective c.claim)) c)
      (option_map (fold_line nl.places) (option_map (named_fault nl.file) o))) folds.fine)

module _ (c : CertificateValue) (shown : ClaimOutcome) (k : ℕ) (same : k ≡ claim_objective c.claim) where
  by_number : (b : Bool) → nat_lt 0 k ≡ b → by_linear c shown (no_objective (claim_objective c.claim))
      ≡ by_linear c shown (if b then Some (refusal 1 (codes "objective") k (codes "no such objective")) else None)
  by_number b e =
      let line : List ℕ = refusal 1 (codes "objective") k (codes "no such objective") in
      subst (λ (n : ℕ). by_linear c shown (no_objective n) ≡ by_linear c shown (if b then Some line else None)) same (ap (λ (t : Bool). by_linear c shown (if t then Some line else None)) e)

  -- no objective has the number of the claim
  pub no_such : 0 < k → IsRefusal (refusal 1 (codes "objective") k (codes "no such objective")) ≡ by_linear c shown (no_objective (claim_objective c.claim))
  no_such some = sym (by_number true (lt-ltb 0 k some))

  pub first_objective : k ≤ 0 → (held : Bool) (bytes : List ℕ) → Done held bytes ≡ by_linear c shown None → Done held bytes ≡ by_linear c shown (no_objective (claim_objective c.claim))
  first_objective none held bytes told = told ∙ sym (by_number false (grind (arith, nat_tests)))

module _ (m : Mps Dec) (l : LinearValue) (is : IsProgramOf m l) where
  -- the setting of the linear program is that of the program
  pub opened_as : (file : List ℕ) (old new : Meaning) (result : Result CertificateValue Answer)
      → ReadsFile {R = CertificateValue} itself (IsCertificateText (program_setting l))
      (IsCertificateRefused (program_setting l) 2) file old new result
      → ReadsFile {R = CertificateValue} itself (IsCertificateText (mps_setting m)) (IsCertificateRefused (mps_setting m) 2) file old new result
  opened_as file old new result h =
      let same : program_setting l ≡ mps_setting m = (let a = is.rows in let b = is.kinds in rw (a, b) refl) in
      subst (λ (s : Setting). ReadsFile {R = CertificateValue} itself (IsCertificateText s) (IsCertificateRefused s 2) file old new result) same h

  -- what its linear program comes to is what it does
  pub comes_as : (layout : Layout) (c : CertificateValue) (judged : Result (Bool × Vec ℕ) (Stop Refusal))
      → Comes (λ outcome. outcome ≡ by_linear c (claim_shown (linear_value l) c) (no_objective (claim_objective c.claim)))
      judged → Comes (λ outcome. outcome ≡ verify_outcome (mps_claim_row layout) m c) judged
  comes_as layout c judged comes = subst (λ (g : Linear). Comes (λ outcome. outcome ≡ by_linear c (claim_shown g c) (no_objective (claim_objective c.claim))) judged) is.linear comes
