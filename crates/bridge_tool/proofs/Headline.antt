-- Words come to exactly one outcome; what the top call says of any command, and the headline.
use Rattle.std.proofs.Common.{◌≡◌, ◌∙◌, ℕ, List, Option, Some, None, true, false, Bool, refl, sym, inl, inr, ◌⊎◌, ◌<◌, ◌≤◌, IfSome, subst, arith, ◌≢◌}
use Rattle.std.specs.Prelude.{codes}
use Rattle.text_base.specs.Desk.{Texts, Meaning, Rose, OnlyMessages}
use Rattle.bridge_tool.specs.Certified.{IsCertifiedTrue, IsNotShown}
use Rattle.bridge_tool.specs.Check.{IsCertified, IsNotCertified}
use Rattle.bridge_tool.specs.Command.{Command, Check, Export, Rewrite, command_of, Prove, Verify, Certified, Make, Return, NamedExport, NamedReturn}
use Rattle.bridge_tool.specs.Commands.{promise_of, promise_by, ComesTo}
use Rattle.bridge_tool.specs.Export.{IsExportMeant}
use Rattle.bridge_tool.specs.Make.{make_promise}
use Rattle.bridge_tool.specs.OneFile.{row_of}
use Rattle.command_core.specs.Outcome.{Outcome, BadWords, Untold, Status, Written, IsQuiet, Told, told_line, NoText, Refused, Done, verdict_status}
use Rattle.bridge_tool.specs.Prove.{IsLeftOpen, IsProvedOf}
use Rattle.bridge_tool.specs.Return.{IsReturnMeant}
use Rattle.bridge_tool.specs.Verify.{IsDenied, IsVerified, claim_row_of}
use Rattle.bridge_tool.proofs.Programs.{claim_last, claimed}
use Rattle.bridge_tool.proofs.Certifying.{certified_last}
use Rattle.bridge_tool.proofs.Verdicts.{check_last, prove_last}
use Rattle.command_parts.proofs.TextsRead.{nl_read}
use Rattle.bridge_tool.proofs.Exporting.{export_last}
use Rattle.bridge_tool.proofs.OneFile.{last_of}
use Rattle.bridge_tool.proofs.Making.{make_one}
use Rattle.command_parts.proofs.NameLists.{listed_sound}
use Rattle.bridge_tool.proofs.NamedExporting.{after_names as named_next, names_sound as named_next_sound}
use Rattle.command_core.proofs.SeveralFiles.{HasOne, IsPlain, NoVerdict, both_sound, last_sound}
use Rattle.bridge_tool.proofs.Returning.{after_names as return_next, names_sound as return_next_sound, return_last}
use Rattle.std.proofs.lemmas.Bool.{cases_lt}
use Rattle.std.proofs.lemmas.Option.{IfSome_then}
use Rattle.command_core.specs.InsideAnswer.{IsWorked, status_of, told_by}
use Rattle.command_core.specs.Promise.{Answers, Promise, Tells}
use Rattle.command_core.specs.Told.{IsRefusalLine}
use Rattle.command_core.specs.Transfer.{TellsFront}
use Rattle.command_core.specs.declared.answer.Answer.{Answer}
use Rattle.command_core.proofs.Ending.{line_none, low}
use Rattle.command_core.proofs.RefusalLines.{refusal_told}
use Rattle.std.specs.Io.KnownBytes.{Appends}

-- ---- commands

-- any kind
abbrev pub Any : Outcome → Type 0
Any outcome = Unit {0}

-- with the texts of a desk that tells them
pub told_has_one : (texts : Texts) (c : Command) → HasOne IsPlain (promise_of (Some texts) c).comes
told_has_one texts (Export file k) = (last_sound (export_last k) (λ nl bytes. IsExportMeant nl k) NoVerdict file texts).one
told_has_one texts (Make seed size) = make_one seed size
told_has_one texts (Rewrite of file) = (last_sound (last_of of) (λ value bytes. (row_of of).means value) NoVerdict file texts).one
told_has_one texts (Check nl sol) = (both_sound nl_read check_last (λ nl s bytes. IsCertified nl s) IsNotCertified nl sol texts).one
told_has_one texts (Prove nl proof) = (both_sound nl_read prove_last (λ nl p bytes. IsProvedOf nl p) IsLeftOpen nl proof texts).one
told_has_one texts (Verify of first certificate) = let row = claim_row_of of in (both_sound (claimed of).read (claim_last row (claimed of)) (IsVerified row) (IsDenied row) first certificate texts).one
told_has_one texts (Certified nl certificate) = (both_sound nl_read certified_last IsCertifiedTrue IsNotShown nl certificate texts).one
told_has_one texts (Return nl answer) = (both_sound nl_read return_last (λ nl a bytes. IsReturnMeant nl a) (λ nl. NoVerdict) nl answer texts).one
told_has_one texts (NamedExport file k rows columns) = (listed_sound false 2 file rows columns (named_next k columns) (named_next_sound k columns) texts).one
told_has_one texts (NamedReturn nl answer rows columns) = (listed_sound false 3 nl rows columns (return_next answer) (return_next_sound answer) texts).one

any_of : (comes : Outcome → Type 0) → HasOne IsPlain comes → HasOne Any comes
any_of comes h = record { outcome = h.outcome; comes_to = h.comes_to; is = tt; one = h.one }

untold : (judges : Bool) → HasOne Any (λ outcome. outcome ≡ Untold judges)
untold judges = record { outcome = Untold judges; comes_to = refl; is = tt; one = λ other j. j }

-- with those of one that does not
untold_has_one : (c : Command) → HasOne Any (promise_of None c).comes
untold_has_one (Make seed size) = any_of (make_promise seed size).comes (make_one seed size)
untold_has_one (Check nl sol) = untold true
untold_has_one (Prove nl proof) = untold true
untold_has_one (Verify of first certificate) = untold true
untold_has_one (Certified nl certificate) = untold true
untold_has_one command = untold false

has_one : (texts : Option Texts) (c : Option Command) → HasOne Any (promise_by texts c).comes
has_one texts None = record { outcome = BadWords; comes_to = refl; is = tt; one = λ other j. j }
has_one None (Some c) = untold_has_one c
has_one (Some texts) (Some c) = any_of (promise_of (Some texts) c).comes (told_has_one texts c)

pub some_outcome : (texts : Option Texts) (words : List (List ℕ)) → (outcome : Outcome) × ComesTo texts words outcome
some_outcome texts words = let h = has_one texts (command_of words) in (h.outcome, h.comes_to)

pub one_outcome : (texts : Option Texts) (words : List (List ℕ)) (a b : Outcome) → ComesTo texts words a → ComesTo texts words b → a ≡ b
one_outcome texts words a b p q = let h = has_one texts (command_of words) in h.one a p ∙ sym (h.one b q)

told_by_status : (o : Outcome) (status : ℕ) (line : List ℕ) (P : List ℕ → Type 0)
    → IfSome (told_line o status) (λ x. x ≡ line) → ((1 < status) ⊎ (status ≤ 1)) → (1 < status → P line)
    → IfSome (told_line o status) P
told_by_status o status line P is (inl lt) tells = IfSome_then (told_line o status) is (λ x e. subst P (sym e) (tells lt))
told_by_status o status line P is (inr le) tells = rw (line_none o status le) tt

-- what the top call says of its promise
pub record IsAnswered (p : Promise) (old new : Meaning) (status : ℕ) : Type 0 where
  pub which : (o : Outcome) → p.comes o → Status o (Rose old.input_faults new.input_faults) (Rose old.output_faults new.output_faults) status
  pub written : (o : Outcome) → p.comes o → Written o old.written new.written status
  pub refusal : status ≡ 2 → (line : List ℕ) × IsRefusalLine line × TellsFront old.told new.told old.message_faults new.message_faults line
  pub quiet : IsQuiet status → new.written ≡ old.written
  pub told : (o : Outcome) → p.comes o → Told o old.told new.told old.message_faults new.message_faults status
  pub silent : status ≤ 1 → new.told ≡ old.told
  pub means : status ≡ 0 → (bytes : List ℕ) → p.comes (Done true bytes) → p.means bytes
  pub denies : status ≡ 1 → p.denies

answered_so : (p : Promise) (old mid new : Meaning) (answer : Answer) → IsWorked p old mid answer
    → (1 < status_of answer → TellsFront mid.told new.told mid.message_faults new.message_faults (told_by answer))
    → (status_of answer ≤ 1 → new.told ≡ mid.told)
    → OnlyMessages mid new → IsAnswered p old new (status_of answer)
answered_so p old mid new answer h tells silent rest =
    let P : List ℕ → Type 0 = λ line. TellsFront old.told new.told old.message_faults new.message_faults line in
    let tells_old : 1 < status_of answer → P (told_by answer) =
    λ lt. subst (λ (n : ℕ). TellsFront old.told new.told n new.message_faults (told_by answer)) h.messages
    (subst (λ (t : Option (List ℕ)). TellsFront t new.told mid.message_faults new.message_faults (told_by answer))
    h.told (tells lt)) in
    record {
      which = λ o c. subst (λ (n : ℕ). Status o (Rose old.input_faults n) (Rose old.output_faults new.output_faults)
          (status_of answer)) (sym rest.input_faults) (subst
          (λ (n : ℕ). Status o (Rose old.input_faults mid.input_faults) (Rose old.output_faults n) (status_of answer))
          (sym rest.output_faults) (h.status o c));
      written = λ o c. subst (λ (w : Option (List ℕ)). Written o old.written w (status_of answer)) (sym rest.written) (h.written o c);
      refusal = λ e. (told_by answer, refusal_told answer e, tells_old (omega (arith, e)));
      quiet = λ q. rest.written ∙ h.quiet q;
      told = λ o c. told_by_status o (status_of answer) (told_by answer) P (h.line o c) (cases_lt 1 (status_of answer)) tells_old;
      silent = λ le. silent le ∙ h.told;
      means = λ e. h.means e;
      denies = λ e. h.denies e;
    }

pub answered : (p : Promise) (old mid new : Meaning) (answer : Answer) (status : ℕ) → IsWorked p old mid answer → status ≡ status_of answer
    → (1 < status → TellsFront mid.told new.told mid.message_faults new.message_faults (told_by answer))
    → (status ≤ 1 → new.told ≡ mid.told)
    → OnlyMessages mid new → IsAnswered p old new status
answered p old mid new answer status h is tells silent rest =
    subst (IsAnswered p old new) (sym is) (answered_so p old mid new answer h (λ lt. tells (subst (λ (n : ℕ). 1 < n) (sym is) lt)) (λ le. silent (subst (λ (n : ℕ). n ≤ 1) (sym is) le)) rest)

module _ (p : Promise) (old new : Meaning) (status : ℕ) (a : IsAnswered p old new status) (memory : status ≢ 6)
    (no_input : Rose old.input_faults new.input_faults → ⊥) (no_output : Rose old.output_faults new.output_faults → ⊥)
  where
    -- nothing is done, and the status says why
    not_done : 2 ≤ status → ((holds : Bool) (bytes : List ℕ) → p.comes (Done holds bytes) → ⊥)
        → ((line : List ℕ) × (status ≡ 2) × Tells p old new (Refused line) line) ⊎
        ((status ≡ 4) × Tells p old new NoText (codes "input fault\n")) → Answers p old new status
    not_done high is_not why = record {
      done = (λ z. absurd (omega (arith, z, high)), λ e. absurd (is_not true e.0 e.1));
      denied = (λ z. absurd (omega (arith, z, high)), λ e. absurd (is_not false e.0 e.1));
      wrote = λ holds bytes c. absurd (is_not holds bytes c);
      means = λ bytes c. absurd (is_not true bytes c);
      denies = λ z. absurd (omega (arith, z, high));
      other = inr why;
    }

    no_text : p.comes NoText → ((other : Outcome) → p.comes other → other ≡ NoText) → Answers p old new status
    no_text h one =
        let four : status ≡ 4 = elim (a.which NoText h) [ inl e ↦ e | inr e ↦ absurd (memory e) ] in
        not_done (omega (arith, four)) (λ holds bytes c. let e = one (Done holds bytes) c in absurd cc)
        (inr (four, record { comes = h; quiet = a.quiet (inr (inr (inl four))); told = rw four at (a.told NoText h) }))

    refused : (line : List ℕ) → p.comes (Refused line) → ((other : Outcome) → p.comes other → other ≡ Refused line) → Answers p old new status
    refused line h one =
        let two : status ≡ 2 = elim (a.which (Refused line) h) [ inl e ↦ e | inr q ↦ elim q [ inl e ↦ absurd (memory e) | inr f ↦ absurd (no_input f.1) ] ] in
        not_done (omega (arith, two)) (λ holds bytes c. let e = one (Done holds bytes) c in absurd cc)
        (inl (line, two, record { comes = h; quiet = a.quiet (inl two); told = rw two at (a.told (Refused line) h) }))

    verdict : (holds : Bool) (bytes : List ℕ) → p.comes (Done holds bytes) → status ≡ verdict_status holds
    verdict holds bytes h = elim (a.which (Done holds bytes) h) [
      | inl e ↦ e
      | inr q ↦ elim q [
        | inl e ↦ absurd (memory e)
        | inr r ↦ elim r
            [ inl f ↦ absurd (no_input f.1) | inr f ↦ absurd (no_output f.1) ]
      ]
    ]

    wrote : (holds : Bool) (bytes : List ℕ) → p.comes (Done holds bytes) → Appends old.written new.written bytes × (new.told ≡ old.told)
    wrote holds bytes h =
        let le : status ≤ 1 = subst (λ (n : ℕ). n ≤ 1) (sym (verdict holds bytes h)) (low holds) in
        ((a.written (Done holds bytes) h).0 le, a.silent le)

    done : (bytes : List ℕ) → p.comes (Done true bytes) → Answers p old new status
    done bytes h =
        let is : status ≡ 0 = verdict true bytes h in
        record {
          done = (λ z. (bytes, h), λ e. is);
          denied = (λ z. absurd (omega (arith, z, is)), λ e. verdict false e.0 e.1);
          wrote = wrote;
          means = λ other c. a.means is other c;
          denies = a.denies;
          other = inl (omega (arith, is));
        }

    denied : (bytes : List ℕ) → p.comes (Done false bytes) → Answers p old new status
    denied bytes h =
        let is : status ≡ 1 = verdict false bytes h in
        record {
          done = (λ z. absurd (omega (arith, z, is)), λ e. verdict true e.0 e.1);
          denied = (λ z. (bytes, h), λ e. is);
          wrote = wrote;
          means = λ other c. (let zero = verdict true other c in absurd (omega (arith, zero, is)));
          denies = a.denies;
          other = inl (omega (arith, is));
        }

    by_outcome : (o : Outcome) → p.comes o → IsPlain o → ((other : Outcome) → p.comes other → other ≡ o) → Answers p old new status
    by_outcome BadWords h is one = absurd is
    by_outcome (Untold judges) h is one = absurd is
    by_outcome NoText h is one = no_text h one
    by_outcome (Refused line) h is one = refused line h one
    by_outcome (Done true bytes) h is one = done bytes h
    by_outcome (Done false bytes) h is one = denied bytes h

    pub answers : HasOne IsPlain p.comes → Answers p old new status
    answers h = by_outcome h.outcome h.comes_to h.is h.one

-- what is answered for words is the headline of their command
pub at_command : (told : Option Texts) (asked : Option Command) (texts : Texts) (command : Command) (old new : Meaning) (status : ℕ) → told ≡ Some texts → asked ≡ Some command
    → IsAnswered (promise_by told asked) old new status → status ≢ 6 → (Rose old.input_faults new.input_faults → ⊥) → (Rose old.output_faults new.output_faults → ⊥)
    → Answers (promise_of (Some texts) command) old new status
at_command told asked texts command old new status is known a memory no_input no_output =
    let one : IsAnswered (promise_by (Some texts) asked) old new status = subst (λ (t : Option Texts). IsAnswered (promise_by t asked) old new status) is a in
    let two : IsAnswered (promise_by (Some texts) (Some command)) old new status = subst (λ (c : Option Command). IsAnswered (promise_by (Some texts) c) old new status) known one in
    answers (promise_of (Some texts) command) old new status two memory no_input no_output (told_has_one texts command)
