-- What each way to end a command says of its outcome and of the desk.
use Rattle.std.proofs.Common.{◌≡◌, ◌≢◌, ◌∙◌, inl, inr, ◌⊎◌, ℕ, zero, suc, ◌<◌, ◌≤◌, List, Bool, true, false, drop, Option, Some, None, IfSome, refl, subst, arith}
use Rattle.std.specs.Prelude.{IsTrue, Result, Ok, Err}
use Rattle.text_base.specs.declared.stop.Stop.{Stop}
use Rattle.text_base.specs.declared.stop.Stop.TheVariants.{Fault, Memory}
use Rattle.std.specs.Io.KnownBytes.{Appends}
use Rattle.text_base.specs.Desk.{Meaning, Rose, OnlyInput}
use Rattle.command_core.specs.declared.refused.Refusal.{Refusal}
use Rattle.command_core.specs.InsideAnswer.{IsWorked, EndsBy, EndsWriting, status_of, told_by, HasWritten, HasStopped}
use Rattle.command_core.specs.Outcome.{Outcome, BadWords, Untold, NoText, Refused, Done, Status, Written, IsQuiet, told_line, verdict_status}
use Rattle.command_core.specs.Promise.{Promise}
use Rattle.command_core.specs.SeveralFiles.{ByVerdict}
use Rattle.command_core.specs.Transfer.{AppendsPart}
use Rattle.command_core.specs.declared.answer.Answer.{Answer}
use Rattle.command_core.specs.declared.answer.Answer.TheVariants.{Done as IsDone, Refused as IsRefusal, InputFault, OutputFault, NoMemory}
use Rattle.command_core.specs.declared.transfer.TheConstants.{LIMIT}

-- with such a status nothing is said of what is written
nothing_written : (o : Outcome) (old new : Option (List ℕ)) (status : ℕ) → (status ≤ 1 → ⊥) → (status ≡ 5 → ⊥) → Written o old new status
nothing_written (Done holds bytes) old new status low five = (λ le. absurd (low le), λ e. absurd (five e))
nothing_written other old new status low five = tt

-- not the outcome of bad words
unfoldable pub IsKnown : Outcome → Type 0
IsKnown o = o ≢ BadWords

pub fault_status : (o : Outcome) (input output : Type 0) → IsKnown o → input → Status o input output 4
unfolding IsKnown
fault_status BadWords input output known rose = absurd (known refl)
fault_status (Untold judges) input output known rose = inr (inr (inr (inr (inl (refl, rose)))))
fault_status NoText input output known rose = inl refl
fault_status (Refused line) input output known rose = inr (inr (refl, rose))
fault_status (Done holds bytes) input output known rose = inr (inr (inl (refl, rose)))

pub memory_status : (o : Outcome) (input output : Type 0) → IsKnown o → Status o input output 6
unfolding IsKnown
memory_status BadWords input output known = absurd (known refl)
memory_status (Untold judges) input output known = inr (inr (inr (inl refl)))
memory_status NoText input output known = inr refl
memory_status (Refused line) input output known = inr (inl refl)
memory_status (Done holds bytes) input output known = inr (inl refl)

pub line_none : (o : Outcome) (status : ℕ) → status ≤ 1 → told_line o status ≡ None
line_none o zero le = refl
line_none o (suc zero) le = refl
line_none o (suc (suc n)) le = absurd (omega (arith, le))

-- ---- verdicts

pub low : (verdict : Bool) → verdict_status verdict ≤ 1
low true = omega arith
low false = omega arith

not_five : (n : ℕ) → n ≤ 1 → n ≡ 5 → ⊥
not_five n le e = absurd (omega (arith, le, e))

not_quiet : (n : ℕ) → n ≤ 1 → IsQuiet n → ⊥
not_quiet n le q = elim q [
  | inl e ↦ absurd (omega (arith, e, le))
  | inr p ↦ elim p [
    | inl e ↦ absurd (omega (arith, e, le))
    | inr r ↦ elim r
        [ inl e ↦ absurd (omega (arith, e, le)) | inr e ↦ absurd (omega (arith, e, le)) ]
  ]
]

five_is_loud : IsQuiet 5 → ⊥
five_is_loud q = elim q [
  | inl e ↦ absurd (omega (arith, e))
  | inr p ↦ elim p [
    | inl e ↦ absurd (omega (arith, e))
    | inr r ↦ elim r [
      | inl e ↦ absurd (omega (arith, e))
      | inr e ↦ absurd
          (omega (arith, e))
    ]
  ]
]

no_line : (o : Outcome) (n : ℕ) (P : List ℕ → Type 0) → n ≤ 1 → IfSome (told_line o n) P
no_line o n P le = rw (line_none o n le) tt

-- the verdict is yes, or the command judges
untold_verdict : (judges verdict : Bool) (input output : Type 0) → (verdict ≡ true) ⊎ IsTrue judges → Status (Untold judges) input output (verdict_status verdict)
untold_verdict judges true input output may = inl refl
untold_verdict judges false input output (inl e) = absurd cc
untold_verdict judges false input output (inr j) = inr (inl (j, refl))

-- the bytes of a yes are those that were written
meant : (verdict : Bool) (M : List ℕ → Type 0) (D : Type 0) (judges : Bool) (bytes other : List ℕ) → ByVerdict verdict (M bytes) D → verdict_status verdict ≡ 0
    → (Done true other ≡ Untold judges) ⊎ (Done true other ≡ Done verdict bytes) → M other
meant true M D judges bytes other h e (inl is) = absurd cc
meant true M D judges bytes other h e (inr is) = let same : bytes ≡ other = cc in subst M same h
meant false M D judges bytes other h e is = absurd (omega (arith, e))

denied : (verdict : Bool) (M D : Type 0) → ByVerdict verdict M D → verdict_status verdict ≡ 1 → D
denied true M D h e = absurd (omega (arith, e))
denied false M D h e = h

-- The command with this promise has read its files, and the desk stands so; it comes to this outcome, where the desk
-- tells its texts.
pub record HasComeTo (p : Promise) (judges : Bool) (old mid : Meaning) (x : Outcome) : Type 0 where
  pub knows : (o : Outcome) → p.comes o → (o ≡ Untold judges) ⊎ (o ≡ x)
  pub left : (text : List ℕ) → p.last text → mid.left ≡ Some (drop LIMIT text)
  pub same : mid.input_faults ≡ old.input_faults
  pub rest : OnlyInput old mid

module _ (p : Promise) (judges : Bool) (old mid : Meaning) where
  -- nothing was written, and there is no verdict
  quiet_worked : (answer : Answer) → (status_of answer ≤ 1 → ⊥) → (status_of answer ≡ 5 → ⊥)
      → ((o : Outcome) → p.comes o → Status o (Rose old.input_faults mid.input_faults) (Rose old.output_faults mid.output_faults) (status_of answer))
      → ((o : Outcome) → p.comes o → IfSome (told_line o (status_of answer)) (λ line. line ≡ told_by answer))
      → ((status_of answer ≤ 2) ⊎ (status_of answer ≡ 5) → (text : List ℕ) → p.last text → mid.left ≡ Some (drop LIMIT text))
      → old.input_faults ≤ mid.input_faults → (old.input_faults < mid.input_faults → status_of answer ≡ 4) → OnlyInput old mid → IsWorked p old mid answer
  quiet_worked answer low five status line left later input rest =
      record {
        status = status;
        written = λ o h. nothing_written o _ _ (status_of answer) low five;
        line = line;
        quiet = λ q. rest.written;
        left = left;
        means = λ e. absurd (low (omega (arith, e)));
        denies = λ e. absurd (low (omega (arith, e)));
        input_later = later;
        output_later = omega (arith, rest.output_faults);
        input = input;
        output = λ lt. absurd (omega (arith, lt, rest.output_faults));
        texts = rest.texts;
        told = rest.told;
        messages = rest.message_faults;
      }

  -- an input call failed, or a file has no text
  pub missed_worked : ((o : Outcome) → p.comes o → Status o (Rose old.input_faults mid.input_faults)
      (Rose old.output_faults mid.output_faults) 4) → old.input_faults ≤ mid.input_faults → OnlyInput old mid
      → IsWorked p old mid InputFault
  missed_worked status later rest =
      quiet_worked InputFault (λ le. absurd (omega (arith, le))) (λ e. absurd (omega (arith, e))) status (λ o h. refl)
      (λ q. absurd (elim q [ inl le ↦ omega (arith, le) | inr e ↦ omega (arith, e) ])) later (λ lt. refl) rest

  pub memory_worked : ((o : Outcome) → p.comes o → IsKnown o) → mid.input_faults ≡ old.input_faults → OnlyInput old mid → IsWorked p old mid NoMemory
  memory_worked known same rest =
      quiet_worked NoMemory (λ le. absurd (omega (arith, le))) (λ e. absurd (omega (arith, e))) (λ o h. memory_status o _ _ (known o h)) (λ o h. refl)
      (λ q. absurd (elim q [ inl le ↦ omega (arith, le) | inr e ↦ omega (arith, e) ])) (omega (arith, same)) (λ lt. absurd (omega (arith, lt, same))) rest

  pub refused_worked : (refusal : Refusal) → HasComeTo p judges old mid (Refused refusal.line) → IsWorked p old mid (IsRefusal refusal)
  refused_worked refusal j =
      quiet_worked (IsRefusal refusal) (λ le. absurd (omega (arith, le))) (λ e. absurd (omega (arith, e)))
      (λ o h. elim (j.knows o h) [ inl e ↦ rw e (inr (inr (inl refl))) | inr e ↦ rw e (inl refl) ]) (λ o h. elim (j.knows o h) [ inl e ↦ rw e tt | inr e ↦ rw e refl ])
      (λ q text is. j.left text is) (omega (arith, j.same)) (λ lt. absurd (omega (arith, lt, j.same))) j.rest

  done_worked : (new : Meaning) (verdict : Bool) (bytes : List ℕ) → HasComeTo p judges old mid (Done verdict bytes)
      → (verdict ≡ true) ⊎ IsTrue judges → ByVerdict verdict (p.means bytes) p.denies → HasWritten bytes mid new
      → IsWorked p old new (IsDone verdict)
  done_worked new verdict bytes j may means h =
      let all : Appends old.written new.written bytes = subst (λ (w : Option (List ℕ)). Appends w new.written bytes) j.rest.written h.all in
      let le : verdict_status verdict ≤ 1 = low verdict in
      record {
        status = λ o c. elim (j.knows o c) [ inl e ↦ rw e (untold_verdict judges verdict _ _ may) | inr e ↦ rw e (inl refl) ];
        written = λ o c. elim (j.knows o c) [ inl e ↦ rw e tt | inr e ↦ rw e (λ one. all, λ five. absurd (not_five _ le five)) ];
        line = λ o c. no_line o (verdict_status verdict) _ le;
        quiet = λ q. absurd (not_quiet _ le q);
        left = λ q text is. h.rest.left ∙ j.left text is;
        means = λ e other c. meant verdict p.means p.denies judges bytes other means e (j.knows (Done true other) c);
        denies = denied verdict (p.means bytes) p.denies means;
        input_later = omega (arith, j.same, h.rest.input_faults);
        output_later = omega (arith, h.count, j.rest.output_faults);
        input = λ lt. absurd (omega (arith, lt, j.same, h.rest.input_faults));
        output = λ lt. absurd (omega (arith, lt, h.count, j.rest.output_faults));
        texts = h.rest.texts ∙ j.rest.texts;
        told = h.rest.told ∙ j.rest.told;
        messages = h.rest.message_faults ∙ j.rest.message_faults;
      }

  output_worked : (new : Meaning) (verdict : Bool) (bytes : List ℕ) → HasComeTo p judges old mid (Done verdict bytes) → HasStopped bytes mid new → IsWorked p old new OutputFault
  output_worked new verdict bytes j h =
      let front : AppendsPart old.written new.written bytes = subst (λ (w : Option (List ℕ)). AppendsPart w new.written bytes) j.rest.written h.part in
      let up : Rose old.output_faults new.output_faults = subst (λ (n : ℕ). Rose n new.output_faults) j.rest.output_faults h.rose in
      record {
        status = λ o c. elim (j.knows o c) [ inl e ↦ rw e (inr (inr (inr (inr (inr (refl, up)))))) | inr e ↦ rw e (inr (inr (inr (refl, up)))) ];
        written = λ o c. elim (j.knows o c) [ inl e ↦ rw e tt | inr e ↦ rw e (λ le. absurd (omega (arith, le)), λ five. front) ];
        line = λ o c. refl;
        quiet = λ q. absurd (five_is_loud q);
        left = λ q text is. h.rest.left ∙ j.left text is;
        means = λ e. absurd (omega (arith, e));
        denies = λ e. absurd (omega (arith, e));
        input_later = omega (arith, j.same, h.rest.input_faults);
        output_later = omega (arith, h.later, j.rest.output_faults);
        input = λ lt. absurd (omega (arith, lt, j.same, h.rest.input_faults));
        output = λ lt. refl;
        texts = h.rest.texts ∙ j.rest.texts;
        told = h.rest.told ∙ j.rest.told;
        messages = h.rest.message_faults ∙ j.rest.message_faults;
      }

  -- the bytes of the outcome were written, or an output call failed
  pub wrote_worked : (new : Meaning) (verdict : Bool) (bytes : List ℕ) (answer : Answer)
      → HasComeTo p judges old mid (Done verdict bytes) → (verdict ≡ true) ⊎ IsTrue judges
      → ByVerdict verdict (p.means bytes) p.denies → EndsWriting verdict bytes mid new answer → IsWorked p old new answer
  wrote_worked new verdict bytes answer j may means (inl h) = rw h.0 (done_worked new verdict bytes j may means h.1)
  wrote_worked new verdict bytes answer j may means (inr h) = rw h.0 (output_worked new verdict bytes j h.1)

-- ---- statuses

done_status : (holds : Bool) → (verdict_status holds ≢ 3) × (verdict_status holds ≢ 4)
done_status true = (λ e. absurd (omega (arith, e)), λ e. absurd (omega (arith, e)))
done_status false = (λ e. absurd (omega (arith, e)), λ e. absurd (omega (arith, e)))

-- where all files were read, words are known and no input call failed
pub ends_status : {T : Type 0} (bytes : T → List ℕ) (judged : Result (Bool × T) (Stop Refusal)) (old new : Meaning)
    (answer : Answer) → EndsBy bytes judged old new answer → (status_of answer ≢ 3) × (status_of answer ≢ 4)
ends_status bytes (Ok t) old new answer (inl h) = rw h.0 (done_status t.0)
ends_status bytes (Ok t) old new answer (inr h) = rw h.0 (λ e. absurd (omega (arith, e)), λ e. absurd (omega (arith, e)))
ends_status bytes (Err (Fault refusal)) old new answer h = rw h.0 (λ e. absurd (omega (arith, e)), λ e. absurd (omega (arith, e)))
ends_status bytes (Err Memory) old new answer h = rw h.0 (λ e. absurd (omega (arith, e)), λ e. absurd (omega (arith, e)))
