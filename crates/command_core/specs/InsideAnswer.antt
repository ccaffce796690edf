-- How a command ends: its status, its line, and what it did.
use Rattle.std.specs.Prelude.{◌≡◌, ◌≢◌, ◌⊎◌, ◌<◌, ◌≤◌, ℕ, Bool, true, List, [], codes, drop, IfSome, Some, Result, Ok, Err}
use Rattle.std.specs.Global.{Vec}
use Rattle.std.specs.List.{flat_map}
use Rattle.std.specs.Io.KnownBytes.{Appends}
use Rattle.text_base.specs.Desk.{Meaning, OnlyOutput, Rose}
use Rattle.text_base.specs.declared.stop.Stop.{Stop}
use Rattle.text_base.specs.declared.stop.Stop.TheVariants.{Fault, Memory}
use Rattle.command_core.specs.declared.refused.Refusal.{Refusal}
use Rattle.command_core.specs.Outcome.{Outcome, Done as IsDone, Status, Written, IsQuiet, told_line, verdict_status}
use Rattle.command_core.specs.Promise.{Promise}
use Rattle.command_core.specs.Transfer.{AppendsPart}
use Rattle.command_core.specs.declared.answer.Answer.{Answer}
use Rattle.command_core.specs.declared.answer.Answer.TheVariants.{Done, Refused, BadWords, InputFault, OutputFault, NoMemory}
use Rattle.command_core.specs.declared.transfer.TheConstants.{LIMIT}
use Rattle.command_core.specs.declared.transfer.Unread.{Unread}
use Rattle.command_core.specs.declared.transfer.Unread.TheVariants.{Fault as UnreadFault, Memory as UnreadMemory}

abbrev pub status_of : Answer → ℕ
status_of (Done holds) = verdict_status holds
status_of (Refused refusal) = 2
status_of BadWords = 3
status_of InputFault = 4
status_of OutputFault = 5
status_of NoMemory = 6

-- the line to tell, which is empty where nothing is told
abbrev pub told_by : Answer → List ℕ
told_by (Done holds) = []
told_by (Refused refusal) = refusal.line
told_by BadWords = codes "bad words\n"
told_by InputFault = codes "input fault\n"
told_by OutputFault = codes "output fault\n"
told_by NoMemory = codes "no memory\n"

-- the command with this promise was worked, but for its line
pub record IsWorked (p : Promise) (old new : Meaning) (answer : Answer) : Type 0 where
  pub status : (outcome : Outcome) → p.comes outcome
      → Status outcome (Rose old.input_faults new.input_faults)
      (Rose old.output_faults new.output_faults) (status_of answer)
  pub written : (outcome : Outcome) → p.comes outcome
      → Written outcome old.written new.written (status_of answer)
  pub line : (outcome : Outcome) → p.comes outcome
      → IfSome (told_line outcome (status_of answer)) (λ line. line ≡ told_by answer)
  pub quiet : IsQuiet (status_of answer) → new.written ≡ old.written
  pub left : (status_of answer ≤ 2) ⊎ (status_of answer ≡ 5) → (text : List ℕ) → p.last text
      → new.left ≡ Some (drop LIMIT text)
  pub means : status_of answer ≡ 0 → (bytes : List ℕ) → p.comes (IsDone true bytes)
      → p.means bytes
  pub denies : status_of answer ≡ 1 → p.denies
  pub input_later : old.input_faults ≤ new.input_faults
  pub output_later : old.output_faults ≤ new.output_faults
  pub input : old.input_faults < new.input_faults → status_of answer ≡ 4
  pub output : old.output_faults < new.output_faults → status_of answer ≡ 5
  pub texts : new.texts ≡ old.texts
  pub told : new.told ≡ old.told
  pub messages : new.message_faults ≡ old.message_faults

-- the same, of words that are known, with the steps before it and after it
pub record IsCounted (p : Promise) (old new : Meaning) (before now : ℕ)
    (answer : Answer) : Type 0 where
  pub worked : IsWorked p old new answer
  pub known : status_of answer ≢ 3
  pub above : before ≤ now
  pub counts : p.counts before now
  pub idle : status_of answer ≡ 4 → now ≡ before

-- the same of a command that counts no steps
pub record IsAtRest (p : Promise) (old new : Meaning) (answer : Answer) : Type 0 where
  pub worked : IsWorked p old new answer
  pub known : status_of answer ≢ 3
  pub counts : (n : ℕ) → p.counts n n

-- ---- ends

-- the answer where a text was not read
abbrev pub Missed : Unread → Answer → Type 0
Missed UnreadFault answer = answer ≡ InputFault
Missed UnreadMemory answer = answer ≡ NoMemory

-- all the bytes were written
pub record HasWritten (bytes : List ℕ) (old new : Meaning) : Type 0 where
  pub all : Appends old.written new.written bytes
  pub count : new.output_faults ≡ old.output_faults
  pub rest : OnlyOutput old new

-- an output call failed, and a part of the bytes was written
pub record HasStopped (bytes : List ℕ) (old new : Meaning) : Type 0 where
  pub part : AppendsPart old.written new.written bytes
  pub later : old.output_faults ≤ new.output_faults
  pub rose : Rose old.output_faults new.output_faults
  pub rest : OnlyOutput old new

-- the end of a command with this verdict and these bytes
abbrev pub EndsWriting : Bool → List ℕ → Meaning → Meaning → Answer → Type 0
EndsWriting verdict bytes old new answer = ((answer ≡ Done verdict) × HasWritten bytes old new)
    ⊎ ((answer ≡ OutputFault) × HasStopped bytes old new)

-- the end of a command that was judged so: this verdict with the bytes of a T, or a refusal
abbrev pub EndsBy : {T : Type 0} → (T → List ℕ) → Result (Bool × T) (Stop Refusal)
    → Meaning → Meaning → Answer → Type 0
EndsBy bytes (Ok t) old new answer = EndsWriting t.0 (bytes t.1) old new answer
EndsBy bytes (Err (Fault refusal)) old new answer = (answer ≡ Refused refusal) × (new ≡ old)
EndsBy bytes (Err Memory) old new answer = (answer ≡ NoMemory) × (new ≡ old)

-- this verdict with these bytes, or a refusal
abbrev pub Ends : Result (Bool × Vec ℕ) (Stop Refusal) → Meaning → Meaning → Answer → Type 0
Ends judged old new answer = EndsBy (λ v. v.items) judged old new answer

-- the same, with the bytes in pieces
abbrev pub EndsInPieces : Result (Bool × Vec (Vec ℕ)) (Stop Refusal) → Meaning → Meaning
    → Answer → Type 0
EndsInPieces judged old new answer =
    EndsBy (λ v. flat_map (λ p. p.items) v.items) judged old new answer
