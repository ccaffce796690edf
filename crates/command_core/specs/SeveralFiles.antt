-- Commands that read files, one or several.
--
-- A command that reads files one after another is a promise that is built from its end:
--   `ends texts file comes counts means`: the files were read, `file` last, and the command comes
--     to this; `writes texts file bytes means` where it always writes these bytes, and
--     `judges_last (texts file) comes counts means denies` where it gives a verdict;
--   `after_file reads refuses texts file next`: this file is read. A text that it refuses ends the
--     command with its line; else the text says one value, and the rest of the command is
--     `next value`, which may read a further file;
--   `saying means p`: p, where a yes means this;
--   `desk_promise judges known`: the whole, at a desk that tells its texts (`known`) or not.
-- So a fault of a file comes before the next file is started, and a reader may depend on the values
-- before it.
--
-- A further command of files f, g (see `Check`):
--   x_told f g texts =
--     after_file IsF RefusesF texts f (λ a.
--     after_file (IsG a) (RefusesG a) texts g (λ b. ends texts g (X a b) ..))
--   x_promise texts f g = desk_promise judges (x_told f g) texts
-- where `judges` says whether it gives a verdict, with status 1 for one that is not yes, and `X` is
-- an outcome (`λ outcome. outcome ≡ x a b`) or `DoneOrRefused` of what is written and which lines
-- tell why it is not.
-- In code: open each file (`open_nl`, `open_sol`; a new one is like them, with `open` and the
-- clause `ReadsFile`), return the answer of one that ends the command, judge the values, and end
-- with `end`.
-- In proofs (`proofs/SeveralFiles`): `AreRead` for each file, and `IsLast` for the last with what
-- its value comes to. From these `only_..` gives each clause of a command of one file, `both_..` of
-- one of two; else `first_..` begins, `further` goes on, and `last_..` ends.
use Rattle.std.specs.Prelude.{◌≡◌, ◌⊎◌, ◌≤◌, ℕ, Bool, true, false, List, take, option_map, IsSomeAnd, Result, Ok, Err, MatchResult}
use Rattle.std.specs.Global.{Vec}
use Rattle.std.specs.List.{flat_map}
use Rattle.std.specs.declared.option.Option.{Option}
use Rattle.std.specs.declared.option.Option.TheVariants.{None, Some}
use Rattle.text_base.specs.Desk.{IsUnknown, Meaning, OnlyInput, Rose, Texts}
use Rattle.text_base.specs.Judged.{Rules}
use Rattle.text_base.specs.Reading.{HasFault}
use Rattle.text_base.specs.declared.fault.TextFault.{TextFault}
use Rattle.text_base.specs.declared.stop.Stop.{Stop}
use Rattle.text_base.specs.declared.stop.Stop.TheVariants.{Fault, Memory}
use Rattle.command_core.specs.InsideRefusal.{Gives}
use Rattle.command_core.specs.declared.refused.Refusal.{Refusal}
use Rattle.command_core.specs.Outcome.{Outcome, Untold, NoText, Refused as IsRefusal, Done as IsDone}
use Rattle.command_core.specs.Promise.{Promise}
use Rattle.command_core.specs.Told.{TellsFault}
use Rattle.command_core.specs.Transfer.{ReadsFront}
use Rattle.command_core.specs.declared.answer.Answer.{Answer}
use Rattle.command_core.specs.declared.answer.Answer.TheVariants.{Refused, InputFault, NoMemory}
use Rattle.command_core.specs.declared.transfer.TheConstants.{LIMIT}

-- ---- promises

-- what a command meets in a text: there is none, it is refused with a line, or it says a value
pub data Reached (V : Type 0) : Type 0 where
  no_text : Reached V
  refused_with : (line : List ℕ) → Reached V
  has_said : V → Reached V

module _ {V : Type 0} (reads : List ℕ → V → Type 0) (refuses : List ℕ → List ℕ → Type 0) where
  -- which of them it is
  abbrev pub Meets : Option (List ℕ) → Reached V → Type 0
  Meets found no_text = found ≡ None
  Meets found (refused_with line) = IsSomeAnd found (λ text. refuses text line)
  Meets found (has_said value) = IsSomeAnd found (λ text. reads text value)

-- it comes to this, this text was started last, if one was, and a verdict is given
abbrev pub judges_last : (started : Option (List ℕ)) → (comes : Outcome → Type 0)
    → (counts : ℕ → ℕ → Type 0) → (means : List ℕ → Type 0) → (denies : Type 0) → Promise
judges_last started comes counts means denies = record {
  comes = comes;
  last = λ text. started ≡ Some text;
  counts = counts;
  means = means;
  denies = denies;
}

-- the same where neither 0 nor 1 can come, and no step is counted
abbrev pub stops : Option (List ℕ) → (comes : Outcome → Type 0) → Promise
stops started comes = judges_last started comes (λ old new. new ≡ old) (λ bytes. ⊥) ⊥

module _ {V : Type 0} (started : Option (List ℕ)) (next : V → Promise) where
  -- a command without a text comes to `NoText`; one whose text is refused comes to that refusal;
  -- and a value leads to what is next
  abbrev pub by_reached : Reached V → Promise
  by_reached no_text = stops None (λ outcome. outcome ≡ NoText)
  by_reached (refused_with line) = stops started (λ outcome. outcome ≡ IsRefusal line)
  by_reached (has_said value) = next value

module _ {A : Type 0} (is_met : A → Type 0) (promise : A → Promise) where
  -- the promise of the one that is met
  abbrev pub of_met : Promise
  of_met = record {
    comes = λ outcome. (a : A) × (is_met a × (promise a).comes outcome);
    last = λ text. (a : A) × (is_met a × (promise a).last text);
    counts = λ old new. (a : A) × (is_met a × (promise a).counts old new);
    means = λ bytes. (a : A) × (is_met a × (promise a).means bytes);
    denies = (a : A) × (is_met a × (promise a).denies);
  }

module _ {V : Type 0} (reads : List ℕ → V → Type 0) (refuses : List ℕ → List ℕ → Type 0) where
  -- a file is read, and its first bytes, up to the limit, decide
  abbrev pub after_file : Texts → List ℕ → (next : V → Promise) → Promise
  after_file texts file next =
      of_met (Meets reads refuses (option_map (take LIMIT) (texts file)))
      (by_reached (texts file) next)

-- all files were read, this one last, and there is no verdict
abbrev pub ends : Texts → List ℕ → (comes : Outcome → Type 0) → (counts : ℕ → ℕ → Type 0)
    → (means : Type 0) → Promise
ends texts file comes counts means =
    judges_last (texts file) comes counts (λ bytes. means) (Unit {0})

-- the same, and these bytes are written; no steps are counted
abbrev pub writes : Texts → List ℕ → (bytes : List ℕ) → (means : Type 0) → Promise
writes texts file bytes means =
    ends texts file (λ outcome. outcome ≡ IsDone true bytes) (λ old new. new ≡ old) means

-- the promise with this meaning of a yes
abbrev pub saying : (List ℕ → Type 0) → Promise → Promise
saying means p = record p { means = means }

-- P holds of the first bytes, up to the limit, of the text of this name
abbrev pub IsTextOf : Texts → List ℕ → (P : List ℕ → Type 0) → Type 0
IsTextOf texts name P = IsSomeAnd (option_map (take LIMIT) (texts name)) P

-- a desk does not tell its texts
abbrev pub untold : Bool → Promise
untold judges =
    judges_last None (λ outcome. outcome ≡ Untold judges) (λ old new. Unit {0})
    (λ bytes. Unit {0}) (Unit {0})

-- the promise at a desk that tells its texts, or does not
abbrev pub desk_promise : (judges : Bool) → (known : Texts → Promise) → Option Texts → Promise
desk_promise judges known None = untold judges
desk_promise judges known (Some texts) = known texts

-- ---- code

abbrev pub itself : {V : Type 0} → V → V
itself v = v

-- the text has a first fault by a grammar's rules, and the line tells it so
abbrev pub IsRefusedBy : {R : Type 0} → Rules R → (TextFault R → List ℕ) → List ℕ → List ℕ → Type 0
IsRefusedBy rules told text = TellsFault (HasFault rules text) told

-- what judging a text answers: what it says, seen so, or why it is refused
abbrev pub Says : {R V : Type 0} → (seen : R → V) → (reads : List ℕ → V → Type 0)
    → (refuses : List ℕ → List ℕ → Type 0) → List ℕ → Result R (Stop Refusal) → Type 0
Says seen reads refuses text = Gives (λ value. reads text (seen value)) (refuses text)

-- the same, with the answer that ends the command
abbrev pub Answered : {R : Type 0} → Result R (Stop Refusal) → Result R Answer → Type 0
Answered (Ok value) result = result ≡ Ok value
Answered (Err (Fault refusal)) result = result ≡ Err (Refused refusal)
Answered (Err Memory) result = result ≡ Err NoMemory

-- the file was read up to the limit, and its first bytes say this
pub record HasSaid {V : Type 0} (reads : List ℕ → V → Type 0) (file : List ℕ) (old new : Meaning)
    (value : V) : Type 0 where
  pub bytes : List ℕ
  pub read : ReadsFront old.texts file LIMIT bytes new.left
  pub says : reads bytes value
  pub same : new.input_faults ≡ old.input_faults

-- why a file ends the command
abbrev pub HasEnded : (refuses : List ℕ → List ℕ → Type 0) → List ℕ → Meaning → Meaning → Answer
    → Type 0
HasEnded refuses file old new (Refused refusal) =
    HasSaid refuses file old new refusal.line
HasEnded refuses file old new InputFault =
    Rose old.input_faults new.input_faults ⊎ IsUnknown old.texts file
HasEnded refuses file old new NoMemory = new.input_faults ≡ old.input_faults
HasEnded refuses file old new other = ⊥

-- What reading and judging a file did: its value, seen so, or the answer that ends the command.
pub record ReadsFile {R V : Type 0} (seen : R → V) (reads : List ℕ → V → Type 0)
    (refuses : List ℕ → List ℕ → Type 0) (file : List ℕ) (old new : Meaning)
    (result : Result R Answer) : Type 0 where
  pub rest : OnlyInput old new
  pub later : old.input_faults ≤ new.input_faults
  pub judged : MatchResult result (λ value. HasSaid reads file old new (seen value))
      (λ answer. HasEnded refuses file old new answer)

-- what a verdict means, by whether it is yes
abbrev pub ByVerdict : Bool → (means denies : Type 0) → Type 0
ByVerdict true means denies = means
ByVerdict false means denies = denies

-- what judging all values answers: a verdict with the bytes of a T to write, or a refusal
abbrev pub ComesBy : {T : Type 0} → (T → List ℕ) → (comes : Outcome → Type 0)
    → Result (Bool × T) (Stop Refusal) → Type 0
ComesBy bytes comes = Gives (λ t. comes (IsDone t.0 (bytes t.1))) (λ line. comes (IsRefusal line))

-- a verdict with the bytes to write, or a refusal
abbrev pub Comes : (comes : Outcome → Type 0) → Result (Bool × Vec ℕ) (Stop Refusal) → Type 0
Comes comes = ComesBy (λ v. v.items) comes

-- the same, with the bytes in pieces
abbrev pub ComesInPieces : (comes : Outcome → Type 0)
    → Result (Bool × Vec (Vec ℕ)) (Stop Refusal) → Type 0
ComesInPieces comes = ComesBy (λ v. flat_map (λ p. p.items) v.items) comes
