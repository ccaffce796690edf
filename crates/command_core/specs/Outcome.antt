-- What a command comes to, and what its answer says of the desk.
use Rattle.std.specs.Prelude.{◌≡◌, ◌⊎◌, ◌==◌, ℕ, ◌≤◌, Bool, true, IsTrue, List, codes, if◌then◌else◌, IfSome}
use Rattle.std.specs.declared.option.Option.{Option}
use Rattle.std.specs.declared.option.Option.TheVariants.{None, Some}
use Rattle.std.specs.Io.KnownBytes.{Appends}
use Rattle.command_core.specs.Transfer.{AppendsPart, TellsFront}

pub data Outcome : Type 0 where
  -- the words are in no row of the command table
  BadWords : Outcome
  -- the desk does not tell its texts; judges says whether the command gives a verdict
  Untold : (judges : Bool) → Outcome
  -- a file that is reached has no text
  NoText : Outcome
  -- the input is refused with this line
  Refused : (line : List ℕ) → Outcome
  -- these bytes are written, and the status says whether the verdict is yes
  Done : (holds : Bool) (bytes : List ℕ) → Outcome

-- done with bytes that are accepted, or refused with a line
abbrev pub DoneOrRefused : (accepts refuses : List ℕ → Type 0) → Outcome → Type 0
DoneOrRefused accepts refuses (Refused line) = refuses line
DoneOrRefused accepts refuses (Done true bytes) = accepts bytes
DoneOrRefused accepts refuses other = ⊥

-- the status of a verdict
abbrev pub verdict_status : Bool → ℕ
verdict_status holds = if holds then 0 else 1

-- Which statuses may come, and what each needs: input says that the count of input faults rose, and
-- output the same of output faults. Want of memory, 6, is free.
abbrev pub Status : Outcome → (input output : Type 0) → ℕ → Type 0
Status BadWords input output status = status ≡ 3
Status (Untold judges) input output status =
    (status ≡ 0) ⊎ (IsTrue judges × (status ≡ 1)) ⊎ (status ≡ 2) ⊎ (status ≡ 6)
    ⊎ ((status ≡ 4) × input) ⊎ ((status ≡ 5) × output)
Status NoText input output status = (status ≡ 4) ⊎ (status ≡ 6)
Status (Refused line) input output status = (status ≡ 2) ⊎ (status ≡ 6) ⊎ ((status ≡ 4) × input)
Status (Done holds bytes) input output status =
    (status ≡ verdict_status holds) ⊎ (status ≡ 6) ⊎ ((status ≡ 4) × input)
    ⊎ ((status ≡ 5) × output)

-- what is written with a status: all the bytes, or a part of them
abbrev pub Written : Outcome → Option (List ℕ) → Option (List ℕ) → ℕ → Type 0
Written BadWords old new status = Unit {0}
Written (Untold judges) old new status = Unit {0}
Written NoText old new status = Unit {0}
Written (Refused line) old new status = Unit {0}
Written (Done holds bytes) old new status =
    (status ≤ 1 → Appends old new bytes) × (status ≡ 5 → AppendsPart old new bytes)

-- a status with which nothing is written
abbrev pub IsQuiet : ℕ → Type 0
IsQuiet status = (status ≡ 2) ⊎ (status ≡ 3) ⊎ (status ≡ 4) ⊎ (status ≡ 6)

-- the line of a refusal, where it is known
abbrev pub refused_line : Outcome → Option (List ℕ)
refused_line BadWords = None
refused_line (Untold judges) = None
refused_line NoText = None
refused_line (Refused line) = Some line
refused_line (Done holds bytes) = None

-- the line that is told with a status
abbrev pub told_line : Outcome → ℕ → Option (List ℕ)
told_line outcome status =
    if status == 2 then refused_line outcome
    else if status == 3 then Some (codes "bad words\n")
    else if status == 4 then Some (codes "input fault\n")
    else if status == 5 then Some (codes "output fault\n")
    else if status == 6 then Some (codes "no memory\n")
    else None

-- what is told with a status
abbrev pub Told : Outcome → Option (List ℕ) → Option (List ℕ) → ℕ → ℕ → ℕ → Type 0
Told outcome old new before now status =
    IfSome (told_line outcome status) (TellsFront old new before now)
