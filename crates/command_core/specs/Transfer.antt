-- What the loops over a desk do.
use Rattle.std.specs.Prelude.{◌≡◌, ◌⊎◌, ℕ, ◌<◌, ◌≤◌, List, ◌++◌, take, drop, length, Result, OnOk, IfErr, MatchResult}
use Rattle.std.specs.declared.option.Option.{Option}
use Rattle.std.specs.declared.option.Option.TheVariants.{None, Some}
use Rattle.std.specs.Io.KnownBytes.{Appends}
use Rattle.text_base.specs.Desk.{Texts, Rose}
use Rattle.command_core.specs.declared.transfer.Unread.{Unread}
use Rattle.command_core.specs.declared.transfer.Unread.TheVariants.{Fault, Memory}

-- known bytes grow by a front of these bytes that is not all of them
abbrev pub AppendsPart : Option (List ℕ) → Option (List ℕ) → List ℕ → Type 0
AppendsPart old new bytes = (k : ℕ) × (k < length bytes) × Appends old new (take k bytes)

-- all the bytes were appended, or a part of them where the result is an error
abbrev pub AppendsAll : {T E : Type 0} → Option (List ℕ) → Option (List ℕ) → Result T E → List ℕ
    → Type 0
AppendsAll old new result bytes =
    MatchResult result (λ _. Appends old new bytes) (λ _. AppendsPart old new bytes)

-- all of the line was told, or a front of it where the count of message faults rose
abbrev pub TellsFront : Option (List ℕ) → Option (List ℕ) → ℕ → ℕ → List ℕ → Type 0
TellsFront old new before now line =
    Appends old new line ⊎ (Rose before now × AppendsPart old new line)

-- of what was left, so many bytes and no more were read, as far as they go, and the rest is left
abbrev pub ReadsToLimit : Option (List ℕ) → Option (List ℕ) → ℕ → List ℕ → Type 0
ReadsToLimit None new limit bytes = Unit {0}
ReadsToLimit (Some text) new limit bytes =
    (bytes ≡ take limit text) × (new ≡ Some (drop limit text))

-- the first bytes of the named text were read, and the rest of it is left
pub record IsFrontRead (texts : Texts) (name : List ℕ) (limit : ℕ) (bytes : List ℕ)
    (left : Option (List ℕ)) : Type 0 where
  pub text : List ℕ
  pub named : texts name ≡ Some text
  pub front : bytes ≡ take limit text
  pub rest : left ≡ Some (drop limit text)

-- the same, where the desk tells its texts
abbrev pub ReadsFront : Option Texts → List ℕ → ℕ → List ℕ → Option (List ℕ) → Type 0
ReadsFront None name limit bytes left = Unit {0}
ReadsFront (Some texts) name limit bytes left = IsFrontRead texts name limit bytes left

-- a reader took what was left, up to the limit
pub record FeedsToLimit (old new : Option (List ℕ)) (limit : ℕ)
    (before after : List ℕ → Type 0) : Type 0 where
  pub bytes : List ℕ
  pub read : ReadsToLimit old new limit bytes
  pub fed : (text : List ℕ) → before text → after (text ++ bytes)

-- a reader took the first bytes of the named text, up to the limit
pub record FeedsText (texts : Option Texts) (name : List ℕ) (limit : ℕ) (left : Option (List ℕ))
    (before after : List ℕ → Type 0) : Type 0 where
  pub bytes : List ℕ
  pub read : ReadsFront texts name limit bytes left
  pub fed : (text : List ℕ) → before text → after (text ++ bytes)

-- what the count of input faults is where reading stopped so; a name that the desk does not have is
-- a fault too
abbrev pub HasStopCause : Type 0 → ℕ → ℕ → Unread → Type 0
HasStopCause unknown before now Fault = Rose before now ⊎ unknown
HasStopCause unknown before now Memory = now ≡ before

-- a fault has a cause, and without one the count of input faults stays
pub record HasReadCause {T : Type 0} (unknown : Type 0) (before now : ℕ)
    (result : Result T Unread) : Type 0 where
  pub later : before ≤ now
  pub ok : OnOk result (now ≡ before)
  pub stop : IfErr result (HasStopCause unknown before now)

-- a reader was fed the first bytes of the named text, up to the limit
pub record HasRead (texts : Option Texts) (name : List ℕ) (limit : ℕ) (left : Option (List ℕ))
    (fed : List ℕ → Type 0) : Type 0 where
  pub bytes : List ℕ
  pub read : ReadsFront texts name limit bytes left
  pub taken : fed bytes
