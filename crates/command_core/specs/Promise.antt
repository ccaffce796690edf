-- What a command promises: what it comes to, and the headline over that.
use Rattle.std.specs.Prelude.{◌≡◌, ◌⊎◌, ◌↔◌, ℕ, ◌≤◌, Bool, true, false, List, codes}
use Rattle.std.specs.Io.KnownBytes.{Appends}
use Rattle.text_base.specs.Desk.{Meaning}
use Rattle.command_core.specs.Outcome.{Outcome, NoText, Refused, Done}
use Rattle.command_core.specs.Transfer.{TellsFront}

pub record Promise : Type 1 where
  -- it comes to this outcome
  pub comes : Outcome → Type 0
  -- this is the text that it starts last
  pub last : List ℕ → Type 0
  -- the step counter before it and after it
  pub counts : ℕ → ℕ → Type 0
  -- what is true of the bytes that it is done with, where the status is 0
  pub means : List ℕ → Type 0
  -- what is true where it is done with status 1
  pub denies : Type 0

-- it comes to this outcome; nothing is written, and this line is told
pub record Tells (p : Promise) (old new : Meaning) (outcome : Outcome)
    (line : List ℕ) : Type 0 where
  pub comes : p.comes outcome
  pub quiet : new.written ≡ old.written
  pub told : TellsFront old.told new.told old.message_faults new.message_faults line

-- The headline. The answer is 0 exactly where the command comes to bytes with the verdict yes, and
-- 1 exactly where it comes to bytes with another verdict; then these bytes are written, nothing is
-- told, and they mean what they should. In every other case the input is refused with its line or
-- has a file without a text, and nothing is written.
pub record Answers (p : Promise) (old new : Meaning) (status : ℕ) : Type 0 where
  pub done : (status ≡ 0) ↔ ((bytes : List ℕ) × p.comes (Done true bytes))
  pub denied : (status ≡ 1) ↔ ((bytes : List ℕ) × p.comes (Done false bytes))
  pub wrote : (holds : Bool) (bytes : List ℕ) → p.comes (Done holds bytes)
      → Appends old.written new.written bytes × (new.told ≡ old.told)
  pub means : (bytes : List ℕ) → p.comes (Done true bytes) → p.means bytes
  pub denies : status ≡ 1 → p.denies
  pub other : (status ≤ 1) ⊎ ((line : List ℕ) × (status ≡ 2) × Tells p old new (Refused line) line)
      ⊎ ((status ≡ 4) × Tells p old new NoText (codes "input fault\n"))
