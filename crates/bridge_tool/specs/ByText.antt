-- Commands of one file, by the text of that file alone.
use Rattle.std.specs.Prelude.{◌≡◌, ◌⊎◌, ◌↔◌, ℕ, true, List}
use Rattle.command_core.specs.Outcome.{Done, Refused}
use Rattle.command_core.specs.Promise.{Promise}

-- A command that reads this text comes to the bytes with which what the text says is accepted.
-- It is refused with the line of the text's fault, or with one with which what the text says is
-- denied. Of a text that is refused no step is counted; of any other those that what it says needs.
-- What a 0 means holds of what the text says.
pub record IsByText {V : Type 0} (reads : List ℕ → V → Type 0) (refuses : List ℕ → List ℕ → Type 0)
    (accepts denies : V → List ℕ → Type 0) (counts : V → ℕ → ℕ → Type 0) (holds : V → Type 0)
    (text : List ℕ) (p : Promise) : Type 0 where
  pub done : (bytes : List ℕ)
      → p.comes (Done true bytes) ↔ ((value : V) × (reads text value × accepts value bytes))
  pub refused : (line : List ℕ) → p.comes (Refused line)
      ↔ (refuses text line ⊎ ((value : V) × (reads text value × denies value line)))
  pub steps : (old new : ℕ) → p.counts old new → (value : V) → reads text value
      → counts value old new
  pub unread : (old new : ℕ) → p.counts old new → (line : List ℕ) → refuses text line → new ≡ old
  pub means : (bytes : List ℕ) → p.means bytes → (value : V) → reads text value → holds value

-- the same where each value is accepted, with its one written text, and no step is counted
abbrev pub IsWritingByText : {V : Type 0} → (reads : List ℕ → V → Type 0)
    → (refuses : List ℕ → List ℕ → Type 0) → (write : V → List ℕ) → (holds : V → Type 0)
    → (text : List ℕ) → Promise → Type 0
IsWritingByText reads refuses write holds =
    IsByText reads refuses (λ value bytes. bytes ≡ write value) (λ value line. ⊥)
    (λ value old new. new ≡ old) holds
