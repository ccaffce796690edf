-- Which lines are told of a text that is refused.
use Rattle.std.specs.Prelude.{◌≡◌, ◌⊎◌, ℕ, List, codes}
use Rattle.text_base.specs.Reading.{IsLineOf}
use Rattle.command_core.specs.Told.{refusal}

-- what is told of a text, which is this file of its command, names one of its lines, and why
pub record TellsLine (file : ℕ) (text told : List ℕ) : Type 0 where
  pub line : ℕ
  pub why : List ℕ
  pub of_text : IsLineOf text line
  pub same : told ≡ refusal file (codes "line") line why

-- it names something else than a line, and why
pub record TellsOther (what told : List ℕ) : Type 0 where
  pub number : ℕ
  pub why : List ℕ
  pub same : told ≡ refusal 1 what number why

-- a line of the text, which is the first file, a row, or the objective
abbrev pub TellsPlace : List ℕ → List ℕ → Type 0
TellsPlace text told =
    TellsLine 1 text told ⊎ TellsOther (codes "row") told ⊎ TellsOther (codes "objective") told
