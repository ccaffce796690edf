-- What a line does to the reader, and what it awaits.
use Rattle.std.specs.Prelude.{◌≡◌, ℕ, List, Option, Some, None, Result, Ok, Err}
use Rattle.text_base.specs.declared.stop.Stop.{Stop}
use Rattle.text_base.specs.declared.stop.Stop.TheVariants.{Fault, Memory}
use Rattle.nl_lines.specs.declared.awaited.Awaited.{Awaited}
use Rattle.nl_lines.specs.declared.awaited.Awaited.TheVariants.{Nothing}
use Rattle.nl_lines.specs.declared.fault.NlReason.{NlReason}
use Rattle.nl_segments.specs.Current.{Current, current_awaits}
use Rattle.nl_segments.specs.Grammar.{Standing, line_refusal}
use Rattle.nl_segments.specs.Held.{Body, IsHeld, Progress, HoldsStanding}
use Rattle.nl_segments.specs.Steps.{after}

-- what was held and what is held now of the lines so far, where one more is taken: nothing is wrong
-- with it; of want of memory nothing is said
abbrev pub Takes : (Standing → Type 0) → List ℕ → ℕ → Result (Unit {0}) (Stop NlReason)
    → (Standing → Type 0) → Type 0
Takes held line number (Ok u) holds =
    (s : Standing) → held s → (line_refusal s line ≡ None) × holds (after s number line)
Takes held line number (Err (Fault r)) holds =
    (s : Standing) → held s → line_refusal s line ≡ Some r
Takes held line number (Err Memory) holds = Unit {0}

-- a line of the body
abbrev pub TakesBodyLine : Body → List ℕ → ℕ → Result (Unit {0}) (Stop NlReason) → Body → Type 0
TakesBodyLine old line number result new =
    Takes (λ s. IsHeld s old) line number result (λ s. IsHeld s new)

-- any line
abbrev pub TakesLine : Progress → List ℕ → ℕ → Result (Unit {0}) (Stop NlReason) → Progress
    → Type 0
TakesLine old line number result new =
    Takes (λ s. HoldsStanding s old) line number result (λ s. HoldsStanding s new)

-- the line that the body awaits
abbrev pub body_awaits : Option Current → Awaited
body_awaits None = Nothing
body_awaits (Some cur) = current_awaits cur
