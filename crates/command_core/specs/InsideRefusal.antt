-- What a call answers that may refuse the input.
use Rattle.std.specs.Prelude.{List, ℕ, Result, Ok, Err}
use Rattle.text_base.specs.declared.stop.Stop.{Stop}
use Rattle.text_base.specs.declared.stop.Stop.TheVariants.{Fault, Memory}
use Rattle.command_core.specs.declared.refused.Refusal.{Refusal}

-- A call answers a value of which P holds, or a refusal of whose line Q holds; of want of memory
-- nothing is said.
abbrev pub Gives : {R : Type 0} → (P : R → Type 0) → (Q : List ℕ → Type 0)
    → Result R (Stop Refusal) → Type 0
Gives P Q (Ok value) = P value
Gives P Q (Err (Fault refusal)) = Q refusal.line
Gives P Q (Err Memory) = Unit {0}
