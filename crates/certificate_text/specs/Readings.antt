-- What a text says by the rules of a grammar.
use Rattle.std.specs.Prelude.{◌≡◌, ◌⊎◌, ℕ, List}
use Rattle.text_base.specs.declared.fault.TextFault.{TextFault}
use Rattle.text_base.specs.Judged.{Rules}
use Rattle.text_base.specs.Reading.{IsRead, HasFault}

-- The text says one value, or has one first fault, and never both.
pub record HasOneReading {R V : Type 0} (rules : Rules R) (says : List (List ℕ) → V → Type 0)
    (text : List ℕ) : Type 0 where
  pub some : ((v : V) × IsRead rules says text v)
      ⊎ ((fault : TextFault R) × HasFault rules text fault)
  pub not_both : (v : V) (fault : TextFault R) → IsRead rules says text v
      → HasFault rules text fault → ⊥
  pub one_value : (v w : V) → IsRead rules says text v → IsRead rules says text w → v ≡ w
  pub one_fault : (a b : TextFault R) → HasFault rules text a → HasFault rules text b → a ≡ b
