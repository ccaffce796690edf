-- What the stages of an export answer.
use Rattle.std.specs.Prelude.{◌≡◌, ◌⊎◌, ℕ, List, if◌then◌else◌, Result, Some, None}
use Rattle.linear_program.specs.Linear.{Linear}
use Rattle.text_base.specs.declared.stop.Stop.{Stop}
use Rattle.nl_model.specs.FoldFaults.{fold_fault, has_objective}
use Rattle.nl_model.specs.LinearFile.{linear_of}
use Rattle.linear_fold.specs.FoldedFaults.{first_fold_fault, step_bound}
use Rattle.linear_program.specs.Programs.{LinearValue, linear_value}
use Rattle.nl_segments.specs.Grammar.{NlValue}
use Rattle.row_scaling.specs.Scaled.{ScaledValue}
use Rattle.row_scaling.specs.Scaling.{HasNoScaleFault, HasScaleFault, IsScaledOf}
use Rattle.command_core.specs.InsideRefusal.{Gives}
use Rattle.command_core.specs.declared.refused.Refusal.{Refusal}
use Rattle.command_parts.specs.NlTold.{fold_line, scale_line}
use Rattle.command_core.specs.Told.{TellsFault}

-- the file folds, to this linear program
pub record HasFolded (value : NlValue) (k : ℕ) (l : LinearValue) : Type 0 where
  pub fine : fold_fault value.file k ≡ None
  pub linear : linear_value l ≡ linear_of value.file k

-- this line tells the first expression of the file that is not linear or does not fit
abbrev pub HasFoldFault : NlValue → ℕ → List ℕ → Type 0
HasFoldFault value k =
    TellsFault (λ fault. first_fold_fault value.file k ≡ Some fault) (fold_line value.places)

-- what folding answers
abbrev pub Folds : NlValue → ℕ → Result LinearValue (Stop Refusal) → Type 0
Folds value k = Gives (HasFolded value k) (HasFoldFault value k)

-- the linear program scales, to this scaled one
pub record HasScaled (f : Linear) (s : ScaledValue) : Type 0 where
  pub fine : HasNoScaleFault f
  pub scaled : IsScaledOf f s

-- the file folds with objective k but does not scale: this line tells the first row, or else the
-- objective, no multiple of which is decimal and fits
pub record IsUnscaled (value : NlValue) (k : ℕ) (line : List ℕ) : Type 0 where
  pub folded : fold_fault value.file k ≡ None
  pub first : TellsFault (HasScaleFault (linear_of value.file k)) (scale_line k) line

-- the file folds and scales with objective k
pub record CanBeExported (value : NlValue) (k : ℕ) : Type 0 where
  pub folded : fold_fault value.file k ≡ None
  pub scaled : HasNoScaleFault (linear_of value.file k)

-- the file does not fold, or does not scale, and this line tells why
abbrev pub CannotBeExported : NlValue → ℕ → List ℕ → Type 0
CannotBeExported value k line = HasFoldFault value k line ⊎ IsUnscaled value k line

-- so many steps the fold may count, at most: none where there is no objective k
abbrev pub fold_steps : NlValue → ℕ → ℕ
fold_steps value k = if has_objective value.file k then step_bound value.file else 0

-- what scaling answers
abbrev pub Scales : Linear → ℕ → Result ScaledValue (Stop Refusal) → Type 0
Scales f k = Gives (HasScaled f) (TellsFault (HasScaleFault f) (scale_line k))
