-- The lines that tell faults of .nl texts, of the fold and of scaling; an .nl file is the first of
-- its command.
use Rattle.std.specs.Prelude.{ℕ, ◌<◌, ◌≤◌, List, ◌++◌, codes, IsSome, IsSomeAnd, unwrap_or}
use Rattle.nl_model.specs.declared.at.At.{At}
use Rattle.nl_lines.specs.declared.fault.NlFault.{NlFault}
use Rattle.nl_lines.specs.Saying.{PlaceLines, place_line}
use Rattle.linear_fold.specs.declared.fold_fault.FoldFault.{FoldFault}
use Rattle.linear_fold.specs.declared.fold_fault.FoldFault.TheVariants.{Nonlinear, DivideByZero, TooWide, RefusedPower, FoldTooLarge, NoSuchObjective}
use Rattle.row_scaling.specs.declared.scale_fault.ScaleFault.{ScaleFault}
use Rattle.row_scaling.specs.declared.scale_fault.ScaleFault.TheVariants.{RowTooWide, ObjectiveTooWide}
use Rattle.nl_lines.specs.Reasons.{opcode_text, nl_reason_text}
use Rattle.linear_fold.specs.Reasons.{fold_fault_text}
use Rattle.row_scaling.specs.Reasons.{scale_fault_text as scale_text}
use Rattle.command_core.specs.Told.{refused_at, refusal}

-- the line of a fault of an .nl text
abbrev pub nl_line : NlFault → List ℕ
nl_line f =
    refused_at 1 (codes "line") f.line ++ nl_reason_text f.reason ++ opcode_text f.reason
    ++ codes "\n"

-- a fault at a place of the file, by the place's line; each place that is asked for has one
abbrev pub placed_line : PlaceLines → At → List ℕ → List ℕ
placed_line places at text = refusal 1 (codes "line") (unwrap_or (place_line places at) 0) text

-- the line of a fault of the fold
abbrev pub fold_line : PlaceLines → FoldFault → List ℕ
fold_line places (Nonlinear at) = placed_line places at (fold_fault_text (Nonlinear at))
fold_line places (DivideByZero at) = placed_line places at (fold_fault_text (DivideByZero at))
fold_line places (TooWide at) = placed_line places at (fold_fault_text (TooWide at))
fold_line places (RefusedPower at) = placed_line places at (fold_fault_text (RefusedPower at))
fold_line places (FoldTooLarge at) = placed_line places at (fold_fault_text (FoldTooLarge at))
fold_line places (NoSuchObjective k) =
    refusal 1 (codes "objective") k (fold_fault_text (NoSuchObjective k))

-- the place of a fault of the fold, where it has one, has a line
abbrev pub HasLine : PlaceLines → FoldFault → Type 0
HasLine places (Nonlinear at) = IsSome (place_line places at)
HasLine places (DivideByZero at) = IsSome (place_line places at)
HasLine places (TooWide at) = IsSome (place_line places at)
HasLine places (RefusedPower at) = IsSome (place_line places at)
HasLine places (FoldTooLarge at) = IsSome (place_line places at)
HasLine places (NoSuchObjective k) = Unit {0}

-- a place has a line, which is one of so many
abbrev pub HasLineUpTo : ℕ → PlaceLines → At → Type 0
HasLineUpTo count places at = IsSomeAnd (place_line places at) (λ line. (0 < line) × (line ≤ count))

-- the place of a fault of the fold, where it has one, has such a line
abbrev pub HasFaultLine : ℕ → PlaceLines → FoldFault → Type 0
HasFaultLine count places (Nonlinear at) = HasLineUpTo count places at
HasFaultLine count places (DivideByZero at) = HasLineUpTo count places at
HasFaultLine count places (TooWide at) = HasLineUpTo count places at
HasFaultLine count places (RefusedPower at) = HasLineUpTo count places at
HasFaultLine count places (FoldTooLarge at) = HasLineUpTo count places at
HasFaultLine count places (NoSuchObjective k) = Unit {0}

-- the line of a fault of scaling, with objective k
abbrev pub scale_line : ℕ → ScaleFault → List ℕ
scale_line k (RowTooWide i) = refusal 1 (codes "row") i (scale_text (RowTooWide i))
scale_line k ObjectiveTooWide = refusal 1 (codes "objective") k (scale_text ObjectiveTooWide)
