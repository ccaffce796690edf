-- The lines that tell faults of .sol texts.
use Rattle.std.specs.Prelude.{ℕ, List, codes}
use Rattle.sol_files.specs.declared.fault.SolFault.{SolFault}
use Rattle.sol_files.specs.Reasons.{sol_reason_text}
use Rattle.command_core.specs.Told.{refusal}

-- the line of a fault of a .sol text, which is this file of its command
abbrev pub sol_line : ℕ → SolFault → List ℕ
sol_line file f = refusal file (codes "line") f.line (sol_reason_text f.reason)
