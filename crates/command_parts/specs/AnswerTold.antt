-- The line that tells why an answer is not returned.
use Rattle.std.specs.Prelude.{ℕ, List, codes}
use Rattle.dual_return.specs.declared.fault.ReturnFault.{ReturnFault}
use Rattle.dual_return.specs.declared.fault.ReturnFault.TheVariants.{DualTooWide}
use Rattle.dual_return.specs.Reasons.{return_fault_text}
use Rattle.command_core.specs.Told.{refusal}

-- the line of a dual that is too wide, in the first file
abbrev pub return_line : ReturnFault → List ℕ
return_line (DualTooWide i) = refusal 1 (codes "row") i (return_fault_text (DualTooWide i))
