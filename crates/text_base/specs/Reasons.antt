-- What is said of a line that was not read.
use Rattle.std.specs.Prelude.{ℕ, List, codes}
use Rattle.text_base.specs.declared.lines.LineFault.{LineFault}
use Rattle.text_base.specs.declared.lines.LineFault.TheVariants.{LineTooLong, InputTooLong}

-- the words of each fault
abbrev pub line_fault_text : LineFault → List ℕ
line_fault_text LineTooLong = codes "line too long"
line_fault_text InputTooLong = codes "input too long"
