-- The walk of a reader over the bytes of a text.
use Rattle.std.proofs.Common.{◌≡◌, ℕ, ◌+◌, ◌^◌, List, [], ◌∷◌, ◌++◌, length}
use Rattle.std.specs.Prelude.{◌==◌, nat_le, is_some, if◌then◌else◌}
use Rattle.std.specs.List.{fold}
use Rattle.std.specs.declared.option.Option.{Option}
use Rattle.std.specs.declared.option.Option.TheVariants.{None, Some}
use Rattle.text_base.specs.declared.lines.LineFault.{LineFault}
use Rattle.text_base.specs.declared.lines.LineFault.TheVariants.{LineTooLong, InputTooLong}
use Rattle.text_base.specs.Lines.{trimmed, Scan, LinesState}

-- the lines so far, the bytes after them, how many bytes have come, and what is wrong
pub record Walk : Type 0 where
  pub lines : List (List ℕ)
  pub rest : List ℕ
  pub total : ℕ
  pub fault : Option LineFault

abbrev pub no_lines : Walk
no_lines = record { lines = []; rest = []; total = 0; fault = None }

-- A byte more. Byte 2^31 + 1 of a text is a fault, and else byte 65,537 of a line, to which its LF
-- does not count.
abbrev pub with_byte : Walk → ℕ → Walk
with_byte s b =
    if nat_le (2 ^ 31) s.total
    then record s { fault = Some InputTooLong }
    else if b == 10
    then record { lines = s.lines ++ trimmed s.rest ∷ []; rest = []; total = s.total + 1; fault = None }
    else if nat_le 65536 (length s.rest)
    then record s { fault = Some LineTooLong }
    else record { lines = s.lines; rest = s.rest ++ b ∷ []; total = s.total + 1; fault = None }

-- nothing is looked for after a line fault
unfoldable pub next_byte : Walk → ℕ → Walk
next_byte s b = if is_some s.fault then s else with_byte s b

abbrev pub steps : Walk → List ℕ → Walk
steps c bytes = fold next_byte c bytes

unfoldable pub walk : List ℕ → Walk
walk text = steps no_lines text

-- what it says of the lines of a text
abbrev pub seen : Walk → Scan
seen c = record { lines = c.lines; rest = c.rest; fault = c.fault }

-- a reader is where the walk is; after a fault only the count and the fault are kept
pub record Keeps (c : Walk) (s : LinesState) : Type 0 where
  pub count : s.count ≡ length c.lines
  pub fault : s.fault ≡ c.fault
  pub rest : s.fault ≡ None → s.rest ≡ c.rest
  pub total : s.fault ≡ None → s.total ≡ c.total
  pub awaits : (fault : LineFault) → s.fault ≡ Some fault → s.line ≡ None
