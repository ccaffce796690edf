-- What the linear program of an MPS program is, for the contracts of the command's own functions.
use Rattle.std.specs.Prelude.{◌≡◌, length, Result, None}
use Rattle.text_base.specs.declared.stop.Stop.{Stop}
use Rattle.exact_numbers.specs.declared.dec.Dec.{Dec}
use Rattle.linear_program.specs.Programs.{LinearValue, linear_value}
use Rattle.mps_model.specs.Mps.{Mps}
use Rattle.mps_program.specs.Faults.{mps_fault}
use Rattle.mps_program.specs.Kinds.{kinds_of}
use Rattle.mps_program.specs.Program.{constraints, linear_of, values_of}
use Rattle.command_core.specs.InsideRefusal.{Gives}
use Rattle.bridge_tool.specs.Verify.{HasNoLinear}
use Rattle.command_core.specs.declared.refused.Refusal.{Refusal}

pub record IsProgramOf (m : Mps Dec) (l : LinearValue) : Type 0 where
  pub linear : linear_value l ≡ linear_of (values_of m)
  pub rows : length l.bodies ≡ length (constraints m.rows)
  pub kinds : l.kinds ≡ kinds_of m
  pub clean : mps_fault m ≡ None

-- it is this, or the program has none
abbrev pub GivesProgram : Mps Dec → Result LinearValue (Stop Refusal) → Type 0
GivesProgram m = Gives (IsProgramOf m) (HasNoLinear m)
