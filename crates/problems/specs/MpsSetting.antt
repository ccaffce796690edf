-- What certificates of an MPS program are judged by.
use Rattle.std.specs.Prelude.{length}
use Rattle.exact_numbers.specs.declared.dec.Dec.{Dec}
use Rattle.mps_model.specs.Mps.{Mps}
use Rattle.mps_program.specs.Kinds.{kinds_of}
use Rattle.mps_program.specs.Program.{constraints}
use Rattle.certificates.specs.Setting.{Setting}

-- the number of constraints, and the kinds of the columns
abbrev pub mps_setting : Mps Dec → Setting
mps_setting m = record { rows = length (constraints m.rows); kinds = kinds_of m }
