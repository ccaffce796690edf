-- The written texts of the files of programs that are imported.
use Rattle.std.specs.Prelude.{◌≡◌, None}
use Rattle.exact_numbers.specs.declared.dec.Dec.{Dec}
use Rattle.mps_model.specs.Mps.{Mps}
use Rattle.mps_import.specs.Faults.{import_fault}
use Rattle.mps_import.specs.Import.{import_of}
use Rattle.nl_segments.specs.Grammar.{NlValue}
use Rattle.nl_segments.specs.Reader.{IsNl}
use Rattle.nl_writer.specs.Written.{nl_text}
use Rattle.round_trips.specs.Writable.{IsText, IsWritable}

-- the file of a program without a fault can be written: its lines and its text are short enough,
-- too
abbrev pub ImportsAreWritable : Type 0
ImportsAreWritable = (m : Mps Dec) → import_fault m ≡ None → IsWritable (import_of m)

-- what is written of it is a text that says this file
abbrev pub ImportsAreSaid : Type 0
ImportsAreSaid =
    (m : Mps Dec) → import_fault m ≡ None → IsText (import_of m) (nl_text (import_of m))

-- and it says no other file
abbrev pub NoOtherFileIsSaid : Type 0
NoOtherFileIsSaid =
    (m : Mps Dec) (value : NlValue) → import_fault m ≡ None → IsNl (nl_text (import_of m)) value
    → value.file ≡ import_of m
