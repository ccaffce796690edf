-- What a reader answers to the written text of a file.
use Rattle.std.specs.Prelude.{◌≡◌, Result, Ok, Err}
use Rattle.text_base.specs.declared.stop.Stop.{Stop}
use Rattle.text_base.specs.declared.stop.Stop.TheVariants.{Fault, Memory}
use Rattle.nl_model.specs.File.{File}
use Rattle.nl_lines.specs.declared.fault.NlFault.{NlFault}
use Rattle.nl_segments.specs.declared.nl_read.NlRead.{NlRead}
use Rattle.nl_segments.specs.Reader.{ReadsNl}
use Rattle.nl_writer.specs.Written.{nl_text}
use Rattle.round_trips.specs.Writable.{IsWritable}

-- the file itself, or want of memory; no fault
abbrev pub ReadsBack : File → Result NlRead (Stop NlFault) → Type 0
ReadsBack f (Ok r) = r.file ≡ f
ReadsBack f (Err (Fault fault)) = ⊥
ReadsBack f (Err Memory) = Unit {0}

-- whatever a reader answers to the written text, as its contract says
abbrev pub WrittenReadsBack : Type 0
WrittenReadsBack =
    (f : File) → IsWritable f →
    (result : Result NlRead (Stop NlFault)) → ReadsNl (nl_text f) result → ReadsBack f result
