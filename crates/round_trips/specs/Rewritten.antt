-- Files that were read, written again.
use Rattle.std.specs.Prelude.{ℕ, List}
use Rattle.nl_segments.specs.Grammar.{NlValue}
use Rattle.nl_segments.specs.Reader.{IsNl}
use Rattle.nl_writer.specs.Written.{nl_text}
use Rattle.round_trips.specs.Writable.{IsText, IsWritable}

-- a file that a text says can be written
abbrev pub ReadIsWritable : Type 0
ReadIsWritable = (text : List ℕ) (value : NlValue) → IsNl text value → IsWritable value.file

-- its written text then says the same file
abbrev pub ReadIsWrittenAgain : Type 0
ReadIsWrittenAgain =
    (text : List ℕ) (value : NlValue) → IsNl text value → IsText value.file (nl_text value.file)
