-- The grammar of .nl texts: which have no fault, what they say, and what is the first fault of the
-- others.
use Rattle.std.specs.Prelude.{◌≡◌, ℕ, Bool, nat_lt, List, length, drop, Option, Some, None, option_map, if◌then◌else◌}
use Rattle.text_base.specs.Judged.{Rules, first_reason}
use Rattle.text_base.specs.Words.{words_of, row_of, without_comment}
use Rattle.text_base.specs.declared.lines.LineFault.{LineFault}
use Rattle.text_base.specs.declared.lines.LineFault.TheVariants.{LineTooLong as LongLine, InputTooLong as LongInput}
use Rattle.nl_header.specs.Head.{header_line_fault, options_in, counts_in}
use Rattle.nl_header.specs.declared.fault.HeadFault.{HeadFault}
use Rattle.nl_header.specs.declared.fault.HeadFault.TheVariants.{BinaryFile as BinaryHead, BadFirstLine as BadFirst, Options as BadOptions, BadHeaderNumber as BadNumberInHeader, CountsDisagree as Disagree, RefusedCount as Refused, TooLarge as Large}
use Rattle.nl_model.specs.declared.header_counts.Counts.{Counts}
use Rattle.nl_model.specs.File.{File}
use Rattle.nl_model.specs.Draft.{Draft, file_of}
use Rattle.nl_lines.specs.declared.fault.NlReason.{NlReason}
use Rattle.nl_lines.specs.declared.fault.NlReason.TheVariants.{BinaryFile, BadFirstLine, Options, BadHeaderNumber, CountsDisagree, RefusedCount, TooLarge, LineTooLong, InputTooLong, EndInHeader}
use Rattle.nl_lines.specs.Rows.{rows_of, holds_words, header_words}
use Rattle.nl_lines.specs.Pieces.{Piece, pieces_of}
use Rattle.nl_lines.specs.Saying.{draft_of, PlaceLines, place_lines}
use Rattle.nl_lines.specs.Tests.{row_tests, end_tests}

-- ---- What lines mean for the next one.

-- the words of the header's rows so far, and the pieces after them
pub record Standing : Type 0 where
  pub header : List (List (List ℕ))
  pub pieces : List Piece

unfoldable pub standing : List (List ℕ) → Standing
standing lines =
    let rows = rows_of lines in
    record {
      header = header_words rows;
      pieces = pieces_of (counts_in (header_words rows)) (drop 10 rows);
    }

-- the ten rows of the header have not all come
abbrev pub is_in_header : Standing → Bool
is_in_header s = nat_lt (length s.header) 10

abbrev pub counts_of : Standing → Counts
counts_of s = counts_in s.header

abbrev pub said : Standing → Draft
said s = draft_of (options_in s.header) (counts_of s) s.pieces

-- ---- What is wrong.

abbrev pub reason_of : HeadFault → NlReason
reason_of BinaryHead = BinaryFile
reason_of BadFirst = BadFirstLine
reason_of BadOptions = Options
reason_of BadNumberInHeader = BadHeaderNumber
reason_of Disagree = CountsDisagree
reason_of Refused = RefusedCount
reason_of Large = TooLarge

-- a row of the header or of the body, by its text without the comment
abbrev pub row_refusal : Standing → List ℕ → Option NlReason
row_refusal s text =
    if is_in_header s
    then option_map reason_of (header_line_fault s.header (words_of text))
    else first_reason (row_tests (counts_of s) (said s) s.pieces (row_of text))

-- a line; one that holds no word means nothing
unfoldable pub line_refusal : Standing → List ℕ → Option NlReason
line_refusal s line = if holds_words line then row_refusal s (without_comment line) else None

abbrev pub fault_refusal : LineFault → NlReason
fault_refusal LongLine = LineTooLong
fault_refusal LongInput = InputTooLong

-- the end of the text
unfoldable pub end_refusal : Standing → Option NlReason
end_refusal s =
    if is_in_header s then Some EndInHeader
    else first_reason (end_tests (counts_of s) (said s) s.pieces)

abbrev pub nl_rules : Rules NlReason
nl_rules = record {
  at_line = λ before line. line_refusal (standing before) line;
  at_fault = λ before fault. fault_refusal fault;
  at_end = λ lines. end_refusal (standing lines);
}

-- ---- What is said.

-- a file, and the lines of its places
pub record NlValue : Type 0 where
  pub file : File
  pub places : PlaceLines

-- these lines say this file with these places
pub record SaysFile (lines : List (List ℕ)) (value : NlValue) : Type 0 where
  pub file : value.file ≡ file_of (said (standing lines))
  pub places : value.places ≡ place_lines (counts_of (standing lines)) (standing lines).pieces
