-- What is said of a fault of an .nl text.
use Rattle.std.specs.Prelude.{ℕ, List, [], ◌++◌, codes}
use Rattle.std.specs.Fmt.{decimal}
use Rattle.nl_lines.specs.declared.fault.NlReason.{NlReason}
use Rattle.nl_lines.specs.declared.fault.NlReason.TheVariants.{BinaryFile, BadFirstLine, Options, BadHeaderNumber, CountsDisagree, RefusedCount, TooLarge, LineTooLong, UnknownSegment, RefusedSegment, RepeatedSegment, BadHead, IndexOut, BadLine, BadNumber, ShortSegment, ExtraLine, RefusedOpcode, RefusedLeaf, Undefined, Complementarity, EmptyInterval, BinaryBounds, RepeatedIndex, SosSuffix, Missing, NonzeroCount, ColumnCount, InputTooLong, EndInHeader}

-- the words of each reason
abbrev pub nl_reason_text : NlReason → List ℕ
nl_reason_text BinaryFile = codes "binary file"
nl_reason_text BadFirstLine = codes "bad first line"
nl_reason_text Options = codes "refused options"
nl_reason_text BadHeaderNumber = codes "bad header number"
nl_reason_text CountsDisagree = codes "counts disagree"
nl_reason_text RefusedCount = codes "refused count"
nl_reason_text TooLarge = codes "too large"
nl_reason_text LineTooLong = codes "line too long"
nl_reason_text UnknownSegment = codes "unknown segment"
nl_reason_text RefusedSegment = codes "refused segment"
nl_reason_text RepeatedSegment = codes "repeated segment"
nl_reason_text BadHead = codes "bad segment head"
nl_reason_text IndexOut = codes "index out of range"
nl_reason_text BadLine = codes "bad line"
nl_reason_text BadNumber = codes "bad number"
nl_reason_text ShortSegment = codes "short segment"
nl_reason_text ExtraLine = codes "extra line"
nl_reason_text (RefusedOpcode opcode) = codes "refused opcode"
nl_reason_text RefusedLeaf = codes "refused leaf"
nl_reason_text Undefined = codes "undefined"
nl_reason_text Complementarity = codes "complementarity"
nl_reason_text EmptyInterval = codes "empty interval"
nl_reason_text BinaryBounds = codes "binary bounds"
nl_reason_text RepeatedIndex = codes "repeated index"
nl_reason_text SosSuffix = codes "special ordered sets"
nl_reason_text Missing = codes "missing segment"
nl_reason_text NonzeroCount = codes "nonzero count"
nl_reason_text ColumnCount = codes "column count"
nl_reason_text InputTooLong = codes "input too long"
nl_reason_text EndInHeader = codes "end in header"

-- the number of a refused opcode, after a blank
abbrev pub opcode_text : NlReason → List ℕ
opcode_text (RefusedOpcode opcode) = codes " " ++ decimal opcode
opcode_text reason = []
