-- What is said of a fault of a .sol text.
use Rattle.std.specs.Prelude.{ℕ, List, codes}
use Rattle.sol_files.specs.declared.fault.SolReason.{SolReason}
use Rattle.sol_files.specs.declared.fault.SolReason.TheVariants.{NoOptions, BadNumber, Options, CountsDisagree, Short, BadLine, IndexOut, RepeatedIndex, Extra, TooLarge, LineTooLong, InputTooLong}

-- the words of each reason
abbrev pub sol_reason_text : SolReason → List ℕ
sol_reason_text NoOptions = codes "no options"
sol_reason_text BadNumber = codes "bad number"
sol_reason_text Options = codes "refused options"
sol_reason_text CountsDisagree = codes "counts disagree"
sol_reason_text Short = codes "short file"
sol_reason_text BadLine = codes "bad line"
sol_reason_text IndexOut = codes "index out of range"
sol_reason_text RepeatedIndex = codes "repeated index"
sol_reason_text Extra = codes "extra line"
sol_reason_text TooLarge = codes "too large"
sol_reason_text LineTooLong = codes "line too long"
sol_reason_text InputTooLong = codes "input too long"
