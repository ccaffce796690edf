-- What is said of a fault of a header line.
use Rattle.std.specs.Prelude.{ℕ, List, codes}
use Rattle.nl_header.specs.declared.fault.HeadFault.{HeadFault}
use Rattle.nl_header.specs.declared.fault.HeadFault.TheVariants.{BinaryFile, BadFirstLine, Options, BadHeaderNumber, CountsDisagree, RefusedCount, TooLarge}

-- the words of each fault
abbrev pub head_fault_text : HeadFault → List ℕ
head_fault_text BinaryFile = codes "binary file"
head_fault_text BadFirstLine = codes "bad first line"
head_fault_text Options = codes "refused options"
head_fault_text BadHeaderNumber = codes "bad header number"
head_fault_text CountsDisagree = codes "counts disagree"
head_fault_text RefusedCount = codes "refused count"
head_fault_text TooLarge = codes "too large"
