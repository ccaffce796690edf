-- What is said of a fault of a proof text.
use Rattle.std.specs.Prelude.{ℕ, List, codes}
use Rattle.branch_proof.specs.declared.fault.ProofReason.{ProofReason}
use Rattle.branch_proof.specs.declared.fault.ProofReason.TheVariants.{LineTooLong, InputTooLong, BadFirst, Extra, BadLine, BadNumber, IndexOut, NotWhole, RepeatedIndex, TooLarge, Short}

-- the words of each reason
abbrev pub proof_reason_text : ProofReason → List ℕ
proof_reason_text LineTooLong = codes "line too long"
proof_reason_text InputTooLong = codes "input too long"
proof_reason_text BadFirst = codes "bad first line"
proof_reason_text Extra = codes "extra line"
proof_reason_text BadLine = codes "bad line"
proof_reason_text BadNumber = codes "bad number"
proof_reason_text IndexOut = codes "index out of range"
proof_reason_text NotWhole = codes "not whole"
proof_reason_text RepeatedIndex = codes "repeated index"
proof_reason_text TooLarge = codes "too large"
proof_reason_text Short = codes "short file"
