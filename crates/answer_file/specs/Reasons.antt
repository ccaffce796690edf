-- What is said of a fault of an answer.
use Rattle.std.specs.Prelude.{ℕ, List, codes}
use Rattle.answer_file.specs.declared.fault.AnswerReason.{AnswerReason}
use Rattle.answer_file.specs.declared.fault.AnswerReason.TheVariants.{BadFirst, BadLine, BadNumber, UnknownName, Repeated, Partial, TooLarge, LineTooLong, InputTooLong}

-- the words of each reason
abbrev pub answer_reason_text : AnswerReason → List ℕ
answer_reason_text BadFirst = codes "bad first line"
answer_reason_text BadLine = codes "bad line"
answer_reason_text BadNumber = codes "bad number"
answer_reason_text UnknownName = codes "unknown name"
answer_reason_text Repeated = codes "repeated"
answer_reason_text Partial = codes "partial answer"
answer_reason_text TooLarge = codes "too large"
answer_reason_text LineTooLong = codes "line too long"
answer_reason_text InputTooLong = codes "input too long"
