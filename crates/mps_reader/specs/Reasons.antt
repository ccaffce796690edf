-- What is said of a fault of an MPS text.
use Rattle.std.specs.Prelude.{ℕ, List, codes}
use Rattle.mps_reader.specs.declared.fault.MpsReason.{MpsReason}
use Rattle.mps_reader.specs.declared.fault.MpsReason.TheVariants.{Section, BadLine, BadNumber, UnknownRow, UnknownColumn, RepeatedRow, ColumnAgain, RepeatedEntry, SecondSet, Marker, BoundKind, RepeatedBound, RangeOnFree, NoObjective, NoEnd, TooLarge, LineTooLong, InputTooLong}

-- the words of each reason
abbrev pub mps_reason_text : MpsReason → List ℕ
mps_reason_text Section = codes "bad section"
mps_reason_text BadLine = codes "bad line"
mps_reason_text BadNumber = codes "bad number"
mps_reason_text UnknownRow = codes "unknown row"
mps_reason_text UnknownColumn = codes "unknown column"
mps_reason_text RepeatedRow = codes "repeated row"
mps_reason_text ColumnAgain = codes "column again"
mps_reason_text RepeatedEntry = codes "repeated entry"
mps_reason_text SecondSet = codes "second set"
mps_reason_text Marker = codes "bad marker"
mps_reason_text BoundKind = codes "bad bound kind"
mps_reason_text RepeatedBound = codes "repeated bound"
mps_reason_text RangeOnFree = codes "range on free row"
mps_reason_text NoObjective = codes "no objective"
mps_reason_text NoEnd = codes "no end"
mps_reason_text TooLarge = codes "too large"
mps_reason_text LineTooLong = codes "line too long"
mps_reason_text InputTooLong = codes "input too long"
