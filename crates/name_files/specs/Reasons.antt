-- What is said of a fault of a list of names.
use Rattle.std.specs.Prelude.{ℕ, List, codes}
use Rattle.name_files.specs.declared.fault.NameReason.{NameReason}
use Rattle.name_files.specs.declared.fault.NameReason.TheVariants.{BadName, Repeated, Reserved, OtherCount, LineTooLong, InputTooLong}

-- the words of each reason
abbrev pub name_reason_text : NameReason → List ℕ
name_reason_text BadName = codes "bad name"
name_reason_text Repeated = codes "repeated name"
name_reason_text Reserved = codes "reserved name"
name_reason_text OtherCount = codes "other count"
name_reason_text LineTooLong = codes "line too long"
name_reason_text InputTooLong = codes "input too long"
