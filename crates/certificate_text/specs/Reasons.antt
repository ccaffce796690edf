-- What is said of a fault of a certificate's text.
use Rattle.std.specs.Prelude.{ℕ, List, codes}
use Rattle.certificate_text.specs.declared.fault.CertificateReason.{CertificateReason}
use Rattle.certificate_text.specs.declared.fault.CertificateReason.TheVariants.{LineTooLong, InputTooLong, BadFirst, Extra, BadLine, BadNumber, IndexOut, NotWhole, IndexOrder, TooLarge, Short}

-- the words of each reason
abbrev pub certificate_reason_text : CertificateReason → List ℕ
certificate_reason_text LineTooLong = codes "line too long"
certificate_reason_text InputTooLong = codes "input too long"
certificate_reason_text BadFirst = codes "bad first line"
certificate_reason_text Extra = codes "extra line"
certificate_reason_text BadLine = codes "bad line"
certificate_reason_text BadNumber = codes "bad number"
certificate_reason_text IndexOut = codes "index out of range"
certificate_reason_text NotWhole = codes "not whole"
certificate_reason_text IndexOrder = codes "index out of order"
certificate_reason_text TooLarge = codes "too large"
certificate_reason_text Short = codes "short file"
