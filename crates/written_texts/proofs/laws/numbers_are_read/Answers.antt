use Rattle.exact_numbers.proofs.NumberLemmas.{signed_of-signed_decimal}
use Rattle.written_texts.proofs.NumbersRead.{whole_of-decimal, dec_of-text}
use Rattle.written_texts.proofs.laws.numbers_are_read.Goals as goal

pub returns-clause-whole : goal.returns-clause-whole
returns-clause-whole c = whole_of-decimal

pub returns-clause-signed : goal.returns-clause-signed
returns-clause-signed c = signed_of-signed_decimal

pub returns-clause-decimals : goal.returns-clause-decimals
returns-clause-decimals c = dec_of-text
