use Rattle.written_texts.proofs.WrittenWords.{word-decimal, word-signed, word-text}
use Rattle.written_texts.proofs.laws.numbers_are_words.Goals as goal

pub returns-clause-whole : goal.returns-clause-whole
returns-clause-whole c = word-decimal

pub returns-clause-signed : goal.returns-clause-signed
returns-clause-signed c = word-signed

pub returns-clause-decimals : goal.returns-clause-decimals
returns-clause-decimals c = word-text
