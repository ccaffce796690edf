use Rattle.nl_header.proofs.ReaderLemmas.{nothing_read}
use Rattle.nl_header.proofs.reader.HeaderReader.new.Goals as goal

pub returns : goal.returns
returns c = nothing_read _ c.new.ensures
