use Rattle.nl_header.proofs.HeadLemmas.{signed_more, signed_room}
use Rattle.nl_header.proofs.first_line.signed_numbers.Goals as goal

pub words-preserved : goal.words-preserved
words-preserved c = record {
  kept = signed_more c.args.words.now c.words.word-index _ _ _ _ c.words.invariant.kept c.words-test.true c.signed_of-number.ensures c.push_some.ensures;
  room = signed_room _ _ _ _ c.words.invariant.room c.push_some.ensures;
}
