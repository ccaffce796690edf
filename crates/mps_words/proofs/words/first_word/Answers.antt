use Rattle.std.proofs.Common.{◌<◌, length, arith}
use Rattle.std.proofs.lemmas.Bool.Decides.{nat_tests}
use Rattle.text_base.proofs.WordLemmas.{word_is}
use Rattle.mps_words.proofs.words.first_word.Goals as goal

pub returns : goal.returns
returns c =
    let some : 0 < length c.split_at.result.1.now = grind (arith, nat_tests, c.is_empty.ensures, c.if-is_empty.false) in
    word_is c.args.bytes.now c.split_at.result.1.now _ _ c.blanks_len.result c.word_len.result
    c.blanks_len.ensures.place c.split_at.ensures.back some c.word_len.ensures.place c.split_at-2.ensures.front
    c.split_at-2.ensures.back
