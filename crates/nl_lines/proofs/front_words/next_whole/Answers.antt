use Rattle.std.proofs.Common.{◌≡◌, Some, arith}
use Rattle.exact_numbers.specs.Numbers.{whole_of}
use Rattle.nl_lines.proofs.FrontRows.{word_before}
use Rattle.nl_lines.proofs.front_words.next_whole.Goals as goal

pub returns : goal.returns
returns c =
    let index = c.in-Some.ensures in
    word_before c.args.byte c.args.text.now c.in-Some.index.len (λ word. whole_of word ≡ Some c.in-Some.index.number)
    (omega (arith, c.if-index-text.false)) c.if-text-index.false index.1 (omega (arith, index.4)) index.3 index.2
