use Rattle.std.proofs.Common.{◌≡◌, Some, arith}
use Rattle.exact_numbers.specs.Numbers.{dec_of}
use Rattle.nl_lines.proofs.FrontRows.{word_before}
use Rattle.nl_lines.proofs.front_words.next_dec.Goals as goal

pub returns : goal.returns
returns c =
    let number = c.in-Some.ensures in
    word_before c.args.byte c.args.text.now c.in-Some.number.len (λ word. dec_of word ≡ Some c.in-Some.number.value)
    (omega (arith, c.if-number-text.false)) c.if-text-number.false number.1 number.2 number.4 number.3
