use Rattle.std.proofs.Common.{arith}
use Rattle.nl_lines.proofs.PairRows.{first_row}
use Rattle.nl_lines.proofs.pair_line.first_pair.Goals as goal

pub returns : goal.returns
returns c =
    let index = c.in-Some.ensures in
    let value = c.in-Some-front_dec.ensures in
    first_row c.args.text.now c.split_at.result.1.now c.in-Some.index.len c.in-Some-front_dec.value.len
    c.in-Some.index.number c.in-Some-front_dec.value.value (omega (arith, c.if-index-text.false))
    c.if-text-index-ne32.false c.split_at.ensures.back
    (omega (arith, c.if-value-rest.false)) c.if-rest-value-ne10.false (omega (arith, index.4)) value.2 index.1 index.2 index.3 value.3 value.1 value.4
