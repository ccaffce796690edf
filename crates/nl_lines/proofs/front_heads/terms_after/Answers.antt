use Rattle.std.proofs.Common.{arith}
use Rattle.nl_lines.specs.HeadRows.{IsHeadRow}
use Rattle.nl_lines.proofs.FrontRows.{letters_row}
use Rattle.nl_lines.proofs.front_heads.terms_after.Goals as goal

pub returns : goal.returns
returns c =
    letters_row c.args.rest.now c.split_at.result.1.now c.in-Some.index.len c.in-Some-next_whole.count.len
    c.in-Some.index.number c.in-Some-next_whole.count.number c.args.letter
    (λ words. IsHeadRow words c.in-Some-head_of.head)
    c.requires (λ words row. omega (arith, row.few)) c.in-Some.ensures c.split_at.ensures.back c.in-Some-next_whole.ensures c.in-Some-head_of.ensures
