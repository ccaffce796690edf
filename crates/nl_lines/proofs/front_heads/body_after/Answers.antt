use Rattle.std.proofs.Common.{arith}
use Rattle.exact_numbers.specs.Numbers.{whole_of}
use Rattle.nl_lines.specs.declared.head.Head.TheVariants.{Body}
use Rattle.nl_lines.specs.HeadRows.{IsHeadRow}
use Rattle.nl_lines.proofs.FrontRows.{letter_row}
use Rattle.nl_lines.proofs.HeadRows.{body_row}
use Rattle.nl_lines.proofs.front_heads.body_after.Goals as goal

pub returns : goal.returns
returns c =
    letter_row whole_of c.in-Some.index.number c.args.rest.now c.in-Some.index.len 67
    (λ words. IsHeadRow words (Body c.in-Some.index.number)) (omega arith) (λ words row. omega (arith, row.few))
    c.in-Some.ensures
    (λ word e. body_row word c.in-Some.index.number e)
