use Rattle.std.proofs.Common.{arith, refl}
use Rattle.exact_numbers.specs.Numbers.{dec_of}
use Rattle.nl_lines.specs.declared.leaf.Leaf.TheVariants.{Number}
use Rattle.nl_lines.specs.Leaves.{IsLeafRow}
use Rattle.nl_lines.proofs.FrontRows.{letter_row}
use Rattle.nl_lines.proofs.front_leaves.number_after.Goals as goal

pub returns : goal.returns
returns c =
    letter_row dec_of c.in-Some.number.value c.args.rest.now c.in-Some.number.len 110
    (λ words. IsLeafRow words (Number c.in-Some.number.value)) (omega arith) (λ words row. omega (arith, row.0.one))
    c.in-Some.ensures
    (λ word e. (record { one = refl; first = refl }, e))
