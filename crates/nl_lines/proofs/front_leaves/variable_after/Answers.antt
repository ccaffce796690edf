use Rattle.std.proofs.Common.{arith, refl}
use Rattle.exact_numbers.specs.Numbers.{whole_of}
use Rattle.nl_lines.specs.declared.leaf.Leaf.TheVariants.{Variable}
use Rattle.nl_lines.specs.Leaves.{IsLeafRow}
use Rattle.nl_lines.proofs.FrontRows.{letter_row}
use Rattle.nl_lines.proofs.front_leaves.variable_after.Goals as goal

pub returns : goal.returns
returns c =
    letter_row whole_of c.in-Some.index.number c.args.rest.now c.in-Some.index.len 118
    (λ words. IsLeafRow words (Variable c.in-Some.index.number)) (omega arith) (λ words row. omega (arith, row.0.one))
    c.in-Some.ensures
    (λ word e. (record { one = refl; first = refl }, e))
