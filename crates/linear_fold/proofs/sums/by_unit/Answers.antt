use Rattle.linear_fold.specs.InsideOperates.{part_line}
use Rattle.linear_fold.proofs.SumLemmas.{minus_line, plus_line, two_taken, unit_product}
use Rattle.linear_fold.proofs.sums.by_unit.Goals as goal

pub returns-then-minus-clause-outcome : goal.returns-then-minus-clause-outcome
returns-then-minus-clause-outcome c n within =
    let two = two_taken c.args.stack.now.items c.take_last-factor.new.stack.items c.take_last-part.new.stack.items
    c.take_last-factor.result c.take_last-part.result c.take_last-factor.ensures c.take_last-part.ensures in
    unit_product n _ c.args.minus c.take_last-factor.result c.take_last-part.result c.opposite.result two c.requires.unit
    (minus_line c.args.minus _ _ c.if-minus.true c.opposite.ensures.line) (c.opposite.ensures.sound n) within

pub returns-clause-outcome : goal.returns-clause-outcome
returns-clause-outcome c n within =
    let two = two_taken c.args.stack.now.items c.take_last-factor.new.stack.items c.take_last-part.new.stack.items
    c.take_last-factor.result c.take_last-part.result c.take_last-factor.ensures c.take_last-part.ensures in
    unit_product n _ c.args.minus c.take_last-factor.result c.take_last-part.result c.take_last-part.result two c.requires.unit
    (plus_line c.args.minus (part_line c.take_last-part.result) c.if-minus.false) (λ s. s) within
