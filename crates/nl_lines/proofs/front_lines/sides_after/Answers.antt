use Rattle.nl_lines.proofs.IntervalRows.{sides_row}
use Rattle.nl_lines.proofs.front_lines.sides_after.Goals as goal

pub returns : goal.returns
returns c =
    sides_row c.args.rest.now c.split_at.result.1.now c.in-Some.lo.len c.in-Some-next_dec.hi.len c.in-Some.lo.value
    c.in-Some-next_dec.hi.value c.in-Some.ensures c.split_at.ensures.back c.in-Some-next_dec.ensures
