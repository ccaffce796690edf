use Rattle.std.proofs.Common.{arith, refl, get_or}
use Rattle.nl_lines.proofs.IntervalRows.{free_line, kind_line}
use Rattle.nl_lines.proofs.front_lines.first_interval.Goals as goal

pub returns-then-text-eq10 : goal.returns-then-text-eq10
returns-then-text-eq10 c = free_line c.args.text.now (omega (arith, c.if-text-lt2.false)) c.if-kind-eq51.true c.if-text-eq10.true

pub returns : goal.returns
returns c =
    kind_line c.args.text.now c.split_at.result.1.now (get_or c.args.text.now 0 0) c.in-Some.numbers.len
    c.in-Some.numbers.interval (omega (arith, c.if-text-lt2.false)) refl c.if-text-ne32.false c.split_at.ensures.back
    c.in-Some.ensures
