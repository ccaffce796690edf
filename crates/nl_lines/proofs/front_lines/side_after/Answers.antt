use Rattle.std.proofs.Common.{◌≡◌, ◌∷◌, [], Some, arith}
use Rattle.exact_numbers.specs.Numbers.{dec_of}
use Rattle.nl_lines.specs.IntervalRows.{IsIntervalRow}
use Rattle.nl_lines.proofs.FrontRows.{alone}
use Rattle.nl_lines.proofs.front_lines.side_after.Goals as goal

pub returns : goal.returns
returns c =
    alone 40 c.args.rest.now c.in-Some.number.len (λ word. dec_of word ≡ Some c.in-Some.number.value)
    (λ words. IsIntervalRow ((c.args.kind ∷ []) ∷ words) c.in-Some-one_sided.interval) (omega arith) c.in-Some.ensures
    c.in-Some-one_sided.ensures
