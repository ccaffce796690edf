use Rattle.std.proofs.Common.{◌<◌, ◌≤◌, ◌≡◌, ◌+◌, ◌/◌, ◌*◌, ◌^◌, arith, lit<, lt_of_le_of_lt}
use Rattle.exact_numbers.proofs.Tens.{strip_more, few_zeros}
use Rattle.exact_numbers.proofs.mantissa.strip_few.Goals as goal

pub loop-rest-preserved : goal.loop-rest-preserved
loop-rest-preserved c =
    let above : 0 < c.loop-rest.rest / 10 = omega arith in
    let fits : c.args.n ≤ 2 ^ 64 = omega arith in
    let whole : c.args.n ≡ c.loop-rest.rest / 10 * 10 ^ (c.loop-rest.zeros + 1) = strip_more _ _ _ c.loop-rest.invariant.whole c.loop-rest-test.true in
    record {
      above = above;
      whole = whole;
      few = few_zeros _ _ _ 39 above whole (lt_of_le_of_lt fits (lit< tt));
    }
