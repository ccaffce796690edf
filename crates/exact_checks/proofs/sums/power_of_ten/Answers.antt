use Rattle.std.proofs.Common.{◌^◌, ◌<◌, arith, subst, sym}
use Rattle.std.proofs.lemmas.List.FromFn.{get_or-map-range_with_len}
use Rattle.exact_checks.proofs.ShortLemmas.{small_ten, some_ten}
use Rattle.exact_checks.proofs.sums.power_of_ten.Goals as goal

pub returns-then-times-lt19 : goal.returns-then-times-lt19
returns-then-times-lt19 c =
    let k = c.args.times in
    let is = get_or-map-range_with_len (λ j. 10 ^ j) 0 19 k k 0 c.if-times-lt19.true (omega arith) in
    (is, subst (λ n. 0 < n) (sym is) (some_ten k), subst (λ n. n < 2 ^ 63) (sym is) (small_ten k c.if-times-lt19.true))
