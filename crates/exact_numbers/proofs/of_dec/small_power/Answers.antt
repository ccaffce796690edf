use Rattle.std.proofs.Common.{◌∙◌, ◌^◌, ap, sym, arith}
use Rattle.std.proofs.lemmas.List.FromFn.{get_or-map-range_with_len}
use Rattle.exact_numbers.proofs.of_dec.small_power.Goals as goal

pub returns-then-times-lt28 : goal.returns-then-times-lt28
returns-then-times-lt28 c =
    let times = c.args.times in
    get_or-map-range_with_len (λ k. 5 ^ k) 0 28 times times 0 c.if-times-lt28.true (omega arith) ∙ ap (λ f. f ^ times) (sym c.if-factor-eq5.true)
