use Rattle.std.proofs.Common.{◌∙◌, ap₂, pos, negsuc, ◌/◌, ◌-◌, sym, subst, ◌<◌}
use Rattle.exact_numbers.specs.Values.{frac_value}
use Rattle.exact_numbers.specs.Rational.{whole}
use Rattle.linear_fold.proofs.ConstantLemmas.{floor_above, floor_under, is_above, some_size, top_under}
use Rattle.linear_fold.proofs.constants.floor_of.Goals as goal

pub returns-then-is_negative : goal.returns-then-is_negative
returns-then-is_negative c =
    floor_under (frac_value c.args.x) (frac_value c.whole_under.result) (top_under (frac_value c.args.x) (c.is_negative.ensures.0 c.if-is_negative.true))
    (c.whole_under.ensures ∙ ap₂ (λ s p. whole (negsuc ((s - 1) / p))) c.numerator_size-size.ensures.value c.denominator_of-denominator.ensures)

pub returns : goal.returns
returns c =
    floor_above (frac_value c.args.x) (frac_value c.whole_above.result) (is_above c.is_negative.result (frac_value c.args.x) c.is_negative.ensures.1 c.if-is_negative.false)
    (c.whole_above.ensures ∙ ap₂ (λ s p. whole (pos (s / p))) c.numerator_size-size.ensures.value c.denominator_of-denominator.ensures)

pub overflow_sub-size : goal.overflow_sub-size
overflow_sub-size c =
    subst (λ k. 0 < k) (sym c.numerator_size-size.ensures.value) (some_size (frac_value c.args.x) (top_under (frac_value c.args.x) (c.is_negative.ensures.0 c.if-is_negative.true)))
