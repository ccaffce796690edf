use Rattle.std.proofs.Common.{◌∙◌, ◌++◌, ap, drop, subst, sym}
use Rattle.exact_numbers.specs.Values.{frac_value}
use Rattle.exact_numbers.specs.Fits.{sum_fits}
use Rattle.linear_program.specs.Coefs.{AreAscending}
use Rattle.linear_program.proofs.Merging.{first_ascends, old_value, still_ascends, term_merged}
use Rattle.linear_program.proofs.merged.add_merged.Goals as goal

pub returns-in_default-clause-wide : goal.returns-in_default-clause-wide
returns-in_default-clause-wide c =
    ap (λ x. sum_fits x (frac_value c.args.factor))
    (old_value c.args.variable (frac_value c.coefficient_at-next.result.0)
    (c.args.done.now.items ++ drop c.args.first c.args.list.now) c.put_below.new.done.items
    (drop c.in_ok-at.at c.args.list.now) c.in_ok-at.ensures.same c.in_ok-at.ensures.below c.in_ok-at.ensures.left
    c.coefficient_at-next.ensures.value)
    ∙ c.in_default.ensures

pub returns-clause-adds : goal.returns-clause-adds
returns-clause-adds c =
    term_merged c.args.variable (frac_value c.coefficient_at-next.result.0)
    (c.args.done.now.items ++ drop c.args.first c.args.list.now) c.put_below.new.done.items
    (drop c.in_ok-at.at c.args.list.now) c.in_ok-at.ensures.same c.in_ok-at.ensures.below c.in_ok-at.ensures.left
    c.coefficient_at-next.ensures.value
    (frac_value c.args.factor) (frac_value c.in-Some.sum) c.put_term.new.done.items
    (drop c.coefficient_at-next.result.1 c.args.list.now) c.in_ok-put_term.ensures.below
    c.coefficient_at-next.ensures.left
    c.in-Some.ensures.0 c.in-Some.ensures.1 c.in_ok-put_term.ensures.coef c.in_ok-put_term.ensures.others c.coefficient_at-next.ensures.others

pub returns-clause-ascending : goal.returns-clause-ascending
returns-clause-ascending c =
    let done = c.put_below.new.done.items in
    let rest = drop c.in_ok-at.at c.args.list.now in
    still_ascends c.args.variable c.put_term.new.done.items (drop c.coefficient_at-next.result.1 c.args.list.now) c.in_ok-put_term.ensures.below c.coefficient_at-next.ensures.left
    (c.in_ok-put_term.ensures.ascending (first_ascends 0 done rest (subst (AreAscending 0) (sym c.in_ok-at.ensures.same) c.requires.ascending)))
