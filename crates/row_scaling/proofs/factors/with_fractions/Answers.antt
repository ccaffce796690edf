use Rattle.std.proofs.Common.{rules, ◌≡◌, ◌∙◌, sym, ap, unsigned_abs, to_z, of_z}
use Rattle.std.specs.Int.{w128}
use Rattle.linear_program.specs.Forms.{form_terms, terms_left}
use Rattle.row_scaling.proofs.NumberLemmas.{running, running_end, running_wide, next_above, size_above}
use Rattle.row_scaling.proofs.factors.with_fractions.Goals as goal

pub loop-term-preserved : goal.loop-term-preserved
loop-term-preserved c =
    let back : to_z w128 (of_z w128 c.in-Some-with_number.next) ≡ c.in-Some-with_number.next = search rules in
    let i = c.loop-term.invariant in
    let k = unsigned_abs (to_z w128 c.loop-term.factor-bits) in (
      tt,
      tt,
      ap (λ z. running (unsigned_abs z) (terms_left c.next.new.self)) (back ∙ c.in-Some-with_number.ensures) ∙ sym (ap (running k) c.in-Some.ensures.steps) ∙ i.2,
      next_above _ _ c.in-Some.term.1 i.3 (back ∙ c.in-Some-with_number.ensures),
    )

pub returns-in_default-clause-factor : goal.returns-in_default-clause-factor
returns-in_default-clause-factor c = λ xs e.
    let back : to_z w128 (of_z w128 c.args.start) ≡ c.args.start = search rules in
    let i = c.loop-term.invariant in
    running_wide _ _ c.in-Some.term (terms_left c.next.new.self) (terms_left c.loop-term.term-iterator)
    (size_above _ i.3) c.in-Some.ensures.steps (i.2 ∙ running_end _ xs (form_terms c.args.form.now) (back ∙ e))
    c.in_default.ensures
