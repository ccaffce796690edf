use Rattle.exact_numbers.specs.Values.{frac_value}
use Rattle.linear_program.specs.Forms.{form_terms, terms_left}
use Rattle.row_scaling.proofs.FitLemmas.{first_fits, others_fit, one_added}
use Rattle.row_scaling.proofs.scaled_terms.terms_times.Goals as goal

pub returns-in_default-clause-wide : goal.returns-in_default-clause-wide
returns-in_default-clause-wide c = λ h. c.in_default.ensures
    (first_fits _ (form_terms c.args.form.now) c.in-Some.term (terms_left c.loop-term.term-iterator)
    (terms_left c.next.new.self) c.in-Some.ensures.steps (c.loop-term.invariant.3 h))

pub loop-term-preserved : goal.loop-term-preserved
loop-term-preserved c =
    let q = frac_value c.args.factor in
    let i = c.loop-term.invariant in (
      tt,
      tt,
      λ us h. one_added q (form_terms c.args.form.now) c.in-Some.term (terms_left c.loop-term.term-iterator) (terms_left c.next.new.self) c.in-Some.ensures.steps
          c.loop-term.terms c.push.new.self us c.in-Some-scaled_number.value c.in_ok-push.ensures.ok c.in-Some-scaled_number.ensures.0 c.in-Some-scaled_number.ensures.1 i.2 h,
      λ h. others_fit q (form_terms c.args.form.now) c.in-Some.term (terms_left c.loop-term.term-iterator) (terms_left c.next.new.self) c.in-Some.ensures.steps (i.3 h),
    )
