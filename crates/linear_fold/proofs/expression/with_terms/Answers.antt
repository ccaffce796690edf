use Rattle.std.proofs.Common.{◌≡◌, ◌∙◌, IfSome, subst, sym}
use Rattle.nl_model.specs.Rules.{AreTermsBelow}
use Rattle.nl_model.specs.Expressions.{linear_terms}
use Rattle.linear_program.specs.Forms.{IsWithin, sum_line}
use Rattle.linear_fold.specs.InsideFolds.{ComesToTerms}
use Rattle.linear_fold.proofs.Operators.{if_ok}
use Rattle.linear_fold.proofs.StackLemmas.{on_ok}
use Rattle.linear_fold.proofs.expression.with_terms.Goals as goal

pub put-requires-clause-within : goal.put-requires-clause-within
put-requires-clause-within g c = subst (λ n. IsWithin n c.args.form.now) (sym c.in_ok-total.ensures.places) c.requires.within

pub add_linear_terms-summed-requires-clause-below : goal.add_linear_terms-summed-requires-clause-below
add_linear_terms-summed-requires-clause-below g c = subst (λ n. AreTermsBelow n c.args.terms.now) (sym (c.in_ok-put.ensures.places ∙ c.in_ok-total.ensures.places)) c.requires.below

pub returns-clause-pad : goal.returns-clause-pad
returns-clause-pad g c =
    on_ok c.entry_of_sum.result _ _
    (λ h. subst (λ n. IfSome c.entry_of_sum.new.room.pad (λ p. p ≡ n)) (c.add_linear_terms-summed.ensures.places ∙ c.in_ok-put.ensures.places ∙ c.in_ok-total.ensures.places) h)
    c.entry_of_sum.ensures.pad

pub returns-clause-entry : goal.returns-clause-entry
returns-clause-entry g c =
    if_ok c.entry_of_sum.result _ _
    (λ e h. subst (λ l. ComesToTerms l c.args.first (linear_terms c.args.terms.now) e) c.in_ok-put.ensures.line
    (h (sum_line c.put.new.total) c.args.first (linear_terms c.args.terms.now)
    c.add_linear_terms-summed.ensures.adds))
    c.entry_of_sum.ensures.entry
