use Rattle.std.proofs.Common.{ap, subst}
use Rattle.nl_model.specs.Expressions.{linear_terms}
use Rattle.linear_program.specs.Forms.{form_line}
use Rattle.linear_fold.specs.InsideFolds.{ComesToTerms}
use Rattle.linear_fold.specs.InsideLinearTerms.{AreStrictlyAscending}
use Rattle.linear_fold.proofs.HeldLemmas.{number_line}
use Rattle.linear_fold.proofs.OrderLemmas.{in_order}
use Rattle.linear_fold.proofs.ascending.form_in_order.Goals as goal

pub returns-clause-entry : goal.returns-clause-entry
returns-clause-entry g c =
    let number = c.args.number.now in
    in_order (form_line number) c.args.first c.args.terms.now c.in_ok-ordered.ordered.items c.in_ok-entry.entry
    (c.are_kept.ensures c.if-not-are_kept.false) c.in_ok-ordered.ensures.order
    (subst (λ ts. AreStrictlyAscending 0 (linear_terms ts)) c.deref.ensures.value (c.are_ascending.ensures.0 c.if-not-are_ascending.false))
    (λ j. ap (λ l. l.coef j) (number_line number c.requires.number))
    (subst (λ ts. ComesToTerms (form_line number) c.args.first (linear_terms ts) c.in_ok-entry.entry) c.deref-2.ensures.value c.in_ok-entry.ensures.entry)
