use Rattle.std.proofs.Common.{◌∙◌, suc, [], ◌∷◌, ap, arith, subst, sym}
use Rattle.linear_program.specs.Coefs.{AreAscending, AreBelow, coef_in, value_or_zero}
use Rattle.linear_program.proofs.Closing.{found_last, found_other}
use Rattle.linear_program.proofs.CoefLemmas.{ascending_last, below_append, below_from, found_beyond, not_zero}
use Rattle.linear_program.proofs.merged.put_term.Goals as goal

pub returns-then-is_zero-clause-below : goal.returns-then-is_zero-clause-below
returns-then-is_zero-clause-below c = let v = c.args.variable in below_from v (suc v) c.args.done.now.items (omega arith) c.requires

pub returns-then-is_zero-clause-coef : goal.returns-then-is_zero-clause-coef
returns-then-is_zero-clause-coef c =
    let v = c.args.variable in
    ap value_or_zero (found_beyond v c.args.done.now.items v c.requires (omega arith)) ∙ sym (c.is_zero.ensures.0 c.if-is_zero.true)

pub returns-clause-below : goal.returns-clause-below
returns-clause-below c =
    let v = c.args.variable in
    let done = c.args.done.now.items in
    subst (AreBelow (suc v)) (sym c.in_ok-push.ensures.items) (below_append (suc v) done ((v, c.args.value) ∷ []) (below_from v (suc v) done (omega arith) c.requires) (omega arith, tt))

pub returns-clause-ascending : goal.returns-clause-ascending
returns-clause-ascending c a =
    subst (AreAscending 0) (sym c.in_ok-push.ensures.items)
    (ascending_last c.args.done.now.items c.args.variable c.args.value a c.requires (not_zero c.is_zero.result _ c.is_zero.ensures.1 c.if-is_zero.false))

pub returns-clause-coef : goal.returns-clause-coef
returns-clause-coef c =
    let v = c.args.variable in
    let done = c.args.done.now.items in
    ap (λ l. coef_in l v) c.in_ok-push.ensures.items ∙ ap value_or_zero (found_last done (v, c.args.value) (found_beyond v done v c.requires (omega arith)))

pub returns-clause-others : goal.returns-clause-others
returns-clause-others c i n =
    ap (λ l. coef_in l i) c.in_ok-push.ensures.items ∙ ap value_or_zero (found_other c.args.done.now.items (c.args.variable, c.args.value) i n)
