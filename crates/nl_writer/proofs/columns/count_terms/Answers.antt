use Rattle.std.proofs.Common.{◌<◌, arith, length, subst, sym, take}
use Rattle.std.proofs.lemmas.List.{length-take-le}
use Rattle.nl_model.proofs.UseLemmas.{uses_in-most}
use Rattle.nl_writer.proofs.columns.count_terms.Goals as goal

pub overflow_add-uses : goal.overflow_add-uses
overflow_add-uses c =
    let t = c.term-item.result in
    let k = c.loop-term.term-index in
    let inside : t.0 < length c.args.uses.now = subst (λ x. x.0 < length c.args.uses.now) (sym c.term-item.is) (c.requires.below k t (omega arith)) in
    omega (arith, c.loop-term.invariant t.0 inside, uses_in-most (take k c.args.terms.now) t.0, length-take-le k c.args.terms.now (omega arith), c.requires.room t.0 inside)
