use Rattle.std.proofs.Common.{sym, subst}
use Rattle.linear_program.specs.Coefs.{AreAscending, AreBelow}
use Rattle.linear_program.proofs.CoefLemmas.{ascending_last}
use Rattle.linear_program.proofs.fraction_terms.FractionTerms.push.Goals as goal

pub invariant_of-self-2 : goal.invariant_of-self-2
invariant_of-self-2 c =
    subst (AreAscending 0) (sym c.in_ok-push.ensures.items)
    (ascending_last c.self.inside.items.items c.args.variable c.args.factor c.self.invariant (subst (AreBelow c.args.variable) (sym c.self.view_is) c.requires.last) c.requires.factor)
