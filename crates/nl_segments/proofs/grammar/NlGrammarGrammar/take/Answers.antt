use Rattle.std.proofs.Common.{subst, sym}
use Rattle.nl_segments.specs.Grammar.{standing}
use Rattle.nl_segments.specs.Held.{HoldsStanding}
use Rattle.nl_segments.specs.Steps.{after}
use Rattle.nl_segments.proofs.StandingLemmas.{line_taken}
use Rattle.nl_segments.proofs.grammar.NlGrammarGrammar.take.Goals as goal

pub invariant_of-self : goal.invariant_of-self
invariant_of-self c = (after c.self.invariant.0 c.args.number c.args.line.now, (c.in-Ok.ensures c.self.invariant.0 c.self.invariant.1).1)

pub returns-in-Ok-clause-taken : goal.returns-in-Ok-clause-taken
returns-in-Ok-clause-taken c = λ lines e h. line_taken _ _ c.args.line.now c.args.number c.in-Ok.ensures lines e (subst (HoldsStanding (standing lines)) (sym c.self.view_is) h)
