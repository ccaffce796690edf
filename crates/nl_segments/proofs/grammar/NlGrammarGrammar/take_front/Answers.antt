use Rattle.std.proofs.Common.{◌∙◌, ap, subst, sym}
use Rattle.text_base.specs.Fronts.{TakesFront}
use Rattle.nl_segments.specs.Grammar.{nl_rules, standing}
use Rattle.nl_segments.specs.Held.{HoldsStanding, body_of, in_body, progress_of}
use Rattle.nl_segments.proofs.StandingLemmas.{front_taken, still_some}
use Rattle.nl_segments.proofs.grammar.NlGrammarGrammar.take_front.Goals as goal

pub invariant_of-self-2 : goal.invariant_of-self-2
invariant_of-self-2 c = still_some (body_of c.in-Body.body) (body_of c.take_front.new.self) c.args.piece.now
    c.args.number c.take_front.result c.take_front.ensures (rw c.in-Body.is at c.self.invariant)

pub returns-clause-front : goal.returns-clause-front
returns-clause-front c =
    subst (λ g. TakesFront nl_rules (λ lines. HoldsStanding (standing lines) g)
    (λ lines. HoldsStanding (standing lines) (in_body (body_of c.take_front.new.self))) c.args.piece.now
    c.args.number c.take_front.result)
    (ap progress_of (sym c.in-Body.is) ∙ c.self.view_is)
    (front_taken (body_of c.in-Body.body) (body_of c.take_front.new.self) c.args.piece.now c.args.number c.take_front.result c.take_front.ensures)
