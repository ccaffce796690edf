use Rattle.std.proofs.Common.{◌∙◌, ap, subst, sym}
use Rattle.nl_segments.specs.Grammar.{standing}
use Rattle.nl_segments.specs.Held.{Finishes, body_of, progress_of}
use Rattle.nl_segments.proofs.StandingLemmas.{end_in_header, end_fine, end_fault}
use Rattle.nl_segments.proofs.grammar.NlGrammarGrammar.finish.Goals as goal

pub returns-in-Body-clause-fine : goal.returns-in-Body-clause-fine
returns-in-Body-clause-fine c = end_fine (body_of c.in-Body.body) c.args.self
    (ap progress_of (sym c.in-Body.is) ∙ c.self.view_is) c.finish.result
    (subst (λ x. Finishes (body_of x) c.finish.result) c.in-Body.body-is c.finish.ensures)

pub returns-in-Body-clause-fault : goal.returns-in-Body-clause-fault
returns-in-Body-clause-fault c = end_fault (body_of c.in-Body.body) c.args.self
    (ap progress_of (sym c.in-Body.is) ∙ c.self.view_is) c.finish.result
    (subst (λ x. Finishes (body_of x) c.finish.result) c.in-Body.body-is c.finish.ensures)

pub returns-in-Header-clause-fault : goal.returns-in-Header-clause-fault
returns-in-Header-clause-fault c = λ lines h. end_in_header c.in-Header.field-0 c.args.self (ap progress_of (sym c.in-Header.is) ∙ c.self.view_is) (standing lines) h
