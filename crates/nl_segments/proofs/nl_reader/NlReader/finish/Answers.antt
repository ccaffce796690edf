use Rattle.std.proofs.Common.{sym, subst}
use Rattle.text_base.specs.Reading.{Reads}
use Rattle.nl_segments.specs.Grammar.{nl_rules, SaysFile}
use Rattle.nl_segments.specs.Reader.{IsFed, value_of}
use Rattle.nl_segments.proofs.CleanTexts.{has_lines}
use Rattle.nl_segments.proofs.StandingLemmas.{answered}
use Rattle.nl_segments.proofs.nl_reader.NlReader.finish.Goals as goal

pub returns-in-Ok-clause-lines : goal.returns-in-Ok-clause-lines
returns-in-Ok-clause-lines c =
    has_lines c.self.invariant.0 c.in-Ok.read
    (subst (Reads nl_rules (λ lines r. SaysFile lines (value_of r)) c.self.invariant.0) c.in-Ok.is (c.finish.ensures.reads c.self.invariant.0 c.self.invariant.1))

pub returns-in-Err-clause-reads : goal.returns-in-Err-clause-reads
returns-in-Err-clause-reads c = λ text fed.
    answered text c.in-Err.stop c.stop_of.result c.stop_of.ensures
    (subst (Reads nl_rules (λ lines r. SaysFile lines (value_of r)) text) c.in-Err.is (c.finish.ensures.reads text (subst (λ r. IsFed r text) (sym c.self.view_is) fed)))
