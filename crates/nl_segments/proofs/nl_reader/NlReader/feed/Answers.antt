use Rattle.std.proofs.Common.{◌++◌, sym, subst}
use Rattle.nl_segments.specs.Reader.{IsFed}
use Rattle.nl_segments.proofs.StandingLemmas.{answered_so_far}
use Rattle.nl_segments.proofs.nl_reader.NlReader.feed.Goals as goal

pub invariant_of-self : goal.invariant_of-self
invariant_of-self c = (c.self.invariant.0 ++ c.args.piece.now, c.feed.ensures.stands c.self.invariant.0 c.self.invariant.1)

pub invariant_of-self-2 : goal.invariant_of-self-2
invariant_of-self-2 c = (c.self.invariant.0 ++ c.args.piece.now, c.feed.ensures.stands c.self.invariant.0 c.self.invariant.1)

pub returns-in-Err-clause-fault : goal.returns-in-Err-clause-fault
returns-in-Err-clause-fault c =
    answered_so_far (IsFed record {
      lines = c.self.inside.reader.lines;
      progress = c.self.inside.reader.grammar;
      stopped = c.self.inside.reader.stopped;
    }) (IsFed c.args.self.now) (λ text. text ++ c.args.piece.now)
    (λ text fed. subst (λ r. IsFed r text) (sym c.self.view_is) fed)
    c.in-Err.stop c.stop_of.result c.stop_of.ensures c.in-Err.ensures.fault
