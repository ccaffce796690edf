use Rattle.std.proofs.Common.{arith}
use Rattle.text_base.proofs.FrontLemmas.{front_few}
use Rattle.nl_segments.specs.Held.{body_of}
use Rattle.nl_segments.proofs.StandingLemmas.{goes_on, still_some}
use Rattle.nl_segments.proofs.body.BodyReader.take_front.Goals as goal

pub take_run-run-requires-clause-held : goal.take_run-run-requires-clause-held
take_run-run-requires-clause-held c = still_some (body_of c.args.self.now) (body_of c.runs.self) c.args.piece.now c.args.number c.runs.front c.runs.invariant.takes c.requires.held

pub overflow_add-front-in-runs : goal.overflow_add-front-in-runs
overflow_add-front-in-runs c =
    let run = c.take_run-run.ensures in
    let more = front_few c.split_at.result.1.now c.take_run-run.result run.lines run.is in
    record { fits = omega (arith, c.requires.few, c.runs.invariant.few, c.runs.invariant.within, more, run.is.within, c.split_at.ensures.back_len) }

pub returns-then-run-eq0 : goal.returns-then-run-eq0
returns-then-run-eq0 c =
    goes_on (body_of c.args.self.now) (body_of c.runs.self) (body_of c.take_run-run.new.self) c.args.piece.now
    c.split_at.result.1.now c.args.number c.runs.front c.take_run-run.result c.runs.invariant.takes
    c.split_at.ensures.back c.take_run-run.ensures

pub runs-preserved : goal.runs-preserved
runs-preserved c =
    let run = c.take_run-run.ensures in
    let more = front_few c.split_at.result.1.now c.take_run-run.result run.lines run.is in
    record {
      within = omega (arith, c.runs.invariant.within, run.is.within, c.split_at.ensures.back_len);
      few = omega (arith, c.runs.invariant.few, more);
      takes = goes_on (body_of c.args.self.now) (body_of c.runs.self) (body_of c.take_run-run.new.self) c.args.piece.now
          c.split_at.result.1.now c.args.number c.runs.front c.take_run-run.result c.runs.invariant.takes
          c.split_at.ensures.back run;
    }
