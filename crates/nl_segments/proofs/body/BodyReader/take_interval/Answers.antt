use Rattle.std.proofs.Common.{◌∙◌, sym, ap, subst}
use Rattle.text_base.specs.Judged.{first_reason}
use Rattle.text_base.specs.Words.{texts}
use Rattle.nl_segments.specs.Held.{body_of}
use Rattle.nl_segments.specs.InsideLineSteps.{next_interval_tests, with_interval, HasRoom}
use Rattle.nl_lines.specs.Tests.{is_sides}
use Rattle.nl_segments.proofs.PairHeld.{interval_refused, interval_step, next_interval}
use Rattle.nl_segments.proofs.body.BodyReader.take_interval.Goals as goal

pub returns-in-Err : goal.returns-in-Err
returns-in-Err c =
    interval_refused (body_of c.args.self.now) c.in-Some.current _ _ c.in-Some.is c.requires.awaited c.requires.row
    (ap (λ k. first_reason (next_interval_tests k c.in-Some.current (texts c.args.words.now))) (sym c.header.ensures.counts) ∙ c.in-Err.ensures)

pub add_interval-requires-clause-room : goal.add_interval-requires-clause-room
add_interval-requires-clause-room c =
    let next = next_interval (body_of c.args.self.now) c.in-Some.current c.in-Some.is c.requires.awaited c.requires.held in
    subst (HasRoom c.args.self.now.builder) (sym (c.is_sides-of_constraint.ensures ∙ ap is_sides c.head.ensures)) next.room

pub returns : goal.returns
returns c =
    interval_step (body_of c.args.self.now) c.in-Some.current _ _ c.in-Ok.interval _ _ c.in-Some.is c.requires.awaited c.requires.row
    (ap (λ k. first_reason (next_interval_tests k c.in-Some.current (texts c.args.words.now))) (sym c.header.ensures.counts) ∙ c.in-Ok.ensures.0) c.in-Ok.ensures.1.says
    (c.in_ok-add_interval.ensures.ok ∙ ap (λ b. with_interval c.args.self.now.builder b c.in-Ok.interval) (c.is_sides-of_constraint.ensures ∙ ap is_sides c.head.ensures)) c.count_line.ensures
