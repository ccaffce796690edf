use Rattle.std.proofs.Common.{◌∙◌, ap, subst, sym}
use Rattle.nl_lines.specs.Tests.{is_sides}
use Rattle.nl_segments.specs.Held.{body_of}
use Rattle.nl_segments.specs.InsideTermRuns.{TakesLines}
use Rattle.nl_segments.proofs.LineFronts.{awaits_intervals}
use Rattle.nl_segments.proofs.body.BodyReader.take_intervals.Goals as goal

pub give_intervals-front-requires : goal.give_intervals-front-requires
give_intervals-front-requires c =
    let b = body_of c.args.self.now in
    record {
      body = b;
      current = c.in-Some.current;
      is = awaits_intervals c.left.result c.is_sides-of_constraint.result b c.in-Some.current c.in-Some.is
          c.requires.awaited c.requires.held c.left.ensures (c.is_sides-of_constraint.ensures
          ∙ ap is_sides c.head.ensures);
      held = c.requires.held;
    }

pub returns : goal.returns
returns c =
    let b = body_of c.args.self.now in
    let front = c.give_intervals-front.result in
    let is = awaits_intervals c.left.result c.is_sides-of_constraint.result b c.in-Some.current c.in-Some.is
    c.requires.awaited c.requires.held c.left.ensures (c.is_sides-of_constraint.ensures ∙ ap is_sides c.head.ensures)
    in
    subst (TakesLines b c.args.piece.now c.args.number front)
    (λ i. record b { draft = c.give_intervals-front.new.builder; current = sym (rw c.in-Some.is at c.count_lines.ensures) i })
    (c.give_intervals-front.ensures.takes b c.in-Some.current c.args.number is)
