use Rattle.std.proofs.Common.{◌∙◌, ap}
use Rattle.nl_segments.specs.Held.{body_of}
use Rattle.nl_segments.specs.InsideHeadSteps.{begun_current}
use Rattle.nl_segments.proofs.PieceFronts.{head_alone, with_passed}
use Rattle.nl_segments.proofs.body.BodyReader.begin_alone.Goals as goal

pub make_room-requires : goal.make_room-requires
make_room-requires c = c.requires.range

pub pass_head-requires-clause-given : goal.pass_head-requires-clause-given
pass_head-requires-clause-given c = c.requires.given

pub pass_head-requires-clause-owner : goal.pass_head-requires-clause-owner
pass_head-requires-clause-owner c = c.requires.owner

pub pass_head-requires-clause-seen : goal.pass_head-requires-clause-seen
pass_head-requires-clause-seen c = c.requires.seen

pub returns : goal.returns
returns c = λ text.
    let b = body_of c.args.self.now in
    let passed = body_of c.pass_head.new.self in
    head_alone b _ c.args.head c.args.line text
    (with_passed b passed c.make_room.new.builder c.args.head c.args.line c.begun_current.result c.in-Ok.ensures c.pass_head.ensures
    (c.begun_current.ensures ∙ ap (λ k. begun_current k c.args.head c.args.line) (c.counts.ensures.value ∙ c.header.ensures.counts ∙ ap (λ x. x.draft.counts) c.pass_head.ensures)))
