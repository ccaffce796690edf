use Rattle.std.proofs.Common.{◌∙◌}
use Rattle.nl_segments.specs.Held.{body_of}
use Rattle.nl_segments.proofs.PairPiece.{refused_by, room_for}
use Rattle.nl_segments.proofs.body.BodyReader.take_pair.Goals as goal

pub read_next_pair-requires : goal.read_next_pair-requires
read_next_pair-requires c = room_for (body_of c.args.self.now) c.in-Some.current c.counts-counts.result.now
    c.head-head.result c.in-Some.is (c.counts-counts.ensures.value ∙ c.header.ensures.counts) c.head-head.ensures
    c.requires.held

pub returns-in-Err : goal.returns-in-Err
returns-in-Err c =
    refused_by (body_of c.args.self.now) c.in-Some.current _ c.counts-counts.result.now c.head-head.result
    c.is_full-full.result _ c.in-Some.is c.requires.awaited c.requires.row
    (c.counts-counts.ensures.value ∙ c.header.ensures.counts) c.head-head.ensures
    c.is_full-full.ensures c.in-Err.ensures
