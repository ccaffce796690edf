use Rattle.std.proofs.Common.{arith}
use Rattle.nl_segments.specs.Held.{body_of}
use Rattle.nl_segments.proofs.NodeFronts.{at_most_one, leaf_can, leaf_few, leaf_first}
use Rattle.nl_segments.proofs.body.BodyReader.take_leaf_line.Goals as goal

pub take_next_row-taken-requires : goal.take_next_row-taken-requires
take_next_row-taken-requires c =
    leaf_can (body_of c.args.self.now) c.args.piece.now c.in-Some.first.len c.in-Some.first.leaf c.in-Ok.row c.args.number c.requires.awaited c.requires.held c.in-Some.ensures c.in-Ok.ensures

pub returns : goal.returns
returns c =
    leaf_first (body_of c.args.self.now) c.args.piece.now c.args.number c.in-Some.first.len c.in-Some.first.leaf
    c.in-Ok.row c.row_count.result c.take_next_row-taken.new.builder c.take_next_row-taken.new.current
    c.take_next_row-taken.new.places
    c.requires.awaited c.in-Some.ensures c.in-Ok.ensures c.row_count.ensures (c.take_next_row-taken.ensures.places c.if-not-taken.false) (c.take_next_row-taken.ensures.settled c.if-not-taken.false)

pub overflow_add-self : goal.overflow_add-self
overflow_add-self c =
    let few = leaf_few (body_of c.args.self.now) c.args.piece.now c.in-Some.first.len c.in-Some.first.leaf c.in-Ok.row c.in-Some.ensures c.in-Ok.ensures in
    record { fits = omega (arith, few, c.row_count.ensures, at_most_one c.in-Ok.row) }
