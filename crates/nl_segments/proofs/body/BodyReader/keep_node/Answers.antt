use Rattle.nl_segments.specs.Held.{body_of}
use Rattle.nl_segments.proofs.NodeSteps.{can_keep_node, node_kept}
use Rattle.nl_segments.proofs.body.BodyReader.keep_node.Goals as goal

pub take_row-requires : goal.take_row-requires
take_row-requires c = can_keep_node (body_of c.args.self.now) c.args.row c.args.line c.requires.awaited c.requires.good c.requires.held

pub returns : goal.returns
returns c =
    node_kept (body_of c.args.self.now) c.args.row c.args.line c.row_count.result c.take_row.new.builder c.take_row.new.current c.take_row.new.places c.requires.awaited c.row_count.ensures
    c.in_ok-take_row.ensures.places c.in_ok-take_row.ensures.settled
