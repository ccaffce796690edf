use Rattle.std.proofs.Common.{arith}
use Rattle.text_base.proofs.FrontLemmas.{front_few}
use Rattle.nl_segments.specs.Held.{body_of}
use Rattle.nl_segments.proofs.StandingLemmas.{goes_on, still_some}
use Rattle.nl_segments.proofs.body.BodyReader.take_nodes.Goals as goal

pub overflow_add-number : goal.overflow_add-number
overflow_add-number c =
    let first = c.take_leaf_line-first.ensures in
    let few = front_few c.args.piece.now c.take_leaf_line-first.result first.lines first.is in
    record { fits = omega (arith, c.requires.few, few, first.is.within) }

pub take_node_run-more-requires-clause-held : goal.take_node_run-more-requires-clause-held
take_node_run-more-requires-clause-held c =
    still_some (body_of c.args.self.now) (body_of c.take_leaf_line-first.new.self) c.args.piece.now c.args.number c.take_leaf_line-first.result c.take_leaf_line-first.ensures c.requires.held

pub take_node_run-more-requires-clause-few : goal.take_node_run-more-requires-clause-few
take_node_run-more-requires-clause-few c =
    let first = c.take_leaf_line-first.ensures in
    let few = front_few c.args.piece.now c.take_leaf_line-first.result first.lines first.is in
    omega (arith, c.requires.few, few, first.is.within, c.split_at.ensures.back_len)

pub overflow_add-result-2 : goal.overflow_add-result-2
overflow_add-result-2 c =
    let first = c.take_leaf_line-first.ensures in
    let more = c.take_node_run-more.ensures in
    let few = front_few c.args.piece.now c.take_leaf_line-first.result first.lines first.is in
    let few_more = front_few c.split_at.result.1.now c.take_node_run-more.result more.lines more.is in
    record { fits = omega (arith, c.requires.few, few, few_more, first.is.within, more.is.within, c.split_at.ensures.back_len) }

pub returns : goal.returns
returns c =
    goes_on (body_of c.args.self.now) (body_of c.take_leaf_line-first.new.self) (body_of c.take_node_run-more.new.self)
    c.args.piece.now c.split_at.result.1.now c.args.number c.take_leaf_line-first.result c.take_node_run-more.result
    c.take_leaf_line-first.ensures c.split_at.ensures.back c.take_node_run-more.ensures
