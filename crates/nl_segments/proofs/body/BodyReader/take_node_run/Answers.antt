use Rattle.std.proofs.Common.{◌≡◌, ◌∙◌, ◌+◌, ap, subst, sym, true}
use Rattle.nl_segments.specs.Held.{body_of}
use Rattle.nl_segments.specs.InsideLineSteps.{unless_complete}
use Rattle.nl_segments.specs.InsideNodeRuns.{settled_draft}
use Rattle.nl_segments.specs.InsidePlaceSteps.{nodes_follow, with_node_run}
use Rattle.nl_segments.specs.InsideTermRuns.{TakesLines}
use Rattle.nl_segments.proofs.NodeRuns.{awaits_nodes, can_settle, settled_as}
use Rattle.nl_segments.proofs.PairLines.{has_owner}
use Rattle.nl_segments.proofs.body.BodyReader.take_node_run.Goals as goal

pub nodes_follow-requires : goal.nodes_follow-requires
nodes_follow-requires c = has_owner c.requires.held.0 (body_of c.args.self.now) c.in-Some.current c.head-head.result c.requires.held.1 c.in-Some.is c.head-head.ensures

pub add_nodes-requires-clause-owner : goal.add_nodes-requires-clause-owner
add_nodes-requires-clause-owner c = has_owner c.requires.held.0 (body_of c.args.self.now) c.in-Some.current c.head-head.result c.requires.held.1 c.in-Some.is c.head-head.ensures

pub settle-requires : goal.settle-requires
settle-requires c =
    can_settle (body_of c.args.self.now) c.in-Some.current c.take_nodes-front.new.self c.in-Some.is c.requires.awaited c.requires.held c.take_nodes-front.ensures.same c.take_nodes-front.ensures.known

pub returns : goal.returns
returns c =
    let b = body_of c.args.self.now in
    let cur = c.in-Some.current in
    let next = c.take_nodes-front.new.self in
    let front = c.take_nodes-front.result in
    let same = c.take_nodes-front.ensures.same in
    let follows : nodes_follow b.places cur.head c.args.number ≡ true =
    ap (λ h. nodes_follow b.places h c.args.number) (sym c.head-head.ensures) ∙ sym c.nodes_follow.ensures
    ∙ c.if-not-nodes_follow.false in
    let settled = settled_as b.draft c.settle.new.builder next c.settle.new.current c.in-Ok.ensures.settled in
    subst (TakesLines b c.args.piece.now c.args.number front)
    (λ i. record b {
      draft = (ap (settled_draft b.draft) (sym same) ∙ settled.1) i;
      current = (ap unless_complete (sym same) ∙ settled.0) i;
      nodes = b.nodes + front.lines;
      places = sym (c.add_nodes.ensures ∙ ap (with_node_run b.places c.args.number front.lines) c.head-head.ensures) i;
    })
    (c.take_nodes-front.ensures.takes b c.args.number (awaits_nodes b cur c.args.number c.in-Some.is c.requires.awaited follows))
