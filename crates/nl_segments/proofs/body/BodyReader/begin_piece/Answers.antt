use Rattle.std.proofs.Common.{◌∙◌, ◌+◌, ap, arith, sym, subst}
use Rattle.nl_lines.specs.declared.head.Head.TheVariants.{Body as BodyHead}
use Rattle.nl_segments.specs.Held.{Body, body_of}
use Rattle.nl_segments.specs.InsidePlaceSteps.{HasOwner, nodes_follow}
use Rattle.nl_segments.proofs.PieceFronts.{few_nodes, leaf_taken, leaf_there, may, may_take_leaf, nodes_begin}
use Rattle.nl_segments.proofs.body.BodyReader.begin_piece.Goals as goal

pub body-requires-clause-con : goal.body-requires-clause-con
body-requires-clause-con c = (may_take_leaf (body_of c.args.self.now) c.args.head c.in-Some.first.con c.args.line
    c.args.text.now c.in-Some.first.len c.in-Some.first.tree c.in-Some.ensures c.requires.may).fresh.0

pub body-requires-clause-fresh : goal.body-requires-clause-fresh
body-requires-clause-fresh c = (may_take_leaf (body_of c.args.self.now) c.args.head c.in-Some.first.con c.args.line
    c.args.text.now c.in-Some.first.len c.in-Some.first.tree c.in-Some.ensures c.requires.may).fresh.1

pub body-requires-clause-within : goal.body-requires-clause-within
body-requires-clause-within c = (may_take_leaf (body_of c.args.self.now) c.args.head c.in-Some.first.con c.args.line
    c.args.text.now c.in-Some.first.len c.in-Some.first.tree c.in-Some.ensures c.requires.may).within

pub pass_head-requires-clause-owner : goal.pass_head-requires-clause-owner
pass_head-requires-clause-owner c = (may (body_of c.args.self.now) c.args.head c.in-Some.first.con c.args.line
    c.args.text.now c.in-Some.first.len c.in-Some.first.tree c.in-Some.ensures c.requires.may).owner

pub pass_head-requires-clause-seen : goal.pass_head-requires-clause-seen
pass_head-requires-clause-seen c = (may (body_of c.args.self.now) c.args.head c.in-Some.first.con c.args.line
    c.args.text.now c.in-Some.first.len c.in-Some.first.tree c.in-Some.ensures c.requires.may).seen

pub add_nodes-requires-clause-owner : goal.add_nodes-requires-clause-owner
add_nodes-requires-clause-owner c =
    subst (λ (x : Body). HasOwner x.places (BodyHead c.in-Some.first.con)) (sym c.pass_head.ensures)
    (leaf_there (body_of c.args.self.now) c.args.head c.in-Some.first.con c.args.line c.args.text.now c.in-Some.first.len c.in-Some.first.tree c.in-Some.ensures c.requires.may)

pub add_nodes-requires-clause-next : goal.add_nodes-requires-clause-next
add_nodes-requires-clause-next c =
    ap (λ (x : Body). nodes_follow x.places (BodyHead c.in-Some.first.con) (c.args.line + 1)) c.pass_head.ensures
    ∙ nodes_begin c.args.self.now.places c.in-Some.first.con c.args.line (c.args.line + 1)
    (may (body_of c.args.self.now) c.args.head c.in-Some.first.con c.args.line c.args.text.now c.in-Some.first.len
    c.in-Some.first.tree c.in-Some.ensures c.requires.may).owner

pub overflow_add-self : goal.overflow_add-self
overflow_add-self c =
    let few = few_nodes (body_of c.args.self.now) c.args.head c.in-Some.first.con c.args.line c.args.text.now c.in-Some.first.len c.in-Some.first.tree c.in-Some.ensures c.requires.may in
    let same = ap (λ (x : Body). x.nodes) c.pass_head.ensures in
    record { fits = omega (arith, few, same) }

pub returns : goal.returns
returns c =
    leaf_taken (body_of c.args.self.now) c.args.head c.in-Some.first.con c.args.line c.args.text.now c.in-Some.first.len c.in-Some.first.tree c.in-Some.ensures c.requires.may
    (body_of c.pass_head.new.self) c.body.new.self c.add_nodes.new.self c.body.ensures c.pass_head.ensures c.add_nodes.ensures
