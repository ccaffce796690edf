use Rattle.nl_segments.specs.Held.{body_of}
use Rattle.nl_segments.proofs.PieceFronts.{can_take_term, term_taken_at_once}
use Rattle.nl_segments.proofs.body.BodyReader.begin_term.Goals as goal

pub term-requires-clause-con : goal.term-requires-clause-con
term-requires-clause-con c = (can_take_term (body_of c.args.self.now) c.args.con c.args.line c.args.text.now c.in-Some.first c.requires.may c.in-Some.ensures).give.0

pub term-requires-clause-few : goal.term-requires-clause-few
term-requires-clause-few c = (can_take_term (body_of c.args.self.now) c.args.con c.args.line c.args.text.now c.in-Some.first c.requires.may c.in-Some.ensures).give.2

pub count_use-requires : goal.count_use-requires
count_use-requires c = (can_take_term (body_of c.args.self.now) c.args.con c.args.line c.args.text.now c.in-Some.first c.requires.may c.in-Some.ensures).use_of

pub returns : goal.returns
returns c =
    term_taken_at_once (body_of c.args.self.now) c.args.con c.args.line c.args.text.now c.in-Some.first c.requires.may c.in-Some.ensures
    (body_of c.pass_head.new.self) c.term.new.self c.count_use.new.uses.items c.add_terms.new.self c.in-Ok.ensures.ok c.count_use.ensures c.pass_head.ensures c.add_terms.ensures
