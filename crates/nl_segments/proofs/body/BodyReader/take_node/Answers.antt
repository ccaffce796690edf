use Rattle.text_base.specs.Words.{texts}
use Rattle.nl_segments.specs.Held.{body_of}
use Rattle.nl_segments.proofs.NodeSteps.{node_refused}
use Rattle.nl_segments.proofs.body.BodyReader.take_node.Goals as goal

pub returns-in-Err : goal.returns-in-Err
returns-in-Err c = node_refused (body_of c.args.self.now) (texts c.args.words.now) c.in-Err.reason c.requires.awaited c.requires.row c.in-Err.ensures

pub keep_node-requires-clause-good : goal.keep_node-requires-clause-good
keep_node-requires-clause-good c = (texts c.args.words.now, record { plain = c.requires.row; fine = c.in-Ok.ensures.0; read = c.in-Ok.ensures.1 })

pub returns : goal.returns
returns c = c.keep_node.ensures (texts c.args.words.now) (record { plain = c.requires.row; fine = c.in-Ok.ensures.0; read = c.in-Ok.ensures.1 })
