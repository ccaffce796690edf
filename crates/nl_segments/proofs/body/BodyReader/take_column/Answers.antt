use Rattle.text_base.specs.Words.{texts}
use Rattle.nl_segments.specs.Held.{body_of}
use Rattle.nl_segments.proofs.PairHeld.{column_refused}
use Rattle.nl_lines.proofs.WholeRows.{column_row}
use Rattle.nl_segments.proofs.body.BodyReader.take_column.Goals as goal

pub returns-in-Err : goal.returns-in-Err
returns-in-Err c = column_refused (body_of c.args.self.now) _ _ c.requires.awaited c.requires.row c.in-Err.ensures

pub returns : goal.returns
returns c = c.take_known_column.ensures (texts c.args.words.now) (column_row (texts c.args.words.now) c.in-Ok.number c.in-Ok.ensures.0 c.in-Ok.ensures.1)
