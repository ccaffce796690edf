use Rattle.nl_segments.specs.Held.{body_of}
use Rattle.nl_segments.proofs.PairHeld.{column_step}
use Rattle.nl_lines.proofs.WholeRows.{column_fine, whole_plain}
use Rattle.nl_segments.proofs.body.BodyReader.take_known_column.Goals as goal

pub returns : goal.returns
returns c = λ words whole.
    column_step (body_of c.args.self.now) words c.args.line c.args.number _ _ c.requires.awaited
    (whole_plain words c.args.number whole) (column_fine words c.args.number whole) whole.says
    c.in_ok-push.ensures.items c.count_line.ensures
