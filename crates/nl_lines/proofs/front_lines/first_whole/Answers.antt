use Rattle.nl_lines.proofs.FrontRows.{whole_row}
use Rattle.nl_lines.proofs.front_lines.first_whole.Goals as goal

pub returns : goal.returns
returns c = whole_row c.args.text.now c.in-Some.whole.len c.in-Some.whole.number c.in-Some.ensures
