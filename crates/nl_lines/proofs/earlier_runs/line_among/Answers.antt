use Rattle.nl_lines.proofs.RunLemmas.{first_found, first_passed}
use Rattle.nl_lines.proofs.earlier_runs.line_among.Goals as goal

pub returns-in-Ok : goal.returns-in-Ok
returns-in-Ok c = first_found c.args.first c.args.last c.args.more.now c.args.place c.in-Ok.line c.in-Ok.ensures

pub returns-in-Err : goal.returns-in-Err
returns-in-Err c = first_passed c.args.first c.args.last c.args.more.now c.args.place c.in-Err.left c.line_at.result c.in-Err.ensures c.line_at.ensures
