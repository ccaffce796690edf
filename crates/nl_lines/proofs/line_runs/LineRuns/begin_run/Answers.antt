use Rattle.std.proofs.Common.{refl}
use Rattle.nl_lines.proofs.RunLemmas.{begun}
use Rattle.nl_lines.proofs.line_runs.LineRuns.begin_run.Goals as goal

pub returns : goal.returns
returns c = begun c.args.self.now c.self.inside.earlier c.push.new.self c.self.inside.last _ c.args.line c.self.view_is c.in_ok-push.ensures.ok refl refl
