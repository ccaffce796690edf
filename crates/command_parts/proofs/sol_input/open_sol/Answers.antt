use Rattle.sol_files.specs.Reader.{IsSol}
use Rattle.command_parts.specs.Refusal.{IsSolRefused}
use Rattle.command_core.specs.SeveralFiles.{itself}
use Rattle.command_parts.proofs.Opened.{read_as, sol_refused}
use Rattle.command_parts.proofs.sol_input.open_sol.Goals as goal

pub returns-clause-reads : goal.returns-clause-reads
returns-clause-reads g c = read_as itself _ IsSol _ (IsSolRefused c.args.file) (λ text r h. h) (sol_refused c.args.file) c.args.name.now _ _ c.open.result c.open.ensures.reads
