use Rattle.row_scaling.proofs.LineLemmas.{marked_is}
use Rattle.row_scaling.proofs.column_lines.is_marked.Goals as goal

pub returns : goal.returns
returns c = λ s h. marked_is s c.args.heads.now h c.args.j c.requires c.index.result.now _ c.index.ensures c.is_whole.ensures
