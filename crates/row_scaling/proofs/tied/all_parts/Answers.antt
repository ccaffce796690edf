use Rattle.std.proofs.Common.{◌≡◌, length, refl, rules}
use Rattle.row_scaling.proofs.TieLemmas.{plain_kept}
use Rattle.row_scaling.proofs.tied.all_parts.Goals as goal

pub returns-in-None : goal.returns-in-None
returns-in-None c =
    let s = c.args in
    let constraints : c.len.result ≡ length s.rows.items = search rules in
    let variables : c.len-in-None.result ≡ length s.bounds.items = search rules in
    plain_kept _ s.rows.items s.objective s.bounds.items s.kinds.items constraints variables refl s.tie c.in-None.is c.requires refl refl refl refl refl
