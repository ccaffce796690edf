use Rattle.std.proofs.Common.{◌≡◌, ◌∙◌, length, refl, rules, subst}
use Rattle.row_scaling.proofs.TieLemmas.{insert_last, tied_kept}
use Rattle.row_scaling.specs.InsideParts.{IsColumn, IsTieRow}
use Rattle.row_scaling.proofs.tied.tied_parts.Goals as goal

pub returns : goal.returns
returns c =
    let s = c.args in
    let constraints : c.len-constraints.result ≡ length s.rows.items = search rules in
    let variables : c.len-variables.result ≡ length s.bounds.items = search rules in
    tied_kept _ s.rows.items s.objective s.bounds.items s.kinds.items constraints variables refl s.tie c.in_ok-row.row c.in_ok-alone.alone c.requires refl
    (subst (λ n. IsTieRow n s.objective s.tie c.in_ok-row.row) variables c.in_ok-row.ensures)
    (subst (λ n. IsColumn n c.in_ok-alone.alone) variables c.in_ok-alone.ensures)
    (c.in_ok-insert.ensures.items ∙ insert_last _ _ _ constraints) c.in_ok-push.ensures.items c.in_ok-push-2.ensures.items refl
