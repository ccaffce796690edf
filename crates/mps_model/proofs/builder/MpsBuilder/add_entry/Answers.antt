use Rattle.std.proofs.Common.{◌≡◌, ◌∙◌, arith, length}
use Rattle.mps_model.proofs.Adding.{entry_added, entry_last}
use Rattle.mps_model.proofs.builder.MpsBuilder.add_entry.Goals as goal

pub invariant_of-self-2 : goal.invariant_of-self-2
invariant_of-self-2 c =
    let count : c.len-last.result ≡ length c.self.inside.columns.items = c.len-last.ensures ∙ omega (arith, c.self.inside.columns.ok.0) in
    entry_added _ _ _ _ _ _ _ c.self.invariant c.self.view_is c.requires count c.index_mut-column.ensures.value c.in_ok-push.ensures.ok

pub returns-clause-ok : goal.returns-clause-ok
returns-clause-ok c =
    let count : c.len-last.result ≡ length c.self.inside.columns.items = c.len-last.ensures ∙ omega (arith, c.self.inside.columns.ok.0) in
    entry_last _ _ _ _ _ _ c.self.view_is c.requires.some count c.index_mut-column.ensures.value c.in_ok-push.ensures.ok
