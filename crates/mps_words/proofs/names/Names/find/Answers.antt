use Rattle.std.proofs.Common.{◌∙◌, sym, subst, ℕ, ◌<◌}
use Rattle.mps_words.proofs.CodeLemmas.{are_bytes, place_by_code}
use Rattle.mps_words.proofs.KeptNames.{as_seen}
use Rattle.mps_words.proofs.names.Names.find.Goals as goal

pub returns-in-Some : goal.returns-in-Some
returns-in-Some c =
    sym (place_by_code c.args.self.now c.self.inside.codes c.args.name.now c.in-Some.place
    (as_seen _ c.self.inside.codes _ c.self.invariant c.self.view_is) (are_bytes c.args.name.now c.type_inv.name)
    c.in-Some.ensures.within (c.in-Some.ensures.code ∙ c.of-key.ensures)
    (subst (λ (code : ℕ). 0 < code) c.of-key.ensures c.in-Some.ensures.short))
