use Rattle.std.proofs.Common.{◌≡◌, ◌≢◌, ◌∙◌, ◌<◌, List, ℕ, All, IfSome, get_or, subst, sym}
use Rattle.mps_words.proofs.CodeLemmas.{none_behind}
use Rattle.mps_words.proofs.codes.Codes.look_up.Goals as goal

pub returns-clause-found : goal.returns-clause-found
returns-clause-found c =
    let all = subst (λ (codes : List ℕ). All (λ n. 0 < n) codes) (sym c.self.view_is) c.requires in
    let same : c.self.inside.short ≡ c.args.self.now = none_behind c.self.inside.short c.self.inside.behind.items all c.self.invariant.long_first ∙ c.self.view_is in
    subst (λ (codes : List ℕ). IfSome c.find.result (λ p. get_or codes p 0 ≡ c.args.code)) same c.find.ensures.found

pub returns-clause-absent : goal.returns-clause-absent
returns-clause-absent c = λ none.
    let all = subst (λ (codes : List ℕ). All (λ n. 0 < n) codes) (sym c.self.view_is) c.requires in
    let same : c.self.inside.short ≡ c.args.self.now = none_behind c.self.inside.short c.self.inside.behind.items all c.self.invariant.long_first ∙ c.self.view_is in
    subst (λ (codes : List ℕ). All (λ n. n ≢ c.args.code) codes) same (c.find.ensures.absent none)
