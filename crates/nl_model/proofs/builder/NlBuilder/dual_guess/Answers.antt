use Rattle.std.proofs.Common.{◌≢◌, ◌<◌, All, sym, subst}
use Rattle.nl_model.specs.InsideBuilt.{draft_of}
use Rattle.nl_model.proofs.Guesses.{guesses-push, kept-dual}
use Rattle.nl_model.proofs.builder.NlBuilder.dual_guess.Goals as goal

pub invariant_of-self-2 : goal.invariant_of-self-2
invariant_of-self-2 c =
    let is = sym c.self.view_is in
    let d = draft_of c.self.inside in
    kept-dual d c.self.inside.defined.items c.self.inside.term_count c.push.new.self c.self.invariant
    (guesses-push d.counts.n_con d.dual_guesses (c.args.con, c.args.value) c.push.new.self c.self.invariant.draft.dual_guesses
    (subst (λ d. c.args.con < d.counts.n_con) is c.requires.con)
    (subst (λ d. All (λ t. t.0 ≢ c.args.con) d.dual_guesses) is c.requires.fresh)
    c.in_ok-push.ensures.ok)
