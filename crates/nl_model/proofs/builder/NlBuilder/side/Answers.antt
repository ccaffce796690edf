use Rattle.std.proofs.Common.{◌<◌, length, sym, subst}
use Rattle.nl_model.specs.InsideBuilt.{draft_of}
use Rattle.nl_model.proofs.Drafts.{kept-side}
use Rattle.nl_model.proofs.builder.NlBuilder.side.Goals as goal

pub invariant_of-self-2 : goal.invariant_of-self-2
invariant_of-self-2 c =
    let is = sym c.self.view_is in
    let d = draft_of c.self.inside in
    rw c.in_ok-push.ensures.items
    (kept-side d c.self.inside.defined.items c.self.inside.term_count c.args.side c.self.invariant
    (subst (λ d. length d.sides < d.counts.n_con) is c.requires.place) c.requires.ordered)
