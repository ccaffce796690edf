use Rattle.std.proofs.Common.{◌<◌, [], length, get_or, sym, subst}
use Rattle.nl_model.specs.Rules.{most_terms}
use Rattle.nl_model.specs.InsideBuilt.{draft_of}
use Rattle.nl_model.proofs.Drafts.{kept-slope}
use Rattle.nl_model.proofs.builder.NlBuilder.slope.Goals as goal

pub invariant_of-self-2 : goal.invariant_of-self-2
invariant_of-self-2 c =
    let is = sym c.self.view_is in
    kept-slope (draft_of c.self.inside) c.self.inside.defined.items c.self.inside.term_count c.args.k (c.args.var, c.args.value) c.index_mut-cost.result.now c.push.new.self c.self.invariant
    (subst (λ d. c.args.k < d.counts.n_obj) is c.requires.k)
    (subst (λ d. c.args.var < d.counts.n_var) is c.requires.var)
    (subst (λ d. length (get_or d.slopes c.args.k []) < most_terms) is c.requires.few)
    c.index_mut-cost.ensures.value c.in_ok-push.ensures.ok
