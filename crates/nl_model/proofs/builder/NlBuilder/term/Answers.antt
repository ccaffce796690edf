use Rattle.std.proofs.Common.{◌<◌, sym, subst}
use Rattle.nl_model.specs.Rules.{term_count, most_terms}
use Rattle.nl_model.specs.InsideBuilt.{draft_of}
use Rattle.nl_model.proofs.Drafts.{kept-term}
use Rattle.nl_model.proofs.builder.NlBuilder.term.Goals as goal

pub invariant_of-self-2 : goal.invariant_of-self-2
invariant_of-self-2 c =
    let is = sym c.self.view_is in
    kept-term (draft_of c.self.inside) c.self.inside.defined.items c.self.inside.term_count c.args.con (c.args.var, c.args.value) c.index_mut-row.result.now c.push.new.self c.self.invariant
    (subst (λ d. c.args.con < d.counts.n_con) is c.requires.con)
    (subst (λ d. c.args.var < d.counts.n_var) is c.requires.var)
    (subst (λ d. term_count d.terms < most_terms) is c.requires.few)
    c.index_mut-row.ensures.value c.in_ok-push.ensures.ok
