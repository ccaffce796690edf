use Rattle.std.proofs.Common.{◌≡◌, ◌+◌, ◌-◌, ◌<◌, ◌≤◌, false, sym, ap, subst, arith}
use Rattle.nl_model.specs.HeaderRules.{defined_count}
use Rattle.nl_model.specs.Rules.{AreTermsBelow, IsDefinition, IsTreeWithin, is_defined}
use Rattle.nl_model.specs.InsideBuilt.{draft_of}
use Rattle.nl_model.proofs.Definitions.{kept-define}
use Rattle.nl_model.proofs.builder.NlBuilder.define.Goals as goal

pub invariant_of-self-2 : goal.invariant_of-self-2
invariant_of-self-2 c =
    let is = sym c.self.view_is in
    let d = draft_of c.self.inside in
    let from = subst (λ d. d.counts.n_var ≤ c.args.def.index) is c.requires.from in
    let fine : IsDefinition d.counts.n_var (defined_count d.counts) d.definitions c.args.def = record {
      from = from;
      below = subst (λ d. c.args.def.index < d.counts.n_var + defined_count d.counts) is c.requires.below;
      fresh = subst (λ d. is_defined d.definitions c.args.def.index ≡ false) is c.requires.fresh;
      terms = subst (λ d. AreTermsBelow d.counts.n_var c.args.def.terms) is c.requires.terms;
      few = c.requires.few;
      tree = record {
        formed = c.nodes.ensures.tree_formed;
        within = subst (λ d. IsTreeWithin d.counts.n_var d.definitions c.args.def.tree) is c.requires.within;
      };
    } in
    let same : c.counts.result.now.n_var ≡ d.counts.n_var = ap (λ k. k.n_var) c.counts.ensures.value in
    let at : c.args.def.index ≡ d.counts.n_var + (c.args.def.index - c.counts.result.now.n_var) = omega (arith, same, from) in
    rw c.in_ok-push.ensures.items
    (kept-define d c.self.inside.defined.items c.self.inside.term_count c.args.def (c.args.def.index - c.counts.result.now.n_var) c.self.invariant fine at)
