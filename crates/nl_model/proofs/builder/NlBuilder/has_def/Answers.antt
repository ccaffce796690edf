use Rattle.std.proofs.Common.{◌≡◌, ◌+◌, ◌<◌, ◌≤◌, [], false, sym, ap, subst, arith, inl, inr}
use Rattle.nl_model.specs.HeaderRules.{defined_count}
use Rattle.nl_model.specs.Rules.{is_defined}
use Rattle.nl_model.specs.InsideBuilt.{draft_of}
use Rattle.nl_model.proofs.Definitions.{undefined_outside}
use Rattle.nl_model.proofs.builder.NlBuilder.has_def.Goals as goal

pub returns-then-index-n_var : goal.returns-then-index-n_var
returns-then-index-n_var c =
    let d = draft_of c.self.inside in
    let same : c.counts.result.now.n_var ≡ d.counts.n_var = ap (λ k. k.n_var) c.counts.ensures.value in
    let below : c.args.index < d.counts.n_var = omega (arith, same, c.if-index-n_var.true) in
    subst (λ e. false ≡ is_defined e.definitions c.args.index) c.self.view_is
    (sym (undefined_outside d.counts.n_var (defined_count d.counts) [] d.definitions c.args.index c.self.invariant.draft.definitions (inl below)))

pub returns-then-place-len : goal.returns-then-place-len
returns-then-place-len c =
    let d = draft_of c.self.inside in
    let same : c.counts.result.now.n_var ≡ d.counts.n_var = ap (λ k. k.n_var) c.counts.ensures.value in
    let beyond : d.counts.n_var + defined_count d.counts ≤ c.args.index =
    omega (arith, same, c.if-index-n_var.false, c.if-place-len.true, c.len.ensures, c.self.inside.defined.ok.0, c.self.invariant.mark_count) in
    subst (λ e. false ≡ is_defined e.definitions c.args.index) c.self.view_is
    (sym (undefined_outside d.counts.n_var (defined_count d.counts) [] d.definitions c.args.index c.self.invariant.draft.definitions (inr beyond)))
