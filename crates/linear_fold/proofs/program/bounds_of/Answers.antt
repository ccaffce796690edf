use Rattle.std.proofs.Common.{◌≡◌, ◌∙◌, ◌++◌, ◌∷◌, [], ap, arith}
use Rattle.std.proofs.lemmas.List.{take_all}
use Rattle.linear_fold.proofs.BodyLemmas.{next_taken}
use Rattle.linear_fold.proofs.program.bounds_of.Goals as goal

pub loop-var-preserved : goal.loop-var-preserved
loop-var-preserved c =
    c.in_ok-push.ensures.items
    ∙ ap (λ xs. xs ++ c.bound-bound.result ∷ []) c.loop-var.invariant
    ∙ next_taken c.args.file.now.bounds c.loop-var.var c.bound-bound.result c.bound-bound.ensures

pub returns : goal.returns
returns c =
    let same : c.counts-counts.result.now.n_var ≡ c.args.file.now.counts.n_var = ap (λ x. x.n_var) (c.counts-counts.ensures.value ∙ c.header.ensures.counts) in
    c.loop-var.invariant ∙ take_all c.loop-var.var c.args.file.now.bounds (let h = c.loop-var-test.false in let k = c.requires.bound_count in omega arith)
