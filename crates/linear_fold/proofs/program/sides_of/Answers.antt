use Rattle.std.proofs.Common.{◌≡◌, ◌∙◌, ◌++◌, ◌∷◌, [], ap, arith}
use Rattle.std.proofs.lemmas.List.{take_all}
use Rattle.linear_fold.proofs.BodyLemmas.{next_taken}
use Rattle.linear_fold.proofs.program.sides_of.Goals as goal

pub loop-con-preserved : goal.loop-con-preserved
loop-con-preserved c =
    c.in_ok-push.ensures.items
    ∙ ap (λ xs. xs ++ c.side-side.result ∷ []) c.loop-con.invariant
    ∙ next_taken c.args.file.now.sides c.loop-con.con c.side-side.result c.side-side.ensures

pub returns : goal.returns
returns c =
    let same : c.counts-counts.result.now.n_con ≡ c.args.file.now.counts.n_con = ap (λ x. x.n_con) (c.counts-counts.ensures.value ∙ c.header.ensures.counts) in
    c.loop-con.invariant ∙ take_all c.loop-con.con c.args.file.now.sides (let h = c.loop-con-test.false in let k = c.requires.side_count in omega arith)
