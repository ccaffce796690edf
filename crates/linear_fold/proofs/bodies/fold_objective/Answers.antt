use Rattle.std.proofs.Common.{◌≡◌, ◌∙◌, ap, arith}
use Rattle.linear_fold.proofs.BodyLemmas.{zero_clean, zero_form}
use Rattle.linear_fold.proofs.bodies.fold_objective.Goals as goal

pub returns-clause-form : goal.returns-clause-form
returns-clause-form g c = zero_form c.args.file.now c.requires.file c.args.objective c.new.result
    (let h = c.if-objective-counts.false in let same : c.counts-counts.result.now.n_obj ≡ c.args.file.now.counts.n_obj =
    ap (λ x. x.n_obj) (c.counts-counts.ensures.value ∙ c.header.ensures.counts) in omega arith) c.new.ensures.line
    c.new.ensures.terms

pub returns-clause-folded : goal.returns-clause-folded
returns-clause-folded g c = zero_clean c.args.file.now c.requires.file c.args.objective c.new.result
    (let h = c.if-objective-counts.false in let same : c.counts-counts.result.now.n_obj ≡ c.args.file.now.counts.n_obj =
    ap (λ x. x.n_obj) (c.counts-counts.ensures.value ∙ c.header.ensures.counts) in omega arith) c.new.ensures.line
    c.new.ensures.terms c.args.folder.now.count c.requires.folder.few
