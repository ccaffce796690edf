use Rattle.std.proofs.Common.{◌≡◌, length, refl, subst, sym}
use Rattle.certificates.specs.Parts.{whole_part}
use Rattle.exact_checks.specs.Answers.{bound_answer_of}
use Rattle.exact_checks.specs.Programs.{program_value}
use Rattle.exact_checks.proofs.SumLemmas.{if_put}
use Rattle.certificate_judge.specs.InsidePaths.{IsLemmaWithin, part_under}
use Rattle.certificate_judge.specs.Walks.{bound_in}
use Rattle.certificate_judge.proofs.Lasts.{last_all}
use Rattle.certificate_judge.proofs.LeafBounds.{objective_here, sum_here, zero_here}
use Rattle.certificate_judge.proofs.walk.Workspace.bound.Goals as goal

pub sum_bound-requires-clause-terms : goal.sum_bound-requires-clause-terms
sum_bound-requires-clause-terms c =
    last_all (IsLemmaWithin (length c.args.program.now.lower.items)) c.args.self.now.path.lemmas.items c.in-Some.shown.now c.requires.room.path.lemmas c.in-Some.ensures

pub returns-in-Some-clause-exact : goal.returns-in-Some-clause-exact
returns-in-Some-clause-exact c =
    if_put c.sum_bound.result c.sum_bound.ensures.exact (λ b q v turns at.
    subst (λ g. bound_answer_of b ≡ bound_in (part_under (whole_part (program_value c.args.program.now) v) turns) g c.args.pairs.now) (sym c.in-Objective.is)
    (sum_here c.args.program.now v turns c.args.self.now.path at c.requires.room.path c.deref-added.result.now
    c.deref-lo.result.now c.deref-hi.result.now c.deref-added.ensures.value c.deref-lo.ensures.value
    c.deref-hi.ensures.value c.args.pairs.now (bound_answer_of b) c.in-Some.shown.now c.in-Some.ensures
    c.in-Some.shown.now.terms refl q))

pub returns-in-None-clause-exact : goal.returns-in-None-clause-exact
returns-in-None-clause-exact c =
    if_put c.leaf_bound.result c.leaf_bound.ensures.exact (λ b q v turns at.
    subst (λ g. bound_answer_of b ≡ bound_in (part_under (whole_part (program_value c.args.program.now) v) turns) g c.args.pairs.now) (sym c.in-Objective.is)
    (objective_here c.args.program.now v turns c.args.self.now.path at c.requires.room.path c.deref-added.result.now
    c.deref-lo.result.now c.deref-hi.result.now c.deref-added.ensures.value c.deref-lo.ensures.value
    c.deref-hi.ensures.value c.args.pairs.now (bound_answer_of b) c.in-None.ensures q))

pub returns-in-Zero-clause-exact : goal.returns-in-Zero-clause-exact
returns-in-Zero-clause-exact c =
    if_put c.leaf_bound-in-Zero.result c.leaf_bound-in-Zero.ensures.exact (λ b q v turns at.
    subst (λ g. bound_answer_of b ≡ bound_in (part_under (whole_part (program_value c.args.program.now) v) turns) g c.args.pairs.now) (sym c.in-Zero.is)
    (zero_here c.args.program.now v turns c.args.self.now.path at c.requires.room.path c.deref-added.result.now
    c.deref-lo.result.now c.deref-hi.result.now c.deref-added.ensures.value c.deref-lo.ensures.value
    c.deref-hi.ensures.value c.args.pairs.now (bound_answer_of b) q))
