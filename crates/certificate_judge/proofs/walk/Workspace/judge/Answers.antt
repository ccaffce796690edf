use Rattle.std.proofs.Common.{◌≡◌, ◌∙◌, ap, sym, Some}
use Rattle.certificates.specs.Parts.{whole_part}
use Rattle.exact_numbers.specs.Values.{frac_value}
use Rattle.exact_checks.specs.Programs.{program_value}
use Rattle.certificate_judge.specs.InsidePaths.{last_of, part_under}
use Rattle.certificate_judge.specs.Walks.{leaf_check}
use Rattle.certificate_judge.specs.declared.path.Path.{Path}
use Rattle.certificate_judge.proofs.LeafBounds.{lemma_sense, lemma_value}
use Rattle.certificate_judge.proofs.walk.Workspace.judge.Goals as goal

pub returns-in-Some-clause-exact : goal.returns-in-Some-clause-exact
returns-in-Some-clause-exact c turns at k =
    let p = part_under (whole_part (program_value c.args.program.now) (frac_value c.args.value)) turns in
    let last : last_of c.args.self.now.path.lemmas.items ≡ Some c.in-Some.shown.now = ap (λ (x : Path). last_of x.lemmas.items) (sym c.in_ok-bound.ensures.path) ∙ c.in-Some.ensures in
    c.leaf_fault.ensures p
    (lemma_sense c.args.program.now (frac_value c.args.value) turns c.args.self.now.path at c.requires.room.path c.in-Some.shown.now last)
    (lemma_value c.args.program.now (frac_value c.args.value) turns c.args.self.now.path at c.requires.room.path c.in-Some.shown.now last) k
    ∙ ap (leaf_check c.args.goal p k) (c.in_ok-bound.ensures.exact (frac_value c.args.value) turns at)
