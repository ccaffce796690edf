use Rattle.std.proofs.Common.{◌∙◌, ap}
use Rattle.linear_program.specs.Linear.{row_count}
use Rattle.certificates.specs.Branch.{proof_fault}
use Rattle.certificates.specs.Certificate.{judged, with_leaves}
use Rattle.exact_numbers.specs.Values.{frac_value}
use Rattle.certificates.specs.Certificates.{tree_over}
use Rattle.exact_checks.specs.Programs.{program_value}
use Rattle.exact_checks.proofs.SumLemmas.{if_put}
use Rattle.certificate_judge.specs.InsidePoints.{fractions_of}
use Rattle.certificate_judge.proofs.check.near_outcome.Goals as goal

pub returns-in-Ok : goal.returns-in-Ok
returns-in-Ok c =
    if_put c.tree_outcome.result c.tree_outcome.ensures
    (λ o q h tree e.
    q h tree e
    ∙ ap (with_leaves (proof_fault (program_value c.args.program.now) (frac_value c.args.stated) (tree_over (row_count (program_value c.args.program.now)) tree)))
    (c.in-Ok.ensures
    ∙ ap (judged (program_value c.args.program.now)) (ap fractions_of c.deref.ensures.value ∙ c.in_ok-x.ensures.numbers h)))
