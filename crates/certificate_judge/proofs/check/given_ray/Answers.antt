use Rattle.std.proofs.Common.{◌≡◌, ◌∙◌, ap₂, drop, take}
use Rattle.linear_program.specs.Numbers.{spread}
use Rattle.exact_checks.specs.Programs.{program_value}
use Rattle.exact_checks.proofs.SumLemmas.{if_put}
use Rattle.certificate_judge.proofs.Checks.{ray_is}
use Rattle.certificate_judge.proofs.check.given_ray.Goals as goal

pub returns-clause-numbers : goal.returns-clause-numbers
returns-clause-numbers c =
    let own : c.split_at-2.result.0.now ≡ take c.args.certificate.now.ray
    (drop c.args.certificate.now.point c.args.certificate.now.pairs) =
    c.split_at-2.ensures.front ∙ ap₂ take c.ray.ensures (c.split_at.ensures.back
    ∙ ap₂ drop c.point.ensures c.pairs.ensures) in
    if_put c.numbers_of.result c.numbers_of.ensures.numbers (λ v q h. q ∙ ap₂ spread c.n_var.ensures (own ∙ ray_is (program_value c.args.program.now) c.args.certificate.now h))
