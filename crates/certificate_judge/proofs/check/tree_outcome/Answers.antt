use Rattle.std.proofs.Common.{◌≡◌, ◌∙◌, ap, ap₂, sym, subst, drop}
use Rattle.certificates.specs.Certificate.{unless_leaf}
use Rattle.exact_checks.specs.Programs.{program_value}
use Rattle.exact_checks.specs.Terms.{value_found}
use Rattle.certificate_judge.specs.Outcomes.{fault_found}
use Rattle.certificate_judge.specs.Walks.{IsWritten}
use Rattle.certificate_judge.proofs.Checks.{is_written, some_tree}
use Rattle.certificate_judge.proofs.check.tree_outcome.Goals as goal

pub check_tree-requires-clause-tree : goal.check_tree-requires-clause-tree
check_tree-requires-clause-tree c =
    let h = c.requires.0 in
    let rest_is : c.split_at-2.result.1.now ≡ drop c.args.certificate.now.ray
    (drop c.args.certificate.now.point c.args.certificate.now.pairs) =
    c.split_at-2.ensures.back ∙ ap₂ drop c.ray.ensures (c.split_at.ensures.back
    ∙ ap₂ drop c.point.ensures c.pairs.ensures) in
    let t = some_tree (program_value c.args.program.now) c.args.certificate.now h c.requires.1 in (
      t.0,
      subst (λ ns. IsWritten (program_value c.args.program.now) t.0 ns c.split_at-2.result.1.now)
          (sym c.nodes.ensures) (subst (IsWritten (program_value c.args.program.now) t.0 c.args.certificate.now.nodes)
          (sym rest_is) (is_written (program_value c.args.program.now) c.args.certificate.now h t.0 t.1)),
    )

pub returns-in-Some : goal.returns-in-Some
returns-in-Some c h tree e =
    let rest_is : c.split_at-2.result.1.now ≡ drop c.args.certificate.now.ray
    (drop c.args.certificate.now.point c.args.certificate.now.pairs) =
    c.split_at-2.ensures.back ∙ ap₂ drop c.ray.ensures (c.split_at.ensures.back
    ∙ ap₂ drop c.point.ensures c.pairs.ensures) in
    let written = subst (λ ns. IsWritten (program_value c.args.program.now) tree ns c.split_at-2.result.1.now)
    (sym c.nodes.ensures) (subst (IsWritten (program_value c.args.program.now) tree c.args.certificate.now.nodes)
    (sym rest_is) (is_written (program_value c.args.program.now) c.args.certificate.now h tree e)) in
    ap (λ g. unless_leaf g (value_found c.args.shown)) (sym (ap fault_found c.in-Some.is) ∙ c.in_ok-number.ensures tree written)

pub returns-in-None : goal.returns-in-None
returns-in-None c h tree e =
    let rest_is : c.split_at-2.result.1.now ≡ drop c.args.certificate.now.ray
    (drop c.args.certificate.now.point c.args.certificate.now.pairs) =
    c.split_at-2.ensures.back ∙ ap₂ drop c.ray.ensures (c.split_at.ensures.back
    ∙ ap₂ drop c.point.ensures c.pairs.ensures) in
    let written = subst (λ ns. IsWritten (program_value c.args.program.now) tree ns c.split_at-2.result.1.now)
    (sym c.nodes.ensures) (subst (IsWritten (program_value c.args.program.now) tree c.args.certificate.now.nodes)
    (sym rest_is) (is_written (program_value c.args.program.now) c.args.certificate.now h tree e)) in
    ap (λ g. unless_leaf g (value_found c.args.shown)) (sym (ap fault_found c.in-None.is) ∙ c.in_ok-number.ensures tree written)
