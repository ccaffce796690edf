use Rattle.std.proofs.Common.{◌≡◌, ◌∙◌, sym, ap, ap₂, subst, drop}
use Rattle.linear_program.specs.Numbers.{spread}
use Rattle.certificates.specs.Certificates.{AreNumbers}
use Rattle.exact_checks.specs.Terms.{values_of}
use Rattle.certified_solution.specs.Solution.{AreDecimalsOf, are_decimal}
use Rattle.certified_solution.proofs.Given.{leaf_of, no_duals, some_duals, wide_duals}
use Rattle.certified_solution.proofs.parts.dual_decimals.Goals as goal

pub returns-then-not-has_duals : goal.returns-then-not-has_duals
returns-then-not-has_duals c = ap values_of c.new.ensures ∙ sym (no_duals c.args.n_con c.requires.0 c.args.certificate.now c.requires.1 (sym c.has_duals.ensures ∙ c.if-not-has_duals.true))

pub spread_decimals-requires : goal.spread_decimals-requires
spread_decimals-requires c =
    let own : c.split_at-2.result.1.now ≡ drop c.args.certificate.now.ray
    (drop c.args.certificate.now.point c.args.certificate.now.pairs) =
    c.split_at-2.ensures.back ∙ ap₂ drop c.ray.ensures (c.split_at.ensures.back
    ∙ ap₂ drop c.point.ensures c.pairs.ensures) in
    subst (AreNumbers 0 c.args.n_con) (sym own) (leaf_of c.args.n_con c.requires.0 c.args.certificate.now c.requires.1 (sym c.has_duals.ensures ∙ c.if-not-has_duals.false))

pub returns-in-Some : goal.returns-in-Some
returns-in-Some c =
    let own : c.split_at-2.result.1.now ≡ drop c.args.certificate.now.ray
    (drop c.args.certificate.now.point c.args.certificate.now.pairs) =
    c.split_at-2.ensures.back ∙ ap₂ drop c.ray.ensures (c.split_at.ensures.back
    ∙ ap₂ drop c.point.ensures c.pairs.ensures) in
    let found = subst (λ o. AreDecimalsOf o (spread c.args.n_con c.split_at-2.result.1.now)) c.in-Some.is c.in_ok-decimals.ensures in
    found.1 ∙ ap (spread c.args.n_con) own
    ∙ sym (some_duals c.args.n_con c.requires.0 c.args.certificate.now c.requires.1
    (sym c.has_duals.ensures ∙ c.if-not-has_duals.false)
    (ap (λ ps. are_decimal (spread c.args.n_con ps)) (sym own) ∙ found.0))

pub returns-in-None : goal.returns-in-None
returns-in-None c =
    let own : c.split_at-2.result.1.now ≡ drop c.args.certificate.now.ray
    (drop c.args.certificate.now.point c.args.certificate.now.pairs) =
    c.split_at-2.ensures.back ∙ ap₂ drop c.ray.ensures (c.split_at.ensures.back
    ∙ ap₂ drop c.point.ensures c.pairs.ensures) in
    let wide = subst (λ o. AreDecimalsOf o (spread c.args.n_con c.split_at-2.result.1.now)) c.in-None.is c.in_ok-decimals.ensures in
    ap values_of c.new-in-None.ensures
    ∙ sym (wide_duals c.args.n_con c.requires.0 c.args.certificate.now c.requires.1
    (sym c.has_duals.ensures ∙ c.if-not-has_duals.false)
    (ap (λ ps. are_decimal (spread c.args.n_con ps)) (sym own) ∙ wide))
