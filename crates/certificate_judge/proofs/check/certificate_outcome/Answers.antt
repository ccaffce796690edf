use Rattle.std.proofs.Common.{◌≡◌, ◌∙◌, ap, sym, subst, Some, None}
use Rattle.linear_program.specs.Linear.{row_count, variable_count}
use Rattle.certificates.specs.Branch.{proof_fault}
use Rattle.certificates.specs.Certificate.{judged, outcome, unless_leaf, with_leaves}
use Rattle.certificates.specs.Certificates.{IsAskedFor, certificate_over, tree_over}
use Rattle.linear_program.specs.Numbers.{spread}
use Rattle.exact_checks.specs.Programs.{program_value}
use Rattle.exact_checks.proofs.SumLemmas.{if_put}
use Rattle.certificate_judge.specs.Outcomes.{outcome_of}
use Rattle.certificates.specs.declared.certificate.Claim.TheVariants.{Optimal, Within, Bound, Feasible, Infeasible, Unbounded}
use Rattle.certificate_judge.proofs.Checks.{bound_is, feasible_is, infeasible_is, near_is, optimal_is, tree_of_weights, unbounded_is}
use Rattle.certificate_judge.proofs.check.certificate_outcome.Goals as goal

pub optimal_outcome-requires : goal.optimal_outcome-requires
optimal_outcome-requires c =
    let claim_is : c.args.certificate.now.claim ≡ Optimal c.in-Optimal.field-0 = sym c.claim.ensures ∙ c.in-Optimal.is in
    (c.requires, (subst (λ x. IsAskedFor x c.requires.given) claim_is c.requires.asked).1)

pub near_outcome-requires : goal.near_outcome-requires
near_outcome-requires c =
    let claim_is : c.args.certificate.now.claim ≡ Within c.in-Within.field-0 c.in-Within.stated = sym c.claim.ensures ∙ c.in-Within.is in
    (c.requires, (subst (λ x. IsAskedFor x c.requires.given) claim_is c.requires.asked).1)

pub tree_outcome-requires : goal.tree_outcome-requires
tree_outcome-requires c =
    let claim_is : c.args.certificate.now.claim ≡ Bound c.in-Bound.field-0 c.in-Bound.stated = sym c.claim.ensures ∙ c.in-Bound.is in
    (c.requires, (subst (λ x. IsAskedFor x c.requires.given) claim_is c.requires.asked).2)

pub tree_outcome-requires-in-Infeasible : goal.tree_outcome-requires-in-Infeasible
tree_outcome-requires-in-Infeasible c =
    let claim_is : c.args.certificate.now.claim ≡ Infeasible = sym c.claim.ensures ∙ c.in-Infeasible.is in
    (c.requires, tree_of_weights c.requires.given.tree (subst (λ x. IsAskedFor x c.requires.given) claim_is c.requires.asked).2)

pub returns-in-Optimal : goal.returns-in-Optimal
returns-in-Optimal c =
    let claim_is : c.args.certificate.now.claim ≡ Optimal c.in-Optimal.field-0 = sym c.claim.ensures ∙ c.in-Optimal.is in
    if_put c.optimal_outcome.result c.optimal_outcome.ensures (λ o q h.
    subst (λ x. outcome_of o ≡ outcome (program_value c.args.program.now)
    (certificate_over (variable_count (program_value c.args.program.now))
    (row_count (program_value c.args.program.now)) x h.given)) (sym claim_is)
    (optimal_is (program_value c.args.program.now) (variable_count (program_value c.args.program.now))
    (row_count (program_value c.args.program.now)) c.in-Optimal.field-0 h.given (outcome_of o)
    (subst (λ x. IsAskedFor x h.given) claim_is h.asked).1 (q h)))

pub returns-in-Within : goal.returns-in-Within
returns-in-Within c =
    let claim_is : c.args.certificate.now.claim ≡ Within c.in-Within.field-0 c.in-Within.stated = sym c.claim.ensures ∙ c.in-Within.is in
    if_put c.near_outcome.result c.near_outcome.ensures (λ o q h.
    subst (λ x. outcome_of o ≡ outcome (program_value c.args.program.now)
    (certificate_over (variable_count (program_value c.args.program.now))
    (row_count (program_value c.args.program.now)) x h.given)) (sym claim_is)
    (near_is (program_value c.args.program.now) (variable_count (program_value c.args.program.now))
    (row_count (program_value c.args.program.now)) c.in-Within.field-0 c.in-Within.stated h.given (outcome_of o)
    (subst (λ x. IsAskedFor x h.given) claim_is h.asked).1
    (λ tree e. q h tree e ∙ ap (λ v. with_leaves (proof_fault (program_value c.args.program.now) v
    (tree_over (row_count (program_value c.args.program.now)) tree))
    (judged (program_value c.args.program.now) (spread (variable_count (program_value c.args.program.now))
    h.given.point))) c.fraction.ensures)))

pub returns-in-Bound : goal.returns-in-Bound
returns-in-Bound c =
    let claim_is : c.args.certificate.now.claim ≡ Bound c.in-Bound.field-0 c.in-Bound.stated = sym c.claim.ensures ∙ c.in-Bound.is in
    if_put c.tree_outcome.result c.tree_outcome.ensures (λ o q h.
    subst (λ x. outcome_of o ≡ outcome (program_value c.args.program.now)
    (certificate_over (variable_count (program_value c.args.program.now))
    (row_count (program_value c.args.program.now)) x h.given)) (sym claim_is)
    (bound_is (program_value c.args.program.now) (variable_count (program_value c.args.program.now))
    (row_count (program_value c.args.program.now)) c.in-Bound.field-0 c.in-Bound.stated h.given (outcome_of o)
    (subst (λ x. IsAskedFor x h.given) claim_is h.asked).2
    (λ tree e. q h tree e ∙ ap (λ v. unless_leaf (proof_fault (program_value c.args.program.now) v
    (tree_over (row_count (program_value c.args.program.now)) tree)) (Some v)) c.fraction-value.ensures)))

pub returns-in-Feasible : goal.returns-in-Feasible
returns-in-Feasible c =
    let claim_is : c.args.certificate.now.claim ≡ Feasible c.in-Feasible.field-0 = sym c.claim.ensures ∙ c.in-Feasible.is in
    if_put c.feasible_outcome.result c.feasible_outcome.ensures (λ o q h.
    subst (λ x. outcome_of o ≡ outcome (program_value c.args.program.now)
    (certificate_over (variable_count (program_value c.args.program.now))
    (row_count (program_value c.args.program.now)) x h.given)) (sym claim_is)
    (q h ∙ feasible_is (program_value c.args.program.now) (variable_count (program_value c.args.program.now)) (row_count (program_value c.args.program.now)) c.in-Feasible.field-0 h.given))

pub returns-in-Infeasible : goal.returns-in-Infeasible
returns-in-Infeasible c =
    let claim_is : c.args.certificate.now.claim ≡ Infeasible = sym c.claim.ensures ∙ c.in-Infeasible.is in
    if_put c.tree_outcome-in-Infeasible.result c.tree_outcome-in-Infeasible.ensures (λ o q h.
    subst (λ x. outcome_of o ≡ outcome (program_value c.args.program.now)
    (certificate_over (variable_count (program_value c.args.program.now))
    (row_count (program_value c.args.program.now)) x h.given)) (sym claim_is)
    (infeasible_is (program_value c.args.program.now) (variable_count (program_value c.args.program.now))
    (row_count (program_value c.args.program.now)) h.given (outcome_of o)
    (tree_of_weights h.given.tree (subst (λ x. IsAskedFor x h.given) claim_is h.asked).2)
    (λ tree e. q h tree e ∙ ap (λ v. unless_leaf (proof_fault (program_value c.args.program.now) v
    (tree_over (row_count (program_value c.args.program.now)) tree)) None) c.zero.ensures)))

pub returns-in-Unbounded : goal.returns-in-Unbounded
returns-in-Unbounded c =
    let claim_is : c.args.certificate.now.claim ≡ Unbounded c.in-Unbounded.field-0 = sym c.claim.ensures ∙ c.in-Unbounded.is in
    if_put c.unbounded_outcome.result c.unbounded_outcome.ensures (λ o q h.
    subst (λ x. outcome_of o ≡ outcome (program_value c.args.program.now)
    (certificate_over (variable_count (program_value c.args.program.now))
    (row_count (program_value c.args.program.now)) x h.given)) (sym claim_is)
    (q h ∙ unbounded_is (program_value c.args.program.now) (variable_count (program_value c.args.program.now)) (row_count (program_value c.args.program.now)) c.in-Unbounded.field-0 h.given))
