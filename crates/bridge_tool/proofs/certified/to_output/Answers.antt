use Rattle.std.proofs.Common.{◌∙◌, ◌<◌, ◌^◌, ℕ, false, sym, ap, subst}
use Rattle.linear_program.specs.Programs.{linear_value}
use Rattle.certificate_judge.specs.Outcomes.{outcome_of}
use Rattle.certificates.specs.Certificates.{claim_objective}
use Rattle.nl_model.specs.declared.header_counts.Counts.{Counts}
use Rattle.nl_segments.specs.Reader.{value_of}
use Rattle.problems.specs.NlSetting.{setting_of}
use Rattle.problems.proofs.NlSettings.{kinds_counted}
use Rattle.sol_files.specs.Built.{IsMessageLine}
use Rattle.command_core.specs.Outcome.{Done}
use Rattle.command_core.specs.SeveralFiles.{Comes}
use Rattle.command_parts.specs.CertificateTold.{HasFittingBound, outcome_text}
use Rattle.command_parts.proofs.ExportStages.{folded_at}
use Rattle.bridge_tool.specs.Certified.{CertifiesAs, TextComes}
use Rattle.bridge_tool.proofs.Certifying.{message_so, not_held, objective_small, text_comes}
use Rattle.bridge_tool.proofs.Programs.{bound_fits, folded_so}
use Rattle.bridge_tool.proofs.certified.to_output.Goals as goal

pub outcome_on-requires : goal.outcome_on-requires
outcome_on-requires g c =
    let folds = folded_at _ _ _ _ (c.claim_objective-objective.ensures ∙ ap claim_objective c.claim.ensures) c.in_ok-linear.ensures.folds in
    folded_so (value_of c.args.read) c.args.certificate.now c.requires.certificate c.in_ok-linear.linear folds

pub returns-then-not-is_held-clause-comes : goal.returns-then-not-is_held-clause-comes
returns-then-not-is_held-clause-comes g c =
    let nl = value_of c.args.read in
    let a = c.args.certificate.now in
    let folds = folded_at _ _ _ _ (c.claim_objective-objective.ensures ∙ ap claim_objective c.claim.ensures) c.in_ok-linear.ensures.folds in
    let none = not_held nl a c.in_ok-linear.linear folds (outcome_of c.in_ok-outcome.outcome) c.in_ok-outcome.ensures (sym c.is_held.ensures ∙ c.if-not-is_held.true) in
    subst (λ bytes. CertifiesAs nl a (Done false bytes)) (sym c.new.ensures.items) none

pub message_of-requires : goal.message_of-requires
message_of-requires g c =
    let nl = value_of c.args.read in
    let a = c.args.certificate.now in
    let folds = folded_at _ _ _ _ (c.claim_objective-objective.ensures ∙ ap claim_objective c.claim.ensures) c.in_ok-linear.ensures.folds in
    subst HasFittingBound (sym c.claim-2.ensures) (bound_fits (linear_value c.in_ok-linear.linear) a (folded_so nl a c.requires.certificate c.in_ok-linear.linear folds))

pub sol_text_of-requires-clause-certificate : goal.sol_text_of-requires-clause-certificate
sol_text_of-requires-clause-certificate g c =
    let counts = c.counts-counts.ensures.value ∙ c.header-header.ensures.counts in
    (setting_of c.args.read.file, sym (ap (λ (n : Counts). n.n_con) counts), kinds_counted c.args.read.file ∙ sym (ap (λ (n : Counts). n.n_var) counts), c.requires.certificate)

pub sol_text_of-requires-clause-line : goal.sol_text_of-requires-clause-line
sol_text_of-requires-clause-line g c =
    let nl = value_of c.args.read in
    let a = c.args.certificate.now in
    let folds = folded_at _ _ _ _ (c.claim_objective-objective.ensures ∙ ap claim_objective c.claim.ensures) c.in_ok-linear.ensures.folds in
    let message = c.deref.ensures.value ∙ c.in_ok-message.ensures ∙ ap (λ claim. outcome_text claim (outcome_of c.in_ok-outcome.outcome)) c.claim-2.ensures in
    subst IsMessageLine (sym message)
    (message_so nl a c.in_ok-linear.linear folds c.in_ok-linear.ensures.file c.requires.certificate c.in_ok-outcome.outcome c.in_ok-outcome.ensures (sym c.is_held.ensures ∙ c.if-not-is_held.false))

pub sol_text_of-requires-clause-objective : goal.sol_text_of-requires-clause-objective
sol_text_of-requires-clause-objective g c = c.claim_objective-objective.ensures ∙ ap claim_objective c.claim.ensures

pub sol_text_of-requires-clause-small : goal.sol_text_of-requires-clause-small
sol_text_of-requires-clause-small g c =
    let folds = folded_at _ _ _ _ (c.claim_objective-objective.ensures ∙ ap claim_objective c.claim.ensures) c.in_ok-linear.ensures.folds in
    subst (λ (k : ℕ). k < 2 ^ 31) (sym (c.claim_objective-objective.ensures ∙ ap claim_objective c.claim.ensures))
    (objective_small c.args.read.file (claim_objective c.args.certificate.now.claim) c.in_ok-linear.ensures.file folds.fine)

pub returns-clause-comes : goal.returns-clause-comes
returns-clause-comes g c =
    let nl = value_of c.args.read in
    let a = c.args.certificate.now in
    let folds = folded_at _ _ _ _ (c.claim_objective-objective.ensures ∙ ap claim_objective c.claim.ensures) c.in_ok-linear.ensures.folds in
    let counts = c.counts-counts.ensures.value ∙ c.header-header.ensures.counts in
    let message = c.deref.ensures.value ∙ c.in_ok-message.ensures ∙ ap (λ claim. outcome_text claim (outcome_of c.in_ok-outcome.outcome)) c.claim-2.ensures in
    let line = c.deref.result.now in
    let comes = subst (λ (n : Counts). Comes (TextComes c.args.read.file.options n.n_con n.n_var line a) c.sol_text_of.result) counts
    (subst (λ os. Comes (TextComes os c.counts-counts.result.now.n_con c.counts-counts.result.now.n_var line a) c.sol_text_of.result) c.options_of-options.ensures c.sol_text_of.ensures) in
    text_comes nl a c.in_ok-linear.linear folds (outcome_of c.in_ok-outcome.outcome) c.in_ok-outcome.ensures (sym c.is_held.ensures ∙ c.if-not-is_held.false) line message c.sol_text_of.result comes
