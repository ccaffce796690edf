use Rattle.std.proofs.Common.{◌++◌, ◌∙◌, sym, ap, subst}
use Rattle.text_base.specs.Stopped.{IfFault}
use Rattle.linear_program.specs.Coefs.{AreAscending}
use Rattle.linear_program.specs.Forms.{form_terms}
use Rattle.linear_program.specs.Programs.{linear_value}
use Rattle.row_scaling.specs.Factored.{IsTiedOrPlain, IsTooWide}
use Rattle.row_scaling.specs.Scaled.{IsScaled}
use Rattle.row_scaling.specs.Scaling.{IsScaledOf}
use Rattle.row_scaling.proofs.LinearLemmas.{same_value_of, is_scaled_program, is_scaled_of, no_fault, objective_fault}
use Rattle.row_scaling.proofs.scale.scale_rows.Goals as goal

pub returns-in-Err-Fault-clause-fault : goal.returns-in-Err-Fault-clause-fault
returns-in-Err-Fault-clause-fault c =
    let up = subst (λ b. AreAscending 0 (form_terms b)) c.objective.ensures.objective c.in-Err-Fault.ensures.ascending in
    let wide = subst (λ s. IfFault s (λ w. IsTooWide c.objective.result.now)) c.in-Err-Fault.field-0-is c.in-Err-Fault.ensures.wide in
    objective_fault c.args.linear.now c.objective.ensures.folded up c.in-Ok.rows.items c.in-Ok.ensures.scaled (subst IsTooWide c.objective.ensures.objective wide)

pub new-requires : goal.new-requires
new-requires c =
    let l = c.args.linear.now in
    let o = c.in-Ok-scaled_objective.parts.objective in
    let t = c.in-Ok-scaled_objective.parts.tie in
    let up = subst (λ b. AreAscending 0 (form_terms b)) c.objective.ensures.objective c.in-Ok-scaled_objective.ensures.ascending in
    let h = subst (λ b. IsTiedOrPlain b o t) c.objective.ensures.objective c.in-Ok-scaled_objective.ensures.scaled in
    let bounds = c.in_ok-extend_from_slice.ensures.items ∙ ap (λ xs. xs ++ c.bounds.result.now) c.new-bounds.ensures.items ∙ c.bounds.ensures in
    let kinds = c.in_ok-extend_from_slice-2.ensures.items ∙ ap (λ xs. xs ++ c.kinds.result.now) c.new-kinds.ensures.items ∙ c.kinds.ensures in
    subst IsScaled (sym (same_value_of l c.in-Ok.rows.items o t c.maximise-maximise.result
    c.extend_from_slice.new.self.items c.extend_from_slice-2.new.self.items c.maximise-maximise.ensures bounds
    kinds))
    (is_scaled_program l c.objective.ensures.folded up c.in-Ok.rows.items c.in-Ok.ensures.scaled o t h c.in-Ok.ensures.few)

pub returns-clause-scaled : goal.returns-clause-scaled
returns-clause-scaled c =
    let l = c.args.linear.now in
    let o = c.in-Ok-scaled_objective.parts.objective in
    let t = c.in-Ok-scaled_objective.parts.tie in
    let up = subst (λ b. AreAscending 0 (form_terms b)) c.objective.ensures.objective c.in-Ok-scaled_objective.ensures.ascending in
    let h = subst (λ b. IsTiedOrPlain b o t) c.objective.ensures.objective c.in-Ok-scaled_objective.ensures.scaled in
    let bounds = c.in_ok-extend_from_slice.ensures.items ∙ ap (λ xs. xs ++ c.bounds.result.now) c.new-bounds.ensures.items ∙ c.bounds.ensures in
    let kinds = c.in_ok-extend_from_slice-2.ensures.items ∙ ap (λ xs. xs ++ c.kinds.result.now) c.new-kinds.ensures.items ∙ c.kinds.ensures in
    subst (IsScaledOf (linear_value l)) (sym (c.in_ok-new.ensures
    ∙ same_value_of l c.in-Ok.rows.items o t c.maximise-maximise.result c.extend_from_slice.new.self.items
    c.extend_from_slice-2.new.self.items c.maximise-maximise.ensures bounds kinds))
    (is_scaled_of l c.objective.ensures.folded up c.in-Ok.rows.items c.in-Ok.ensures.scaled o t h)

pub returns-clause-fine : goal.returns-clause-fine
returns-clause-fine c =
    let up = subst (λ b. AreAscending 0 (form_terms b)) c.objective.ensures.objective c.in-Ok-scaled_objective.ensures.ascending in
    let h = subst (λ b. IsTiedOrPlain b c.in-Ok-scaled_objective.parts.objective c.in-Ok-scaled_objective.parts.tie) c.objective.ensures.objective c.in-Ok-scaled_objective.ensures.scaled in
    no_fault c.args.linear.now c.objective.ensures.folded up c.in-Ok.rows.items c.in-Ok.ensures.scaled c.in-Ok-scaled_objective.parts.objective c.in-Ok-scaled_objective.parts.tie h
