use Rattle.std.proofs.Common.{◌∙◌, sym, ap, subst}
use Rattle.text_base.specs.Stopped.{IfFault}
use Rattle.linear_program.specs.Coefs.{AreAscending}
use Rattle.linear_program.specs.Forms.{form_terms}
use Rattle.linear_program.specs.Programs.{LinearValue, linear_value}
use Rattle.row_scaling.specs.Factored.{IsTiedOrPlain, IsTooWide}
use Rattle.row_scaling.specs.InsideMoves.{HasRows}
use Rattle.row_scaling.specs.Scaled.{IsScaled}
use Rattle.row_scaling.specs.Scaling.{IsScaledOf}
use Rattle.row_scaling.proofs.LinearLemmas.{same_value_of, is_scaled_program, is_scaled_of, no_fault, objective_fault}
use Rattle.row_scaling.proofs.scale.scale_program.Goals as goal
use Rattle.row_scaling.proofs.scale.scale_program.Goals.{After-moved_rows}

-- the rows of the parts are those of the program
has_rows : (c : After-moved_rows) → HasRows c.args.linear c.into_parts-bodies.result.bodies.items c.deref.result.now
has_rows c =
    let value = c.into_parts-bodies.ensures.value in
    record {
      linear = c.into_parts-bodies.ensures.linear;
      bodies_are = sym (ap (λ (l : LinearValue). l.bodies) value);
      sides_are = c.deref.ensures.value ∙ sym (ap (λ (l : LinearValue). l.sides) value);
    }

pub returns-in-Err-Fault-clause-fault : goal.returns-in-Err-Fault-clause-fault
returns-in-Err-Fault-clause-fault c =
    let l = c.args.linear in
    let has = has_rows (goal.at.returns-in-Err-Fault-clause-fault c).After-moved_rows in
    let same = sym (ap (λ (p : LinearValue). p.objective) c.into_parts-bodies.ensures.value) in
    let up = subst (λ b. AreAscending 0 (form_terms b)) same c.in-Err-Fault.ensures.ascending in
    let wide = subst (λ s. IfFault s (λ w. IsTooWide c.into_parts-bodies.result.objective)) c.in-Err-Fault.field-0-is c.in-Err-Fault.ensures.wide in
    objective_fault l has.linear up c.in-Ok.rows.items (c.in-Ok.ensures.scaled l has) (subst IsTooWide same wide)

pub new-requires : goal.new-requires
new-requires c =
    let l = c.args.linear in
    let r = c.into_parts-bodies.result in
    let has = has_rows (goal.at.new-requires c).After-moved_rows in
    let value = c.into_parts-bodies.ensures.value in
    let o = c.in-Ok-scaled_objective.parts.objective in
    let t = c.in-Ok-scaled_objective.parts.tie in
    let same = sym (ap (λ (p : LinearValue). p.objective) value) in
    let up = subst (λ b. AreAscending 0 (form_terms b)) same c.in-Ok-scaled_objective.ensures.ascending in
    let h = subst (λ b. IsTiedOrPlain b o t) same c.in-Ok-scaled_objective.ensures.scaled in
    subst IsScaled
    (sym (same_value_of l c.in-Ok.rows.items o t r.maximise r.bounds.items r.kinds.items
    (sym (ap (λ (p : LinearValue). p.maximise) value)) (sym (ap (λ (p : LinearValue). p.bounds) value))
    (sym (ap (λ (p : LinearValue). p.kinds) value))))
    (is_scaled_program l has.linear up c.in-Ok.rows.items (c.in-Ok.ensures.scaled l has) o t h (c.in-Ok.ensures.few l has))

pub returns-clause-scaled : goal.returns-clause-scaled
returns-clause-scaled c =
    let l = c.args.linear in
    let r = c.into_parts-bodies.result in
    let has = has_rows (goal.at.returns-clause-scaled c).After-moved_rows in
    let value = c.into_parts-bodies.ensures.value in
    let o = c.in-Ok-scaled_objective.parts.objective in
    let t = c.in-Ok-scaled_objective.parts.tie in
    let same = sym (ap (λ (p : LinearValue). p.objective) value) in
    let up = subst (λ b. AreAscending 0 (form_terms b)) same c.in-Ok-scaled_objective.ensures.ascending in
    let h = subst (λ b. IsTiedOrPlain b o t) same c.in-Ok-scaled_objective.ensures.scaled in
    subst (IsScaledOf (linear_value l))
    (sym
    (c.in_ok-new.ensures
    ∙ same_value_of l c.in-Ok.rows.items o t r.maximise r.bounds.items r.kinds.items
    (sym (ap (λ (p : LinearValue). p.maximise) value)) (sym (ap (λ (p : LinearValue). p.bounds) value))
    (sym (ap (λ (p : LinearValue). p.kinds) value))))
    (is_scaled_of l has.linear up c.in-Ok.rows.items (c.in-Ok.ensures.scaled l has) o t h)

pub returns-clause-fine : goal.returns-clause-fine
returns-clause-fine c =
    let l = c.args.linear in
    let has = has_rows (goal.at.returns-clause-fine c).After-moved_rows in
    let o = c.in-Ok-scaled_objective.parts.objective in
    let t = c.in-Ok-scaled_objective.parts.tie in
    let same = sym (ap (λ (p : LinearValue). p.objective) c.into_parts-bodies.ensures.value) in
    let up = subst (λ b. AreAscending 0 (form_terms b)) same c.in-Ok-scaled_objective.ensures.ascending in
    let h = subst (λ b. IsTiedOrPlain b o t) same c.in-Ok-scaled_objective.ensures.scaled in
    no_fault l has.linear up c.in-Ok.rows.items (c.in-Ok.ensures.scaled l has) o t h
