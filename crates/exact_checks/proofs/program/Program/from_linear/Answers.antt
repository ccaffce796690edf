use Rattle.std.proofs.Common.{◌∙◌, ap, length, map, refl, subst, sym}
use Rattle.linear_program.specs.Programs.{IsLinear, LinearValue, linear_value}
use Rattle.exact_checks.specs.Built.{AreRowsOf, AreWithin}
use Rattle.exact_checks.proofs.Assembled.{program_is, sound, upper_count}
use Rattle.exact_checks.proofs.program.Program.from_linear.Goals as goal

pub invariant_of-result : goal.invariant_of-result
invariant_of-result c =
    let p = c.into_parts-parts.result in
    let l : LinearValue = record {
      bodies = p.bodies.items;
      objective = p.objective;
      number = p.number;
      maximise =
          p.maximise;
      sides = p.sides.items;
      bounds = p.bounds.items;
      kinds = p.kinds.items;
    } in
    let folded : IsLinear l = subst IsLinear c.into_parts-parts.ensures.value c.into_parts-parts.ensures.linear in
    let copies = subst (λ ss. AreRowsOf p.bodies.items ss c.in_ok-rows.rows.items) c.deref.ensures.value c.in_ok-rows.ensures.rows in
    let within = subst (λ bs. AreWithin (length bs) c.in_ok-rows.rows.items) c.deref-2.ensures.value c.in_ok-rows.ensures.within in
    let lows = c.in_ok-lower.ensures ∙ ap (map (λ b. b.lo)) c.deref-3.ensures.value in
    let highs = c.in_ok-upper.ensures ∙ ap (map (λ b. b.hi)) c.deref-4.ensures.value in
    record {
      uppers = upper_count l folded c.in_ok-rows.rows.items c.in_ok-objective.objective c.in_ok-lower.lower.items
          c.in_ok-upper.upper.items copies within c.in_ok-objective.ensures.copy c.in_ok-objective.ensures.ascending lows
          highs;
      sound = sound l folded c.in_ok-rows.rows.items c.in_ok-objective.objective c.in_ok-lower.lower.items
          c.in_ok-upper.upper.items copies within c.in_ok-objective.ensures.copy c.in_ok-objective.ensures.ascending lows
          highs;
    }

pub returns : goal.returns
unfolding Rattle.exact_checks.specs.Programs.program_value
returns c =
    let p = c.into_parts-parts.result in
    let l : LinearValue = record {
      bodies = p.bodies.items;
      objective = p.objective;
      number = p.number;
      maximise =
          p.maximise;
      sides = p.sides.items;
      bounds = p.bounds.items;
      kinds = p.kinds.items;
    } in
    let folded : IsLinear l = subst IsLinear c.into_parts-parts.ensures.value c.into_parts-parts.ensures.linear in
    let copies = subst (λ ss. AreRowsOf p.bodies.items ss c.in_ok-rows.rows.items) c.deref.ensures.value c.in_ok-rows.ensures.rows in
    let within = subst (λ bs. AreWithin (length bs) c.in_ok-rows.rows.items) c.deref-2.ensures.value c.in_ok-rows.ensures.within in
    let lows = c.in_ok-lower.ensures ∙ ap (map (λ b. b.lo)) c.deref-3.ensures.value in
    let highs = c.in_ok-upper.ensures ∙ ap (map (λ b. b.hi)) c.deref-4.ensures.value in
    program_is l folded c.in_ok-rows.rows.items c.in_ok-objective.objective c.in_ok-lower.lower.items
    c.in_ok-upper.upper.items copies within c.in_ok-objective.ensures.copy c.in_ok-objective.ensures.ascending lows
    highs p.kinds.items p.maximise refl refl
    ∙ ap linear_value (sym c.into_parts-parts.ensures.value)
