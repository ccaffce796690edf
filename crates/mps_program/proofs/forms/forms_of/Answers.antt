use Rattle.std.proofs.Common.{◌≡◌, ◌+◌, ◌-◌, ◌<◌, ◌∙◌, [], sym, ap, arith, length, refl, rules, subst}
use Rattle.mps_model.specs.Mps.{objective_row}
use Rattle.linear_program.specs.Parts.{IsPart}
use Rattle.mps_program.specs.Faults.{is_body_wide}
use Rattle.mps_program.specs.InsideForms.{AreBodiesOf}
use Rattle.mps_program.specs.Places.{places}
use Rattle.mps_program.specs.Program.{is_constraint}
use Rattle.mps_program.specs.Terms.{row_terms}
use Rattle.mps_program.proofs.FormLemmas.{bodies_end, part_terms, terms_count}
use Rattle.mps_program.proofs.forms.forms_of.Goals as goal

pub add_bodies-requires-clause-terms : goal.add_bodies-requires-clause-terms
add_bodies-requires-clause-terms c =
    part_terms c.args.mps.now c.args.terms c.requires c.parts.done (c.part_end-end.result - c.parts.done) c.parts.terms
    c.in_ok-part.part (omega (
      arith,
      c.part_end-end.ensures.within,
      c.part_end-end.ensures.some,
      ap length c.rows-rows.ensures.value,
    )) c.parts.invariant.later c.in_ok-part.ensures.part

pub next_objective-requires-clause-terms : goal.next_objective-requires-clause-terms
next_objective-requires-clause-terms c =
    part_terms c.args.mps.now c.args.terms c.requires c.parts.done (c.part_end-end.result - c.parts.done) c.parts.terms
    c.in_ok-part.part (omega (
      arith,
      c.part_end-end.ensures.within,
      c.part_end-end.ensures.some,
      ap length c.rows-rows.ensures.value,
    )) c.parts.invariant.later c.in_ok-part.ensures.part

pub next_objective-requires-clause-place : goal.next_objective-requires-clause-place
next_objective-requires-clause-place c = c.objective_row-place.ensures ∙ ap objective_row c.rows-rows.ensures.value

pub parts-preserved : goal.parts-preserved
parts-preserved c =
    let m = c.args.mps.now in
    let size = c.in_ok-part.ensures.part.count in
    let end : c.parts.done + length c.in_ok-part.part ≡ c.part_end-end.result = omega (arith, size, c.part_end-end.ensures.some) in
    record {
      within = search rules;
      start = search rules;
      later = search rules;
      bodies = subst (λ n. AreBodiesOf (row_terms m) (places (is_constraint m.rows) n) c.add_bodies.new.bodies.items) end c.in_ok-add_bodies.ensures.bodies;
      none = subst (λ n. places (is_body_wide m) n ≡ []) end c.in_ok-add_bodies.ensures.clean;
      objective = λ lt. c.in_ok-objective.ensures (subst (λ n. c.objective_row-place.result < n) (sym end) lt);
    }

pub parts-init : goal.parts-init
unfolding places
parts-init c = record {
  within = omega arith;
  start = λ lt. refl;
  later = record { count = refl; same = λ j le lt. refl };
  bodies = subst (AreBodiesOf (row_terms c.args.mps.now) []) (sym c.in_ok-bodies.ensures.items) tt;
  none = refl;
  objective = λ lt. absurd (omega (arith, lt));
}

pub take_part-requires : goal.take_part-requires
take_part-requires c =
    let count = c.parts.invariant.later.count in
    let size : length c.rows-rows.result.now ≡ length c.parts.terms = omega (arith, count, terms_count c.args.mps.now c.args.terms c.requires, ap length c.rows-rows.ensures.value) in
    subst (λ n. IsPart n c.parts.done (c.part_end-end.result - c.parts.done)) size (c.part_end-end.ensures.part (c.parts.invariant.start c.parts-test.true))

pub returns-clause-bodies : goal.returns-clause-bodies
returns-clause-bodies c = bodies_end c.args.mps.now c.parts.done c.parts.bodies.items
    (omega (arith, c.parts.invariant.within, c.parts-test.false, ap length c.rows-rows.ensures.value))
    c.parts.invariant.bodies
