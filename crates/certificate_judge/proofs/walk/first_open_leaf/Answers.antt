use Rattle.std.proofs.Common.{◌≡◌, ◌<◌, ◌≤◌, ◌∙◌, ap, arith, sym, subst, drop, length, length-append, take, to_z-of_z}
use mir.Syntax.{w128}
use mir.Val.{to_z, of_z}
use Rattle.linear_program.specs.Linear.{variable_count}
use Rattle.exact_numbers.specs.Values.{frac_value}
use Rattle.certificates.specs.Certificates.{AreNumbers, IsCutNumber, number_form, whole_form}
use Rattle.linear_program.specs.Numbers.{number_value}
use Rattle.exact_checks.specs.Leaves.{AreIndices}
use Rattle.exact_checks.specs.Programs.{program_value}
use Rattle.exact_checks.proofs.Rows.{variables_counted}
use Rattle.certificate_judge.specs.InsidePaths.{IsAt}
use Rattle.certificate_judge.specs.declared.path.Path.{Path}
use Rattle.certificate_judge.proofs.Overs.{path_held}
use Rattle.certificate_judge.proofs.Standing.{after_leaf, after_lemma, after_plane, after_split, base, leaf_indices}
use Rattle.certificate_judge.proofs.Standing.{leaf_stops, lemma_number, lemma_numbers, pairs_there, plane_number}
use Rattle.certificate_judge.proofs.Standing.{plane_numbers, plane_wholes, split_number, split_variable}
use Rattle.certificate_judge.proofs.WholeDecimals.{whole_fits}
use Rattle.certificate_judge.proofs.walk.first_open_leaf.Goals as goal

pub enter_low-requires-clause-number : goal.enter_low-requires-clause-number
enter_low-requires-clause-number c =
    let number = split_number (program_value c.args.program.now) (frac_value c.args.value) c.requires.tree.0
    c.args.nodes.now c.loop-node.node-index c.loop-node.number c.loop-node.rest.now c.loop-node.room.path
    (c.loop-node.invariant.on c.requires.tree.0 c.requires.tree.1) c.node-item.result c.loop-node-test.true
    c.node-item.is c.in-Split.variable c.in-Split.most c.in-Split.is in
    let back : to_z w128 (of_z w128 c.in-Split.most) ≡ c.in-Split.most = to_z-of_z (whole_fits c.in-Split.most number.0) in
    subst IsCutNumber (sym back) number

pub loop-node-preserved-in-Split : goal.loop-node-preserved-in-Split
loop-node-preserved-in-Split c =
    let number = split_number (program_value c.args.program.now) (frac_value c.args.value) c.requires.tree.0
    c.args.nodes.now c.loop-node.node-index c.loop-node.number c.loop-node.rest.now c.loop-node.room.path
    (c.loop-node.invariant.on c.requires.tree.0 c.requires.tree.1) c.node-item.result c.loop-node-test.true
    c.node-item.is c.in-Split.variable c.in-Split.most c.in-Split.is in
    let back : to_z w128 (of_z w128 c.in-Split.most) ≡ c.in-Split.most = to_z-of_z (whole_fits c.in-Split.most number.0) in
    record {
      room = record {
        path = c.in_ok-enter_low.ensures.path (length c.args.program.now.lower.items)
            (subst (λ n. c.in-Split.variable < n) (variables_counted c.args.program.now)
            (split_variable (program_value c.args.program.now) (frac_value c.args.value) c.requires.tree.0
            c.args.nodes.now c.loop-node.node-index c.loop-node.number c.loop-node.rest.now c.loop-node.room.path
            (c.loop-node.invariant.on c.requires.tree.0 c.requires.tree.1) c.node-item.result c.loop-node-test.true
            c.node-item.is c.in-Split.variable c.in-Split.most c.in-Split.is)) c.loop-node.invariant.room.path;
        zero = c.loop-node.invariant.room.zero;
        count = c.loop-node.invariant.room.count;
      };
      few = omega (arith, c.loop-node.invariant.few);
      on = λ tree h. after_split (program_value c.args.program.now) (frac_value c.args.value) tree c.args.nodes.now
          c.loop-node.node-index c.loop-node.number c.loop-node.rest.now c.loop-node.room.path
          (c.loop-node.invariant.on tree h) c.node-item.result c.loop-node-test.true c.node-item.is c.in-Split.variable
          c.in-Split.most c.in-Split.is (to_z w128 (of_z w128 c.in-Split.most)) back c.enter_low.new.self
          c.in_ok-enter_low.ensures.at;
    }

pub split_at-requires : goal.split_at-requires
split_at-requires c = subst (λ n. n ≤ length c.loop-node.rest.now) (sym c.announced_pairs.ensures)
    (pairs_there (program_value c.args.program.now) (frac_value c.args.value) c.requires.tree.0 c.args.nodes.now
    c.loop-node.node-index c.loop-node.number c.loop-node.rest.now c.loop-node.room.path
    (c.loop-node.invariant.on c.requires.tree.0 c.requires.tree.1) c.node-item.result c.loop-node-test.true
    c.node-item.is c.in_default.not-Split)

pub body_of-requires : goal.body_of-requires
body_of-requires c =
    record {
      whole = plane_wholes (program_value c.args.program.now) (frac_value c.args.value) c.requires.tree.0
          c.args.nodes.now c.loop-node.node-index c.loop-node.number c.loop-node.rest.now c.loop-node.room.path
          (c.loop-node.invariant.on c.requires.tree.0 c.requires.tree.1) c.node-item.result c.loop-node-test.true
          c.node-item.is c.split_at.result.0.now c.split_at.result.1.now
          (c.split_at.ensures.front ∙ ap (λ m. take m c.loop-node.rest.now) c.announced_pairs.ensures)
          (c.split_at.ensures.back ∙ ap (λ m. drop m c.loop-node.rest.now) c.announced_pairs.ensures) c.in-Plane.field-0
          c.in-Plane.most c.in-Plane.is;
      numbers = (
        variable_count (program_value c.args.program.now),
        plane_numbers (program_value c.args.program.now) (frac_value c.args.value) c.requires.tree.0 c.args.nodes.now
            c.loop-node.node-index c.loop-node.number c.loop-node.rest.now c.loop-node.room.path
            (c.loop-node.invariant.on c.requires.tree.0 c.requires.tree.1) c.node-item.result c.loop-node-test.true
            c.node-item.is c.split_at.result.0.now c.split_at.result.1.now
            (c.split_at.ensures.front ∙ ap (λ m. take m c.loop-node.rest.now) c.announced_pairs.ensures)
            (c.split_at.ensures.back ∙ ap (λ m. drop m c.loop-node.rest.now) c.announced_pairs.ensures) c.in-Plane.field-0
            c.in-Plane.most c.in-Plane.is,
      );
    }

pub enter_under-requires : goal.enter_under-requires
enter_under-requires c =
    let number = plane_number (program_value c.args.program.now) (frac_value c.args.value) c.requires.tree.0
    c.args.nodes.now c.loop-node.node-index c.loop-node.number c.loop-node.rest.now c.loop-node.room.path
    (c.loop-node.invariant.on c.requires.tree.0 c.requires.tree.1) c.node-item.result c.loop-node-test.true
    c.node-item.is c.split_at.result.0.now c.split_at.result.1.now
    (c.split_at.ensures.front ∙ ap (λ m. take m c.loop-node.rest.now) c.announced_pairs.ensures)
    (c.split_at.ensures.back ∙ ap (λ m. drop m c.loop-node.rest.now) c.announced_pairs.ensures) c.in-Plane.field-0
    c.in-Plane.most c.in-Plane.is in
    let back : to_z w128 (of_z w128 c.in-Plane.most) ≡ c.in-Plane.most = to_z-of_z (whole_fits c.in-Plane.most number.0) in
    record { number = subst IsCutNumber (sym back) number }

pub loop-node-preserved-in-Plane : goal.loop-node-preserved-in-Plane
loop-node-preserved-in-Plane c =
    let number = plane_number (program_value c.args.program.now) (frac_value c.args.value) c.requires.tree.0
    c.args.nodes.now c.loop-node.node-index c.loop-node.number c.loop-node.rest.now c.loop-node.room.path
    (c.loop-node.invariant.on c.requires.tree.0 c.requires.tree.1) c.node-item.result c.loop-node-test.true
    c.node-item.is c.split_at.result.0.now c.split_at.result.1.now
    (c.split_at.ensures.front ∙ ap (λ m. take m c.loop-node.rest.now) c.announced_pairs.ensures)
    (c.split_at.ensures.back ∙ ap (λ m. drop m c.loop-node.rest.now) c.announced_pairs.ensures) c.in-Plane.field-0
    c.in-Plane.most c.in-Plane.is in
    let back : to_z w128 (of_z w128 c.in-Plane.most) ≡ c.in-Plane.most = to_z-of_z (whole_fits c.in-Plane.most number.0) in
    let numbers = subst (λ n. AreNumbers 0 n c.split_at.result.0.now) (variables_counted c.args.program.now)
    (plane_numbers (program_value c.args.program.now) (frac_value c.args.value) c.requires.tree.0 c.args.nodes.now
    c.loop-node.node-index c.loop-node.number c.loop-node.rest.now c.loop-node.room.path
    (c.loop-node.invariant.on c.requires.tree.0 c.requires.tree.1) c.node-item.result c.loop-node-test.true
    c.node-item.is c.split_at.result.0.now c.split_at.result.1.now
    (c.split_at.ensures.front ∙ ap (λ m. take m c.loop-node.rest.now) c.announced_pairs.ensures)
    (c.split_at.ensures.back ∙ ap (λ m. drop m c.loop-node.rest.now) c.announced_pairs.ensures) c.in-Plane.field-0
    c.in-Plane.most c.in-Plane.is) in
    record {
      room = record {
        path = c.in_ok-enter_under.ensures.path (length c.args.program.now.lower.items) (c.in_ok-body_of.ensures.terms (length c.args.program.now.lower.items) numbers) c.loop-node.invariant.room.path;
        zero = c.loop-node.invariant.room.zero;
        count = c.loop-node.invariant.room.count;
      };
      few = omega (arith, c.loop-node.invariant.few);
      on = λ tree h. after_plane (program_value c.args.program.now) (frac_value c.args.value) tree c.args.nodes.now
          c.loop-node.node-index c.loop-node.number c.loop-node.rest.now c.loop-node.room.path
          (c.loop-node.invariant.on tree h) c.node-item.result c.loop-node-test.true c.node-item.is
          c.split_at.result.0.now c.split_at.result.1.now (c.split_at.ensures.front
          ∙ ap (λ m. take m c.loop-node.rest.now) c.announced_pairs.ensures)
          (c.split_at.ensures.back ∙ ap (λ m. drop m c.loop-node.rest.now) c.announced_pairs.ensures) c.in-Plane.field-0
          c.in-Plane.most c.in-Plane.is (to_z w128 (of_z w128 c.in-Plane.most)) back c.enter_under.new.self
          (λ b ts at. c.in_ok-enter_under.ensures.at b ts (whole_form c.split_at.result.0.now)
          c.in_ok-body_of.ensures.form at);
    }

pub lemma_of-requires : goal.lemma_of-requires
lemma_of-requires c =
    record {
      numbers = (
        variable_count (program_value c.args.program.now),
        lemma_numbers (program_value c.args.program.now) (frac_value c.args.value) c.requires.tree.0 c.args.nodes.now
            c.loop-node.node-index c.loop-node.number c.loop-node.rest.now c.loop-node.room.path
            (c.loop-node.invariant.on c.requires.tree.0 c.requires.tree.1) c.node-item.result c.loop-node-test.true
            c.node-item.is c.split_at.result.0.now c.split_at.result.1.now
            (c.split_at.ensures.front ∙ ap (λ m. take m c.loop-node.rest.now) c.announced_pairs.ensures)
            (c.split_at.ensures.back ∙ ap (λ m. drop m c.loop-node.rest.now) c.announced_pairs.ensures) c.in-Lemma.field-0
            c.in-Lemma.most c.in-Lemma.is,
      );
      most = lemma_number (program_value c.args.program.now) (frac_value c.args.value) c.requires.tree.0
          c.args.nodes.now c.loop-node.node-index c.loop-node.number c.loop-node.rest.now c.loop-node.room.path
          (c.loop-node.invariant.on c.requires.tree.0 c.requires.tree.1) c.node-item.result c.loop-node-test.true
          c.node-item.is c.split_at.result.0.now c.split_at.result.1.now
          (c.split_at.ensures.front ∙ ap (λ m. take m c.loop-node.rest.now) c.announced_pairs.ensures)
          (c.split_at.ensures.back ∙ ap (λ m. drop m c.loop-node.rest.now) c.announced_pairs.ensures) c.in-Lemma.field-0
          c.in-Lemma.most c.in-Lemma.is;
    }

pub loop-node-preserved-in-Lemma : goal.loop-node-preserved-in-Lemma
loop-node-preserved-in-Lemma c =
    let numbers = subst (λ n. AreNumbers 0 n c.split_at.result.0.now) (variables_counted c.args.program.now)
    (lemma_numbers (program_value c.args.program.now) (frac_value c.args.value) c.requires.tree.0 c.args.nodes.now
    c.loop-node.node-index c.loop-node.number c.loop-node.rest.now c.loop-node.room.path
    (c.loop-node.invariant.on c.requires.tree.0 c.requires.tree.1) c.node-item.result c.loop-node-test.true
    c.node-item.is c.split_at.result.0.now c.split_at.result.1.now
    (c.split_at.ensures.front ∙ ap (λ m. take m c.loop-node.rest.now) c.announced_pairs.ensures)
    (c.split_at.ensures.back ∙ ap (λ m. drop m c.loop-node.rest.now) c.announced_pairs.ensures) c.in-Lemma.field-0
    c.in-Lemma.most c.in-Lemma.is) in
    record {
      room = record {
        path = c.in_ok-enter_proof.ensures.path (length c.args.program.now.lower.items)
            (c.in_ok-lemma_of.ensures.terms (length c.args.program.now.lower.items) numbers)
            c.loop-node.invariant.room.path;
        zero = c.loop-node.invariant.room.zero;
        count = c.loop-node.invariant.room.count;
      };
      few = omega (arith, c.loop-node.invariant.few);
      on = λ tree h. after_lemma (program_value c.args.program.now) (frac_value c.args.value) tree c.args.nodes.now
          c.loop-node.node-index c.loop-node.number c.loop-node.rest.now c.loop-node.room.path
          (c.loop-node.invariant.on tree h) c.node-item.result c.loop-node-test.true c.node-item.is
          c.split_at.result.0.now c.split_at.result.1.now (c.split_at.ensures.front
          ∙ ap (λ m. take m c.loop-node.rest.now) c.announced_pairs.ensures)
          (c.split_at.ensures.back ∙ ap (λ m. drop m c.loop-node.rest.now) c.announced_pairs.ensures) c.in-Lemma.field-0
          c.in-Lemma.most c.in-Lemma.is c.enter_proof.new.self
          (λ b ts at. c.in_ok-enter_proof.ensures.at b ts (number_form c.split_at.result.0.now)
          (number_value c.in-Lemma.most) c.in_ok-lemma_of.ensures.lemma at);
    }

pub judge-requires : goal.judge-requires
judge-requires c =
    let s = (c.loop-node.invariant.on c.requires.tree.0 c.requires.tree.1) in
    let held = path_held c.args.program.now (frac_value c.args.value) s.turns c.loop-node.room.path s.at c.loop-node.invariant.room.path in
    record {
      room = c.loop-node.invariant.room;
      pairs = subst (λ n. AreIndices 0 n c.split_at.result.0.now) (sym held.rows.alike.rows ∙ held.rows.held.rows ∙ length-append c.args.program.now.rows.items c.loop-node.room.path.added.items)
          (leaf_indices (program_value c.args.program.now) (frac_value c.args.value) c.requires.tree.0 c.args.nodes.now
          c.loop-node.node-index c.loop-node.number c.loop-node.rest.now c.loop-node.room.path s c.node-item.result
          c.loop-node-test.true c.node-item.is c.split_at.result.0.now c.split_at.result.1.now
          (c.split_at.ensures.front ∙ ap (λ m. take m c.loop-node.rest.now) c.announced_pairs.ensures)
          (c.split_at.ensures.back ∙ ap (λ m. drop m c.loop-node.rest.now) c.announced_pairs.ensures) c.goal_of.result
          c.goal_of.ensures);
    }

pub returns-in-Some : goal.returns-in-Some
returns-in-Some c tree h =
    let s = (c.loop-node.invariant.on tree h) in
    leaf_stops (program_value c.args.program.now) (frac_value c.args.value) tree c.args.nodes.now c.loop-node.node-index
    c.loop-node.number c.loop-node.rest.now c.loop-node.room.path s c.node-item.result c.loop-node-test.true
    c.node-item.is c.split_at.result.0.now c.split_at.result.1.now
    (c.split_at.ensures.front ∙ ap (λ m. take m c.loop-node.rest.now) c.announced_pairs.ensures)
    (c.split_at.ensures.back ∙ ap (λ m. drop m c.loop-node.rest.now) c.announced_pairs.ensures) c.goal_of.result
    c.goal_of.ensures c.in_ok-fault.field-0 (c.in_ok-fault.ensures.exact s.turns s.at c.loop-node.number)
    c.in-Some.fault c.in-Some.is

pub loop-node-preserved : goal.loop-node-preserved
loop-node-preserved c =
    record {
      room = record {
        path = c.in_ok-climb.ensures.path (length c.args.program.now.lower.items) c.in_ok-fault.ensures.room.path;
        zero = c.in_ok-fault.ensures.room.zero;
        count = c.in_ok-fault.ensures.room.count;
      };
      few = omega (arith, c.loop-node.invariant.few);
      on = λ tree h.
          let s = (c.loop-node.invariant.on tree h) in
          after_leaf (program_value c.args.program.now) (frac_value c.args.value) tree c.args.nodes.now
          c.loop-node.node-index c.loop-node.number c.loop-node.rest.now c.loop-node.room.path s c.node-item.result
          c.loop-node-test.true c.node-item.is c.split_at.result.0.now c.split_at.result.1.now
          (c.split_at.ensures.front ∙ ap (λ m. take m c.loop-node.rest.now) c.announced_pairs.ensures)
          (c.split_at.ensures.back ∙ ap (λ m. drop m c.loop-node.rest.now) c.announced_pairs.ensures) c.goal_of.result
          c.goal_of.ensures c.in_ok-fault.field-0 (c.in_ok-fault.ensures.exact s.turns s.at c.loop-node.number)
          c.in_default-2.is c.climb.new.self
          (c.in_ok-climb.ensures.at (base (program_value c.args.program.now) (frac_value c.args.value) tree
          c.args.nodes.now) s.turns (subst (λ (p : Path). IsAt
          (base (program_value c.args.program.now) (frac_value c.args.value) tree c.args.nodes.now) s.turns p)
          (sym c.in_ok-fault.ensures.path) s.at));
    }
