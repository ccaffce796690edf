use Rattle.std.proofs.Common.{◌≡◌, ◌∙◌, ◌+◌, ◌<◌, ◌≤◌, ◌*◌, [], ◌∷◌, sym, ap, subst, arith, length, take, length-append}
use Rattle.nl_model.specs.declared.at.Owner.TheVariants.{Con as OfConstraint}
use Rattle.linear_fold.specs.InsideOwnerFolds.{AreBodiesOf, bodies_size, coefficients_of, owned_at, owner_size}
use Rattle.linear_fold.specs.InsideHeldBodies.{AreStillDecimals, completed}
use Rattle.linear_fold.proofs.HeldBodies.{bodies_more, count_more, same_more, still_more}
use Rattle.linear_fold.proofs.BodyLemmas.{bodies_size_le, body_size, left_end, left_init, left_more, left_stop, steps_more, steps_within}
use Rattle.linear_fold.proofs.bodies.fold_bodies.Goals as goal

pub loop-con-preserved : goal.loop-con-preserved
loop-con-preserved g c =
    let f = c.args.file.now in
    let i = c.loop-con.con in
    let below : i < f.counts.n_con = (let h = c.loop-con-test.true in
    let same : c.counts-counts.result.now.n_con ≡ f.counts.n_con =
    ap (λ x. x.n_con) (c.counts-counts.ensures.value ∙ c.header.ensures.counts) in omega arith) in
    let pushed = c.in-Ok-push.ensures.items in
    let inv = c.loop-con.invariant in
    record {
      folder_now = c.in-Ok.ensures.folder;
      left = left_more f c.args.folder.now.count (λ j. owned_at f (OfConstraint j)) f.counts.n_con c.loop-con.folder.count c.fold_body.new.folder.count i below inv.left c.in-Ok.ensures.folded;
      bodies_are = bodies_more f c.requires.file i below c.loop-con.held.items c.push-in-loop-con.new.self.items
          c.loop-con.forms.items c.push.new.self.items c.in-Ok.body.held c.in-Ok.body.form inv.number inv.marks
          c.in-Ok-push-2.ensures.items pushed inv.bodies_are c.in-Ok.ensures.form;
      still = still_more f c.requires.file i below c.loop-con.held.items c.push-in-loop-con.new.self.items
          c.loop-con.forms.items c.push.new.self.items c.in-Ok.body.held c.in-Ok.body.form inv.number inv.marks
          c.in-Ok-push-2.ensures.items pushed inv.still c.in-Ok.ensures.form;
      number = ap length pushed ∙ length-append c.loop-con.forms.items (c.in-Ok.body.form ∷ []) ∙ ap (λ n. n + 1) inv.number;
      marks = ap length c.in-Ok-push-2.ensures.items ∙ length-append c.loop-con.held.items (c.in-Ok.body.held ∷ []) ∙ ap (λ n. n + 1) inv.marks;
      as_they_are = same_more f c.requires.file i below c.loop-con.held.items c.push-in-loop-con.new.self.items
          c.loop-con.forms.items c.push.new.self.items c.in-Ok.body.held c.in-Ok.body.form inv.number inv.marks
          c.in-Ok-push-2.ensures.items pushed c.args.hold inv.as_they_are c.in-Ok.ensures.hold;
      counted =
          (let more = count_more f c.requires.file i below c.loop-con.held.items c.push-in-loop-con.new.self.items
          c.loop-con.forms.items c.push.new.self.items c.in-Ok.body.held c.in-Ok.body.form inv.number inv.marks
          c.in-Ok-push-2.ensures.items pushed in
          let old = inv.counted in
          let new = c.in-Ok.ensures.count in
          omega arith);
      above = (let h = inv.above in let k = c.in-Ok.ensures.above in omega arith);
      below =
          subst (λ m. c.fold_body.new.steps ≤ c.args.steps.now + 2 * (f.counts.n_var + 1) * m) (sym (body_size f c.requires.file i below))
          (steps_more f.counts.n_var c.args.steps.now c.loop-con.steps c.fold_body.new.steps
          (bodies_size (take i f.bodies) (take i f.terms)) (owner_size f (OfConstraint i)) inv.below
          c.in-Ok.ensures.below);
    }

pub returns-in-Err-clause-folded : goal.returns-in-Err-clause-folded
returns-in-Err-clause-folded g c =
    let f = c.args.file.now in
    let i = c.loop-con.con in
    let below : i < f.counts.n_con = (let h = c.loop-con-test.true in
    let same : c.counts-counts.result.now.n_con ≡ f.counts.n_con =
    ap (λ x. x.n_con) (c.counts-counts.ensures.value ∙ c.header.ensures.counts) in omega arith) in
    left_stop f c.args.folder.now.count (λ j. owned_at f (OfConstraint j)) f.counts.n_con c.loop-con.folder.count i c.in-Err.stop below c.loop-con.invariant.left c.in-Err.ensures.folded

pub returns-in-Err-clause-below : goal.returns-in-Err-clause-below
returns-in-Err-clause-below g c =
    let f = c.args.file.now in
    let i = c.loop-con.con in
    let below : i < f.counts.n_con = (let h = c.loop-con-test.true in
    let same : c.counts-counts.result.now.n_con ≡ f.counts.n_con =
    ap (λ x. x.n_con) (c.counts-counts.ensures.value ∙ c.header.ensures.counts) in omega arith) in
    steps_within f.counts.n_var c.args.steps.now c.fold_body.new.steps (bodies_size (take (i + 1) f.bodies) (take (i + 1) f.terms)) (bodies_size f.bodies f.terms) (bodies_size_le f (i + 1))
    (subst (λ m. c.fold_body.new.steps ≤ c.args.steps.now + 2 * (f.counts.n_var + 1) * m) (sym (body_size f c.requires.file i below))
    (steps_more f.counts.n_var c.args.steps.now c.loop-con.steps c.fold_body.new.steps
    (bodies_size (take i f.bodies) (take i f.terms)) (owner_size f (OfConstraint i)) c.loop-con.invariant.below
    c.in-Err.ensures.below))

pub returns-in_default-clause-below : goal.returns-in_default-clause-below
returns-in_default-clause-below g c =
    let f = c.args.file.now in
    let i = c.loop-con.con in
    let below : i < f.counts.n_con = (let h = c.loop-con-test.true in
    let same : c.counts-counts.result.now.n_con ≡ f.counts.n_con =
    ap (λ x. x.n_con) (c.counts-counts.ensures.value ∙ c.header.ensures.counts) in omega arith) in
    steps_within f.counts.n_var c.args.steps.now c.fold_body.new.steps (bodies_size (take (i + 1) f.bodies) (take (i + 1) f.terms)) (bodies_size f.bodies f.terms) (bodies_size_le f (i + 1))
    (subst (λ m. c.fold_body.new.steps ≤ c.args.steps.now + 2 * (f.counts.n_var + 1) * m) (sym (body_size f c.requires.file i below))
    (steps_more f.counts.n_var c.args.steps.now c.loop-con.steps c.fold_body.new.steps
    (bodies_size (take i f.bodies) (take i f.terms)) (owner_size f (OfConstraint i)) c.loop-con.invariant.below
    c.in-Ok.ensures.below))

pub returns-in_default-push-clause-below : goal.returns-in_default-push-clause-below
returns-in_default-push-clause-below g c =
    let f = c.args.file.now in
    let i = c.loop-con.con in
    let below : i < f.counts.n_con = (let h = c.loop-con-test.true in
    let same : c.counts-counts.result.now.n_con ≡ f.counts.n_con =
    ap (λ x. x.n_con) (c.counts-counts.ensures.value ∙ c.header.ensures.counts) in omega arith) in
    steps_within f.counts.n_var c.args.steps.now c.fold_body.new.steps (bodies_size (take (i + 1) f.bodies) (take (i + 1) f.terms)) (bodies_size f.bodies f.terms) (bodies_size_le f (i + 1))
    (subst (λ m. c.fold_body.new.steps ≤ c.args.steps.now + 2 * (f.counts.n_var + 1) * m) (sym (body_size f c.requires.file i below))
    (steps_more f.counts.n_var c.args.steps.now c.loop-con.steps c.fold_body.new.steps
    (bodies_size (take i f.bodies) (take i f.terms)) (owner_size f (OfConstraint i)) c.loop-con.invariant.below
    c.in-Ok.ensures.below))

pub returns-clause-folded : goal.returns-clause-folded
returns-clause-folded g c =
    let f = c.args.file.now in
    left_end f c.args.folder.now.count (λ j. owned_at f (OfConstraint j)) f.counts.n_con c.loop-con.folder.count
    c.loop-con.con (let h = c.loop-con-test.false in let same : c.counts-counts.result.now.n_con ≡ f.counts.n_con =
    ap (λ x. x.n_con) (c.counts-counts.ensures.value ∙ c.header.ensures.counts) in omega arith)
    c.loop-con.invariant.left

pub loop-con-init : goal.loop-con-init
loop-con-init g c =
    let f = c.args.file.now in
    let none = c.in_ok-forms.ensures.items in
    let unmarked = c.in_ok-held.ensures.items in
    let empty : completed c.in_ok-held.held.items f.terms c.in_ok-forms.forms.items ≡ [] = ap (λ hs. completed hs f.terms c.in_ok-forms.forms.items) unmarked in
    record {
      folder_now = c.requires.folder;
      left = left_init f c.args.folder.now.count (λ j. owned_at f (OfConstraint j)) f.counts.n_con;
      bodies_are = subst (AreBodiesOf f 0) (sym empty) tt;
      still = subst (λ hs. AreStillDecimals hs f.terms) (sym unmarked) tt;
      number = ap length none;
      marks = ap length unmarked;
      as_they_are = λ e. empty ∙ sym none;
      counted = (let h : coefficients_of (completed c.in_ok-held.held.items f.terms c.in_ok-forms.forms.items) ≡ 0 = ap coefficients_of empty in omega arith);
      above = omega arith;
      below = omega arith;
    }
