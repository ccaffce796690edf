use Rattle.std.proofs.Common.{◌≤◌, ◌+◌, ◌*◌, arith, subst}
use Rattle.linear_fold.proofs.BodyLemmas.{definition_folded, definition_here, definition_owner}
use Rattle.linear_fold.proofs.definitions.fold_definition.Goals as goal

pub overflow_sub-slot : goal.overflow_sub-slot
overflow_sub-slot g c =
    let here = definition_here c.args.file.now c.requires.file c.args.index c.args.definition.now c.requires.at in
    let from = here.from in
    let same = c.in_ok-form.ensures.folder.variables in
    omega arith

pub index_mut-requires : goal.index_mut-requires
index_mut-requires g c =
    let here = definition_here c.args.file.now c.requires.file c.args.index c.args.definition.now c.requires.at in
    let from = here.from in
    let below = here.below in
    let same = c.in_ok-form.ensures.folder.variables in
    let room = c.in_ok-form.ensures.folder.slots.room in
    let len = c.fold_owner.new.folder.slots.ok.0 in
    omega arith

pub returns-clause-folder : goal.returns-clause-folder
returns-clause-folder g c =
    let h = c.in_ok-form.ensures.folder in
    record {
      variables = h.variables;
      pad = h.pad;
      few = h.few;
      slots = rw h.variables (definition_folded c.args.file.now c.requires.file c.args.index c.args.definition.now
          c.requires.at c.fold_owner.new.folder.slots.items c.in_ok-form.form h.slots c.in_ok-form.ensures.form);
    }

pub returns-clause-below : goal.returns-clause-below
returns-clause-below g c =
    subst (λ m. c.fold_owner.new.steps ≤ c.args.steps.now + 2 * (c.args.file.now.counts.n_var + 1) * m)
    (definition_owner c.args.file.now c.requires.file c.args.index c.args.definition.now c.requires.at)
    c.fold_owner.ensures.below

pub returns-in_err-form-clause-below : goal.returns-in_err-form-clause-below
returns-in_err-form-clause-below g c =
    subst (λ m. c.fold_owner.new.steps ≤ c.args.steps.now + 2 * (c.args.file.now.counts.n_var + 1) * m)
    (definition_owner c.args.file.now c.requires.file c.args.index c.args.definition.now c.requires.at)
    c.fold_owner.ensures.below
