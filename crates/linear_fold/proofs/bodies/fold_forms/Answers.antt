use Rattle.std.proofs.Common.{arith}
use Rattle.linear_fold.proofs.BodyLemmas.{all_fine, first_stopped, second_stopped, third_stopped, three_parts}
use Rattle.linear_fold.proofs.HeldBodies.{forms_are}
use Rattle.linear_fold.proofs.bodies.fold_forms.Goals as goal

pub returns-in-Err-clause-fault : goal.returns-in-Err-clause-fault
returns-in-Err-clause-fault g c = first_stopped c.args.file.now c.args.objective c.args.folder.now.count c.fold_definitions.new.folder.count 0 c.requires.nothing c.in-Err.stop c.in-Err.ensures.folded

pub returns-in-Err-fold_bodies-clause-fault : goal.returns-in-Err-fold_bodies-clause-fault
returns-in-Err-fold_bodies-clause-fault g c = second_stopped c.args.file.now c.args.objective c.args.folder.now.count
    c.fold_definitions.new.folder.count 0 c.requires.nothing c.in-Ok.ensures.folded c.in-Err-fold_bodies.stop
    c.in-Err-fold_bodies.ensures.folded

pub returns-in-Err-fold_objective-clause-fault : goal.returns-in-Err-fold_objective-clause-fault
returns-in-Err-fold_objective-clause-fault g c =
    third_stopped c.args.file.now c.args.objective c.args.folder.now.count c.fold_definitions.new.folder.count
    c.fold_bodies.new.folder.count c.requires.nothing c.in-Ok.ensures.folded c.in-Ok-fold_bodies.ensures.folded
    c.in-Err-fold_objective.stop c.in-Err-fold_objective.ensures.folded

pub returns-in-Ok-fold_objective-clause-fine : goal.returns-in-Ok-fold_objective-clause-fine
returns-in-Ok-fold_objective-clause-fine g c =
    all_fine c.args.file.now c.args.objective c.args.folder.now.count c.fold_definitions.new.folder.count
    c.fold_bodies.new.folder.count c.requires.nothing c.in-Ok.ensures.folded c.in-Ok-fold_bodies.ensures.folded
    c.fold_objective.new.folder.count c.in-Ok-fold_objective.ensures.folded

pub returns-in-Ok-fold_objective-clause-below : goal.returns-in-Ok-fold_objective-clause-below
returns-in-Ok-fold_objective-clause-below g c =
    three_parts c.args.file.now c.args.objective c.args.steps.now c.fold_definitions.new.steps c.fold_bodies.new.steps
    c.fold_objective.new.steps c.in-Ok.ensures.below c.in-Ok-fold_bodies.ensures.below
    c.in-Ok-fold_objective.ensures.below

pub returns-in-Err-fold_objective-clause-below : goal.returns-in-Err-fold_objective-clause-below
returns-in-Err-fold_objective-clause-below g c =
    three_parts c.args.file.now c.args.objective c.args.steps.now c.fold_definitions.new.steps c.fold_bodies.new.steps
    c.fold_objective.new.steps c.in-Ok.ensures.below c.in-Ok-fold_bodies.ensures.below
    c.in-Err-fold_objective.ensures.below

pub returns-in-Ok-fold_objective-clause-forms : goal.returns-in-Ok-fold_objective-clause-forms
returns-in-Ok-fold_objective-clause-forms g c =
    forms_are c.args.file.now c.requires.file c.args.objective c.args.hold c.in-Ok-fold_bodies.bodies c.in-Ok-fold_objective.form c.in-Ok-fold_bodies.ensures.bodies c.in-Ok-fold_objective.ensures.form
    (let few = c.in-Ok-fold_objective.ensures.few in let counted = c.in-Ok-fold_bodies.ensures.counted in omega arith)
