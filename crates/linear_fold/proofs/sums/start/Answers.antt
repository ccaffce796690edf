use Rattle.linear_fold.proofs.sums.start.Goals as goal

pub returns-in-None-clause-sound : goal.returns-in-None-clause-sound
returns-in-None-clause-sound g c = c.as_form.ensures.sound c.args.variables c.requires.part.sound
