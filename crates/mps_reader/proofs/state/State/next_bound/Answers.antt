use Rattle.std.proofs.Common.{sym}
use Rattle.mps_reader.proofs.FrontLines.{bound_can, bound_there, next_is_bound}
use Rattle.mps_reader.proofs.state.State.next_bound.Goals as goal

pub sets_again-requires-clause-within : goal.sets_again-requires-clause-within
sets_again-requires-clause-within c =
    bound_there c.args.self.now c.in-Some.kind c.args.text.now c.in-Some.behind.now c.in-Some-after_set.rest.now
    c.in-Some-column_bound.bound.rest.now c.in-Some-column_bound.bound.column c.in-Some-column_bound.bound.value
    c.requires.sound.kept c.in-Some-column_bound.ensures

pub returns-clause-next : goal.returns-clause-next
returns-clause-next c =
    next_is_bound c.args.self.now c.in-Some.kind c.args.text.now c.in-Some.behind.now c.in-Some-after_set.rest.now
    c.in-Some-column_bound.bound.rest.now c.in-Some-column_bound.bound.column c.in-Some-column_bound.bound.value
    c.requires.sound.kept c.in-Some-column_bound.ensures c.in-Some.ensures c.in-Some-after_set.ensures
    (sym c.if-sets_again.ensures) c.requires.current

pub returns-clause-can : goal.returns-clause-can
returns-clause-can c =
    bound_can c.args.self.now c.in-Some.kind c.args.text.now c.in-Some.behind.now c.in-Some-after_set.rest.now
    c.in-Some-column_bound.bound.rest.now c.in-Some-column_bound.bound.column c.in-Some-column_bound.bound.value
    c.requires.sound.kept c.in-Some-column_bound.ensures c.in-Some.ensures c.in-Some-after_set.ensures
    (sym c.if-sets_again.ensures)
