use Rattle.mps_reader.proofs.FrontAdded.{column_added, column_can, entries_can, entry_within, next_is_column}
use Rattle.mps_reader.proofs.state.State.next_column.Goals as goal

pub returns-clause-next : goal.returns-clause-next
returns-clause-next c =
    next_is_column c.args.self.now c.in-Some.name.now c.in-Some.behind.now c.in-Some-row_pair.pair.rest.now
    c.in-Some-row_pair.pair.row c.in-Some-row_pair.pair.value c.requires.sound.kept c.requires.current
    (c.may_begin.ensures c.if-not-may_begin.false) c.in-Some-row_pair.ensures c.args.text.now c.in-Some.ensures.name
    c.in-Some.ensures.parts

pub returns-clause-can : goal.returns-clause-can
returns-clause-can c =
    column_can c.args.self.now c.in-Some.name.now c.in-Some.behind.now c.in-Some-row_pair.pair.rest.now
    c.in-Some-row_pair.pair.row c.in-Some-row_pair.pair.value c.requires.sound.kept c.requires.current
    (c.may_begin.ensures c.if-not-may_begin.false) c.in-Some-row_pair.ensures

pub returns-clause-entries : goal.returns-clause-entries
returns-clause-entries c =
    entries_can c.args.self.now c.in-Some.name.now c.in-Some.behind.now c.in-Some-row_pair.pair.rest.now
    c.in-Some-row_pair.pair.row c.in-Some-row_pair.pair.value c.requires.sound.kept c.requires.current
    (c.may_begin.ensures c.if-not-may_begin.false) c.in-Some-row_pair.ensures

pub returns-clause-within : goal.returns-clause-within
returns-clause-within c =
    entry_within c.args.self.now c.in-Some.name.now c.in-Some.behind.now c.in-Some-row_pair.pair.rest.now
    c.in-Some-row_pair.pair.row c.in-Some-row_pair.pair.value c.requires.sound.kept c.requires.current
    (c.may_begin.ensures c.if-not-may_begin.false) c.in-Some-row_pair.ensures

pub returns-clause-kept : goal.returns-clause-kept
returns-clause-kept c =
    column_added c.args.self.now c.in-Some.name.now c.in-Some.behind.now c.in-Some-row_pair.pair.rest.now
    c.in-Some-row_pair.pair.row c.in-Some-row_pair.pair.value c.requires.sound.kept c.requires.current
    (c.may_begin.ensures c.if-not-may_begin.false) c.in-Some-row_pair.ensures
