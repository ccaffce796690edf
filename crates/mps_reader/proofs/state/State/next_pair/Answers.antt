use Rattle.mps_reader.proofs.FrontEntries.{pair_there}
use Rattle.mps_reader.proofs.FrontLines.{may_next, next_is_pair, pair_can}
use Rattle.mps_reader.proofs.state.State.next_pair.Goals as goal

pub may_take_row-requires-clause-may : goal.may_take_row-requires-clause-may
may_take_row-requires-clause-may c = may_next c.args.keyword c.args.self.now c.in-Some.line.now
    c.in-Some-after_head.rest.now c.requires.sound c.requires.current c.requires.pairs c.in-Some-after_head.ensures

pub may_take_row-requires-clause-within : goal.may_take_row-requires-clause-within
may_take_row-requires-clause-within c = pair_there c.args.self.now c.in-Some-after_head.rest.now
    c.in-Some-row_pair.pair.rest.now c.in-Some-row_pair.pair.row c.in-Some-row_pair.pair.value c.requires.sound.kept
    c.in-Some-row_pair.ensures

pub returns-clause-may : goal.returns-clause-may
returns-clause-may c = may_next c.args.keyword c.args.self.now c.in-Some.line.now c.in-Some-after_head.rest.now c.requires.sound c.requires.current c.requires.pairs c.in-Some-after_head.ensures

pub returns-clause-can : goal.returns-clause-can
returns-clause-can c =
    pair_can c.args.keyword c.args.self.now c.in-Some-after_head.rest.now c.in-Some-row_pair.pair.rest.now
    c.in-Some-row_pair.pair.row c.in-Some-row_pair.pair.value
    (may_next c.args.keyword c.args.self.now c.in-Some.line.now c.in-Some-after_head.rest.now c.requires.sound
    c.requires.current c.requires.pairs c.in-Some-after_head.ensures) c.in-Some-row_pair.ensures
    (c.may_take_row.ensures c.if-not-may_take_row.false)

pub returns-clause-next : goal.returns-clause-next
returns-clause-next c =
    next_is_pair c.args.keyword c.args.self.now c.args.text.now c.in-Some.line.now c.in-Some-after_head.rest.now
    c.in-Some-row_pair.pair.rest.now c.in-Some-row_pair.pair.row c.in-Some-row_pair.pair.value
    (may_next c.args.keyword c.args.self.now c.in-Some.line.now c.in-Some-after_head.rest.now c.requires.sound
    c.requires.current c.requires.pairs c.in-Some-after_head.ensures) c.in-Some.ensures c.in-Some-after_head.ensures
    c.in-Some-row_pair.ensures (c.may_take_row.ensures c.if-not-may_take_row.false)
