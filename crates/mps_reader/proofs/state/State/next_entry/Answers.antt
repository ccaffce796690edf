use Rattle.std.proofs.Common.{ap, refl}
use Rattle.mps_reader.specs.InsideHeld.{Held, MayPair}
use Rattle.mps_reader.specs.InsideLines.{IsAfterHead}
use Rattle.mps_words.specs.declared.keyword.Keyword.TheVariants.{Columns}
use Rattle.mps_reader.proofs.FrontEntries.{pair_there}
use Rattle.mps_reader.proofs.FrontLines.{next_is_pair, of_column, pair_can}
use Rattle.mps_reader.proofs.SideLemmas.{column_may}
use Rattle.mps_reader.proofs.state.State.next_entry.Goals as goal
use Rattle.mps_reader.proofs.state.State.next_entry.Goals.{In-Some-short_pair}

head : (c : In-Some-short_pair) → IsAfterHead Columns c.args.self.now c.in-Some.line.now c.in-Some-after_last_word.rest.now
head c =
    of_column c.args.self.now c.self.inside.columns c.in-Some.line.now _ c.in-Some-after_last_word.rest.now c.requires.kept (ap (λ (h : Held). h.columns) c.self.view_is) c.requires.current
    c.in-Some-after_last_word.ensures.parts refl c.in-Some-after_last_word.ensures.name

may : (c : In-Some-short_pair) → MayPair Columns c.args.self.now
may c = column_may c.args.self.now c.args.self.now (head c).name c.requires.kept c.requires.begun (head c).is_name.some (head c).head refl

pub may_take_row-requires-clause-may : goal.may_take_row-requires-clause-may
may_take_row-requires-clause-may c = may (goal.at.may_take_row-requires-clause-may c).In-Some-short_pair

pub may_take_row-requires-clause-within : goal.may_take_row-requires-clause-within
may_take_row-requires-clause-within c = pair_there c.args.self.now c.in-Some-after_last_word.rest.now
    c.in-Some-short_pair.pair.rest.now c.in-Some-short_pair.pair.row c.in-Some-short_pair.pair.value c.requires.kept
    c.in-Some-short_pair.ensures

pub returns-clause-may : goal.returns-clause-may
returns-clause-may c = may (goal.at.returns-clause-may c).In-Some-short_pair

pub returns-clause-can : goal.returns-clause-can
returns-clause-can c =
    pair_can Columns c.args.self.now c.in-Some-after_last_word.rest.now c.in-Some-short_pair.pair.rest.now
    c.in-Some-short_pair.pair.row c.in-Some-short_pair.pair.value
    (may (goal.at.returns-clause-can c).In-Some-short_pair) c.in-Some-short_pair.ensures
    (c.may_take_row.ensures c.if-not-may_take_row.false)

pub returns-clause-next : goal.returns-clause-next
returns-clause-next c =
    let d = (goal.at.returns-clause-next c).In-Some-short_pair in
    next_is_pair Columns c.args.self.now c.args.text.now c.in-Some.line.now c.in-Some-after_last_word.rest.now
    c.in-Some-short_pair.pair.rest.now c.in-Some-short_pair.pair.row c.in-Some-short_pair.pair.value
    (may d) c.in-Some.ensures (head d) c.in-Some-short_pair.ensures (c.may_take_row.ensures c.if-not-may_take_row.false)
