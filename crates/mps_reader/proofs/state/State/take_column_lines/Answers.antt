use Rattle.std.proofs.Common.{arith}
use Rattle.text_base.proofs.FrontLemmas.{front_few}
use Rattle.mps_reader.proofs.FrontLines.{goes_on}
use Rattle.mps_reader.proofs.state.State.take_column_lines.Goals as goal

pub returns-clause-lines : goal.returns-clause-lines
returns-clause-lines c =
    goes_on c.args.self.now c.take_entries-front.new.self c.take_entry_front-next.new.self c.args.text.now
    c.split_at.result.1.now c.take_entries-front.result c.take_entry_front-next.result.front
    c.take_entries-front.ensures.lines c.split_at.ensures.back c.take_entry_front-next.ensures.lines

pub overflow_add-result-2 : goal.overflow_add-result-2
overflow_add-result-2 c =
    let first = c.take_entries-front.ensures.lines in
    let next = c.take_entry_front-next.ensures.lines in
    let some = front_few c.args.text.now c.take_entries-front.result first.lines first.is in
    let more = front_few c.split_at.result.1.now c.take_entry_front-next.result.front next.lines next.is in
    record { fits = omega (arith, c.requires.few, first.is.within, next.is.within, some, more, c.split_at.ensures.back_len) }
