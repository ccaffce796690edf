use Rattle.std.proofs.Common.{◌∙◌, arith, refl, rules}
use Rattle.text_base.proofs.FrontLemmas.{front_few}
use Rattle.mps_reader.proofs.FrontLines.{goes_on, none_taken}
use Rattle.mps_reader.proofs.state.State.take_columns_front.Goals as goal

pub columns-init : goal.columns-init
columns-init c = record { within = omega arith; few = omega arith; takes = none_taken c.args.self.now c.args.self.now c.args.text.now refl; sound = c.requires.sound; begun = refl }

pub overflow_add-front-in-columns : goal.overflow_add-front-in-columns
overflow_add-front-in-columns c =
    let line = c.take_column_lines-next.ensures.lines in
    let more = front_few c.split_at.result.1.now c.take_column_lines-next.result.front line.lines line.is in
    record { fits = omega (arith, c.requires.few, c.columns.invariant.few, c.columns.invariant.within, more, line.is.within, c.split_at.ensures.back_len) }

pub returns-then-next-clause-lines : goal.returns-then-next-clause-lines
returns-then-next-clause-lines c =
    goes_on c.args.self.now c.columns.self c.take_column_lines-next.new.self c.args.text.now c.split_at.result.1.now
    c.columns.front c.take_column_lines-next.result.front c.columns.invariant.takes c.split_at.ensures.back
    c.take_column_lines-next.ensures.lines

pub columns-preserved : goal.columns-preserved
columns-preserved c =
    let line = c.take_column_lines-next.ensures.lines in
    let more = front_few c.split_at.result.1.now c.take_column_lines-next.result.front line.lines line.is in
    record {
      within = omega (arith, c.columns.invariant.within, line.is.within, c.split_at.ensures.back_len);
      few = omega (arith, c.columns.invariant.few, more);
      takes = goes_on c.args.self.now c.columns.self c.take_column_lines-next.new.self c.args.text.now
          c.split_at.result.1.now c.columns.front c.take_column_lines-next.result.front c.columns.invariant.takes
          c.split_at.ensures.back line;
      sound = c.take_column_lines-next.ensures.sound (search rules);
      begun = c.take_column_lines-next.ensures.same ∙ c.columns.invariant.begun;
    }
