use Rattle.std.proofs.Common.{◌∙◌, ap}
use Rattle.mps_reader.specs.InsideHeld.{Held}
use Rattle.mps_words.specs.declared.keyword.Keyword.TheVariants.{Rows}
use Rattle.mps_words.specs.Sections.{last_of}
use Rattle.mps_reader.proofs.FrontEntries.{less, one_before}
use Rattle.mps_reader.proofs.FrontAdded.{row_added}
use Rattle.mps_reader.proofs.state.State.take_rows_front.Goals as goal

pub rows-smaller : goal.rows-smaller
rows-smaller c =
    less Rows c.args.self.now c.rows.self _ c.add_row.new.self c.args.text.now c.rows.rest.now c.in-Some.row.rest.now c.rows.lines c.rows.invariant.taken c.in-Some.ensures.next

pub rows-preserved : goal.rows-preserved
rows-preserved c =
    record {
      taken = one_before Rows c.args.self.now c.rows.self _ c.add_row.new.self c.args.text.now c.rows.rest.now
          c.in-Some.row.rest.now c.rows.lines c.rows.invariant.taken c.in-Some.ensures.next c.in-Ok.ensures.ok
          (row_added c.rows.self c.add_row.new.self c.in-Some.row.name.now c.in-Some.row.kind
          c.rows.invariant.taken.sound.kept (ap last_of c.rows.invariant.begun ∙ c.requires.current)
          c.in-Some.ensures.can c.in-Ok.ensures.ok);
      begun = ap (λ (h : Held). h.standing.begun) c.in-Ok.ensures.ok ∙ c.rows.invariant.begun;
    }
