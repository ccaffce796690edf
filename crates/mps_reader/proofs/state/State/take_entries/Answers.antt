use Rattle.std.proofs.Common.{◌∙◌, ap}
use Rattle.mps_reader.specs.InsideHeld.{Held}
use Rattle.mps_words.specs.declared.keyword.Keyword.TheVariants.{Columns}
use Rattle.mps_reader.proofs.FrontEntries.{less, one_before}
use Rattle.mps_reader.proofs.FrontLines.{pair_may}
use Rattle.mps_reader.proofs.state.State.take_entries.Goals as goal

pub entries-smaller : goal.entries-smaller
entries-smaller c =
    less Columns c.args.self.now c.entries.self _ c.give_pair.new.self c.args.text.now c.entries.rest.now c.in-Some.entry.rest.now c.entries.lines c.entries.invariant.taken c.in-Some.ensures.next

pub entries-preserved : goal.entries-preserved
entries-preserved c =
    record {
      taken = one_before Columns c.args.self.now c.entries.self _ c.give_pair.new.self c.args.text.now
          c.entries.rest.now c.in-Some.entry.rest.now c.entries.lines c.entries.invariant.taken c.in-Some.ensures.next
          c.in-Ok.ensures.ok
          (pair_may Columns c.entries.self c.give_pair.new.self c.in-Some.entry.row c.in-Some.entry.value c.in-Some.ensures.may c.in-Some.ensures.can c.in-Ok.ensures.ok);
      begun = ap (λ (h : Held). h.standing.begun) c.in-Ok.ensures.ok ∙ c.entries.invariant.begun;
      current = ap (λ (h : Held). h.standing.draft.current) c.in-Ok.ensures.ok ∙ c.entries.invariant.current;
    }
