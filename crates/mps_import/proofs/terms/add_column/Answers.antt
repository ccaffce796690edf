use Rattle.std.proofs.Common.{ℕ, suc, ◌+◌, ◌<◌, sym, ap, subst, refl, arith, List, map, drop, length, get_or}
use Rattle.std.proofs.lemmas.List.{get_or_default}
use Rattle.exact_numbers.specs.declared.dec.Dec.{Dec}
use Rattle.mps_model.specs.Built.{entry_of}
use Rattle.mps_model.specs.Mps.{Entry}
use Rattle.nl_model.specs.Draft.{Draft}
use Rattle.nl_model.specs.declared.header_counts.Counts.{Counts}
use Rattle.mps_import.specs.Import.{import_counts}
use Rattle.mps_program.specs.Terms.{is_zero_dec}
use Rattle.mps_import.specs.InsideUses.{IsOnItsWay, entries_left}
use Rattle.mps_import.proofs.EntryLemmas.{AreEntriesAt, column_inside, entries_read, next_entry}
use Rattle.mps_import.proofs.MeaningLemmas.{order_length}
use Rattle.mps_program.proofs.LoopLemmas.{drop_all}
use Rattle.mps_program.proofs.PartLemmas.{entry_within}
use Rattle.mps_import.proofs.PartLemmas.{only_terms, still_only}
use Rattle.mps_import.proofs.TermLemmas.{column_begun, column_ended, entry_passed, there_is_room, use_count}
use Rattle.mps_import.proofs.terms.add_column.Goals as goal
use Rattle.mps_import.proofs.terms.add_column.Goals.{After-entries-entries}

-- the entries that are read are those of the column
read : (c : After-entries-entries) → AreEntriesAt c.args.mps.now (get_or c.args.order.now c.args.p 0) c.entries-entries.result.now
read c =
    let inside = column_inside c.args.mps.now c.args.order.now c.args.p c.requires.order c.requires.place in
    entries_read c.args.mps.now (get_or c.args.order.now c.args.p 0) c.columns-columns.result.now
    c.index-columns-j.result c.entries-entries.result.now inside c.columns-columns.ensures.value c.index-columns-j.is
    c.columns-columns.ensures.valid.part.columns.entries c.entries-entries.ensures

pub bounds-columns-j : goal.bounds-columns-j
bounds-columns-j c =
    let inside = column_inside c.args.mps.now c.args.order.now c.args.p c.requires.order c.requires.place in
    omega (arith, inside, ap length c.columns-columns.ensures.value)

pub entries-init : goal.entries-init
entries-init c =
    let m = c.args.mps.now in
    let js = c.args.order.now in
    let p = c.args.p in
    let j = get_or js p 0 in
    record {
      way = subst (λ (xs : List (Entry Dec)). IsOnItsWay m (entries_left m p xs (drop (suc p) js)) c.args.builder.now)
          (sym (read (goal.at.entries-init c).After-entries-entries).same)
          (column_begun m p j js c.args.builder.now c.requires.place (get_or_default js p 0 j c.requires.place)
          c.requires.before);
      only = refl;
    }

pub overflow_cast-p : goal.overflow_cast-p
overflow_cast-p c =
    let m = c.args.mps.now in
    omega (arith, c.requires.place, ap length c.requires.order, order_length m, c.columns-columns.ensures.valid.part.columns.few)

pub use_at-what-requires : goal.use_at-what-requires
use_at-what-requires c =
    let m = c.args.mps.now in
    let es = c.entries-entries.result.now in
    omega (
      arith,
      entry_within es c.entries.entry-index c.entry-item.result (omega arith) c.entry-item.is
          (length m.rows) (read (goal.at.use_at-what-requires c).After-entries-entries).within,
      use_count m c.args.uses.now c.requires.uses,
    )

pub add_entry-requires-clause-variable : goal.add_entry-requires-clause-variable
unfolding import_counts
add_entry-requires-clause-variable c =
    let m = c.args.mps.now in
    subst (λ (x : Counts). c.args.p < x.n_var) (sym c.entries.invariant.way.counts) (omega (arith, c.requires.place, ap length c.requires.order, order_length m))

pub add_entry-requires-clause-can : goal.add_entry-requires-clause-can
add_entry-requires-clause-can c =
    let m = c.args.mps.now in
    let js = c.args.order.now in
    let p = c.args.p in
    let j = get_or js p 0 in
    let es = c.entries-entries.result.now in
    let t = c.entry-item.result in
    let next = next_entry m j p (drop (suc p) js) es c.entries.entry-index t c.args.uses.now c.use_at-what.result
    c.entries.builder (read (goal.at.add_entry-requires-clause-can c).After-entries-entries) (omega arith)
    c.entry-item.is c.requires.uses c.use_at-what.ensures c.entries.invariant.way in
    λ z. there_is_room m c.requires.clean p (entry_of t) (map entry_of (drop (c.entries.entry-index + 1) es))
    (drop (suc p) js) c.entries.builder next.way z next.within c.use_at-what.result next.use_is

pub entries-preserved : goal.entries-preserved
entries-preserved c =
    let m = c.args.mps.now in
    let js = c.args.order.now in
    let p = c.args.p in
    let j = get_or js p 0 in
    let es = c.entries-entries.result.now in
    let t = c.entry-item.result in
    let rest = map entry_of (drop (c.entries.entry-index + 1) es) in
    let next = next_entry m j p (drop (suc p) js) es c.entries.entry-index t c.args.uses.now c.use_at-what.result
    c.entries.builder (read (goal.at.entries-preserved c).After-entries-entries) (omega arith) c.entry-item.is
    c.requires.uses c.use_at-what.ensures c.entries.invariant.way in
    record {
      way = subst (λ (d : Draft). IsOnItsWay m (entries_left m p rest (drop (suc p) js)) d)
          (sym c.in_ok-add_entry.ensures) (entry_passed m p (entry_of t) rest (drop (suc p) js) c.entries.builder next.way
          c.use_at-what.result next.use_is next.within);
      only = still_only c.args.builder.now c.entries.builder c.add_entry.new.builder c.entries.invariant.only
          (only_terms (is_zero_dec t.1) c.use_at-what.result p t.1 c.entries.builder c.add_entry.new.builder
          c.in_ok-add_entry.ensures);
    }

pub returns-clause-after : goal.returns-clause-after
returns-clause-after c =
    let m = c.args.mps.now in
    let js = c.args.order.now in
    let p = c.args.p in
    column_ended m p js c.entries.builder (subst (λ (ts : List (ℕ × Dec)). IsOnItsWay m
    (entries_left m p (map entry_of ts) (drop (suc p) js)) c.entries.builder)
    (drop_all c.entries-entries.result.now c.entries.entry-index (omega arith)) c.entries.invariant.way)
