use Rattle.std.proofs.Common.{◌<◌, ◌∙◌, ap, arith, length, sym, subst, All, map}
use Rattle.mps_model.specs.Built.{entry_of}
use Rattle.mps_model.specs.Mps.{Entry}
use Rattle.exact_numbers.specs.declared.dec.Dec.{Dec}
use Rattle.mps_program.proofs.TermLemmas.{AreEntriesOf, entries_read, way_begun, way_further, way_ended}
use Rattle.mps_program.proofs.terms.terms_by_row.Goals as goal
use Rattle.mps_program.proofs.terms.terms_by_row.Goals.{After-entries}

pub columns-init : goal.columns-init
columns-init c = way_begun c.args.mps.now c.in_ok-terms.terms (c.in_ok-terms.ensures.count ∙ ap length c.rows.ensures.value) c.in_ok-terms.ensures.empty

-- the entries that are read are those of the column
read : (c : After-entries) → AreEntriesOf c.args.mps.now c.columns.j c.entries.result.now
read c = entries_read c.args.mps.now c.columns.j c.columns-columns.result.now c.index-columns-j.result
    c.entries.result.now (omega arith) c.columns-columns.ensures.value c.index-columns-j.is
    c.columns-columns.ensures.valid.part.columns.entries c.entries.ensures

pub send_entries-requires : goal.send_entries-requires
send_entries-requires c = subst (λ n. All (λ (e : Entry Dec). e.row < n) (map entry_of c.entries.result.now))
    (sym c.columns.invariant.count) (read (goal.at.send_entries-requires c).After-entries).within

pub columns-preserved : goal.columns-preserved
columns-preserved c = way_further c.args.mps.now c.columns.j c.entries.result.now c.columns.terms
    c.send_entries.new.terms (read (goal.at.columns-preserved c).After-entries) c.columns.invariant
    c.in_ok-send_entries.ensures.count c.in_ok-send_entries.ensures.terms

pub returns : goal.returns
returns c = way_ended c.args.mps.now c.columns.j c.columns.terms (omega (arith, ap length c.columns-columns.ensures.value)) c.columns.invariant
