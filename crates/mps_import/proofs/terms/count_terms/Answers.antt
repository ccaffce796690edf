use Rattle.std.proofs.Common.{◌<◌, sym, ap, subst, arith, List, length, All}
use Rattle.mps_model.specs.Mps.{Entry, Column}
use Rattle.mps_model.specs.Valid.{AreEntries}
use Rattle.exact_numbers.specs.declared.dec.Dec.{Dec}
use Rattle.mps_program.proofs.LoopLemmas.{fact_is}
use Rattle.mps_import.proofs.terms.count_terms.Goals as goal

pub with_entries-requires-clause-within : goal.with_entries-requires-clause-within
with_entries-requires-clause-within c =
    let all = subst (λ (cs : List (Column Dec)). All (λ (x : Column Dec). AreEntries (length c.args.mps.now.rows)
    x.entries) cs) (sym c.columns-columns.ensures.value) c.columns-columns.ensures.valid.part.columns.entries in
    let own = (fact_is c.columns-columns.result.now _ c.index-columns-j.result
    (omega (arith, ap length c.columns-columns.ensures.value, c.requires.order c.columns.j-index 0 (omega arith)))
    c.index-columns-j.is (λ (x : Column Dec). AreEntries (length c.args.mps.now.rows) x.entries) all).within in
    subst (λ (es : List (Entry Dec)). All (λ (e : Entry Dec). e.row < length c.args.uses.now) es)
    (sym c.entries.ensures) (subst (λ n. All (λ (e : Entry Dec). e.row < n) c.index-columns-j.result.entries)
    (sym c.requires.uses) own)
