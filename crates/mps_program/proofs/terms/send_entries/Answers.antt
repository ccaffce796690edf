use Rattle.std.proofs.Common.{◌∙◌, ◌++◌, ◌+◌, [], sym, ap, arith, drop, get_or, map}
use Rattle.std.specs.List.{filter_map}
use Rattle.mps_model.specs.Built.{entry_of}
use Rattle.mps_program.specs.Terms.{term_of}
use Rattle.mps_program.proofs.LoopLemmas.{drop_is, drop_all}
use Rattle.mps_program.proofs.PartLemmas.{entry_within}
use Rattle.mps_program.proofs.terms.send_entries.Goals as goal

pub send_entry-requires : goal.send_entry-requires
send_entry-requires c = omega (arith, entry_within c.args.entries.now c.entries.entry-index c.entry-item.result (omega arith) c.entry-item.is _ c.requires, c.entries.invariant.count)

pub entries-preserved : goal.entries-preserved
entries-preserved c =
    let es = c.args.entries.now in
    let k = c.entries.entry-index in
    record {
      count = c.in_ok-send_entry.ensures.count ∙ c.entries.invariant.count;
      left = λ i after lt.
          c.in_ok-send_entry.ensures.terms i (map entry_of (drop (k + 1) es)) after (omega (arith, lt, c.entries.invariant.count))
          ∙ ap (λ ts. get_or c.entries.terms i [] ++ (filter_map (term_of i c.args.column) (map entry_of ts) ++ after)) (sym (drop_is es k c.entry-item.result (omega arith) c.entry-item.is))
          ∙ c.entries.invariant.left i after lt;
    }

pub returns-clause-terms : goal.returns-clause-terms
returns-clause-terms c = λ i after lt.
    ap (λ ts. get_or c.entries.terms i [] ++ (filter_map (term_of i c.args.column) (map entry_of ts) ++ after)) (sym (drop_all c.args.entries.now c.entries.entry-index (omega arith)))
    ∙ c.entries.invariant.left i after lt
