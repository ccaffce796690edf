use Rattle.std.proofs.Common.{◌≡◌, ◌<◌, ◌++◌, ℕ, List, [], drop, get_or, length, map}
use Rattle.std.specs.List.{filter_map}
use Rattle.linear_program.specs.Decimals.{DecimalTerm}
use Rattle.mps_model.specs.Built.{entry_of}
use Rattle.mps_program.specs.Terms.{term_of}
use Rattle.mps_program.proofs.terms.send_entries.Given as goal

abbrev pub invariant-entries : goal.invariant-entries
invariant-entries l = record {
  count : length l.terms ≡ length l.initial.terms;
  left : (i : ℕ) (after : List DecimalTerm) → i < length l.initial.terms
      → get_or l.terms i [] ++ (filter_map (term_of i l.column) (map entry_of (drop l.entry-index l.entries)) ++ after)
      ≡ get_or l.initial.terms i [] ++ (filter_map (term_of i l.column) (map entry_of l.entries) ++ after);
}
