use Rattle.std.proofs.Common.{◌≡◌, ◌+◌, ◌≤◌, map, drop}
use Rattle.mps_model.specs.Built.{entry_of}
use Rattle.nl_model.specs.Rules.{most_terms}
use Rattle.mps_import.specs.InsideUses.{hits, is_constraint_at, is_objective_at}
use Rattle.mps_import.proofs.terms.with_entries.Given as goal

abbrev pub invariant-entries : goal.invariant-entries
invariant-entries l = record {
  constraints : l.count.constraints + hits (is_constraint_at l.uses) (map entry_of (drop l.entry-index l.entries)) ≡ l.fn.counted.constraints + hits (is_constraint_at l.uses) (map entry_of l.entries);
  objective : l.count.objective + hits (is_objective_at l.uses) (map entry_of (drop l.entry-index l.entries)) ≡ l.fn.counted.objective + hits (is_objective_at l.uses) (map entry_of l.entries);
  few : l.count.constraints + l.count.objective ≤ most_terms;
}
