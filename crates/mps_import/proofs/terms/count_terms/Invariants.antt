use Rattle.std.proofs.Common.{◌≡◌, ◌+◌, ◌≤◌, drop}
use Rattle.nl_model.specs.Rules.{most_terms}
use Rattle.mps_import.specs.InsideUses.{hits_in, is_constraint_at, is_objective_at}
use Rattle.mps_import.proofs.terms.count_terms.Given as goal

abbrev pub invariant-columns : goal.invariant-columns
invariant-columns l = record {
  constraints : l.count.constraints + hits_in (is_constraint_at l.uses) l.mps (drop l.j-index l.order) ≡ hits_in (is_constraint_at l.uses) l.mps l.order;
  objective : l.count.objective + hits_in (is_objective_at l.uses) l.mps (drop l.j-index l.order) ≡ hits_in (is_objective_at l.uses) l.mps l.order;
  few : l.count.constraints + l.count.objective ≤ most_terms;
}
