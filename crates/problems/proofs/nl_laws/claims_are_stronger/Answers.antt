use Rattle.problems.proofs.FileClaims.{always_better, no_better, no_feasible, no_relaxed, not_inside}
use Rattle.problems.proofs.nl_laws.claims_are_stronger.Goals as goal

pub returns-clause-bounds : goal.returns-clause-bounds
returns-clause-bounds c = no_better

pub returns-clause-infeasible : goal.returns-clause-infeasible
returns-clause-infeasible c = no_feasible

pub returns-clause-relaxed : goal.returns-clause-relaxed
returns-clause-relaxed c = no_relaxed

pub returns-clause-unbounded : goal.returns-clause-unbounded
returns-clause-unbounded c = always_better

pub returns-clause-constraints : goal.returns-clause-constraints
returns-clause-constraints c = not_inside
