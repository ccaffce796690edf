use Rattle.problems.proofs.FileClaims.{file_bounds, file_constraints, file_infeasible, file_relaxed, file_unbounded}
use Rattle.problems.proofs.nl_laws.claims_are_contrary.Goals as goal

pub returns-clause-bounds : goal.returns-clause-bounds
returns-clause-bounds c = file_bounds

pub returns-clause-infeasible : goal.returns-clause-infeasible
returns-clause-infeasible c = file_infeasible

pub returns-clause-relaxed : goal.returns-clause-relaxed
returns-clause-relaxed c = file_relaxed

pub returns-clause-unbounded : goal.returns-clause-unbounded
returns-clause-unbounded c = file_unbounded

pub returns-clause-constraints : goal.returns-clause-constraints
returns-clause-constraints c = file_constraints
