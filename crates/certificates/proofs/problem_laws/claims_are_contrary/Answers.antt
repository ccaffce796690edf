use Rattle.certificates.proofs.Claims.{same_bounds, same_constraints, same_infeasible, same_relaxed_infeasible, same_unbounded}
use Rattle.certificates.proofs.problem_laws.claims_are_contrary.Goals as goal

pub returns-clause-bounds : goal.returns-clause-bounds
returns-clause-bounds c = same_bounds

pub returns-clause-infeasible : goal.returns-clause-infeasible
returns-clause-infeasible c = same_infeasible

pub returns-clause-relaxed : goal.returns-clause-relaxed
returns-clause-relaxed c = same_relaxed_infeasible

pub returns-clause-unbounded : goal.returns-clause-unbounded
returns-clause-unbounded c = same_unbounded

pub returns-clause-constraints : goal.returns-clause-constraints
returns-clause-constraints c = same_constraints
