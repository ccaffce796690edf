use Rattle.certificates.proofs.Claims.{each_beaten, none_at_all, none_feasible, none_relaxed, unmet_of}
use Rattle.certificates.proofs.problem_laws.claims_are_stronger.Goals as goal

pub returns-clause-bounds : goal.returns-clause-bounds
returns-clause-bounds c = none_at_all

pub returns-clause-infeasible : goal.returns-clause-infeasible
returns-clause-infeasible c = none_feasible

pub returns-clause-relaxed : goal.returns-clause-relaxed
returns-clause-relaxed c = none_relaxed

pub returns-clause-unbounded : goal.returns-clause-unbounded
returns-clause-unbounded c = each_beaten

pub returns-clause-constraints : goal.returns-clause-constraints
returns-clause-constraints c = unmet_of
