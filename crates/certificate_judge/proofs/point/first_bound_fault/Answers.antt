use Rattle.std.proofs.Common.{◌<◌, subst, Some}
use Rattle.linear_program.specs.Linear.{variable_count}
use Rattle.linear_program.specs.Intervals.{interval_of}
use Rattle.exact_checks.specs.Programs.{program_value}
use Rattle.exact_checks.proofs.Firsts.{first_stops}
use Rattle.certificate_judge.specs.InsidePoints.{point_of}
use Rattle.certificates.specs.Certificate.{fitting_bound_fault}
use Rattle.certificate_judge.specs.Outcomes.{point_fault_of}
use Rattle.certificate_judge.proofs.RowsAt.{bound_fault_is}
use Rattle.certificate_judge.proofs.point.first_bound_fault.Goals as goal

pub returns-in-Some : goal.returns-in-Some
returns-in-Some c =
    let l : c.loop-j.j < variable_count (program_value c.args.program.now) = subst (λ n. c.loop-j.j < n) c.requires c.loop-j-test.true in
    first_stops (fitting_bound_fault (program_value c.args.program.now) (point_of c.args.x.now)) c.loop-j.j
    (variable_count (program_value c.args.program.now)) (point_fault_of c.in-Some.fault) l c.loop-j.invariant
    (bound_fault_is c.args.program.now c.args.x.now c.loop-j.j c.index-x-j.result c.loop-j-test.true c.index-x-j.is
    (interval_of c.bound-bounds.result) (Some (point_fault_of c.in-Some.fault)) c.bound-bounds.ensures
    c.in-Some.ensures)
