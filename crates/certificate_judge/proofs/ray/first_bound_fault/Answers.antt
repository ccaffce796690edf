use Rattle.std.proofs.Common.{◌<◌, subst, true, false}
use Rattle.linear_program.specs.Linear.{variable_count}
use Rattle.linear_program.specs.Intervals.{interval_of}
use Rattle.exact_checks.specs.Programs.{program_value}
use Rattle.exact_checks.proofs.Firsts.{first_goes_on, first_stops}
use Rattle.certificate_judge.specs.InsidePoints.{point_of}
use Rattle.certificates.specs.Ray.{ray_bound_broken, ray_bound_fault}
use Rattle.certificate_judge.proofs.RowsAt.{ray_bound_fault_is}
use Rattle.certificate_judge.proofs.ray.first_bound_fault.Goals as goal

pub returns-then-not-keeps_within : goal.returns-then-not-keeps_within
returns-then-not-keeps_within c =
    let l : c.loop-j.j < variable_count (program_value c.args.program.now) = subst (λ n. c.loop-j.j < n) c.requires c.loop-j-test.true in
    first_stops (ray_bound_fault (program_value c.args.program.now) (point_of c.args.d.now)) c.loop-j.j
    (variable_count (program_value c.args.program.now)) (ray_bound_broken c.loop-j.j) l c.loop-j.invariant
    (ray_bound_fault_is c.args.program.now c.args.d.now c.loop-j.j c.index-d-j.result c.loop-j-test.true c.index-d-j.is
    (interval_of c.bound.result) false c.bound.ensures c.if-not-keeps_within.ensures)

pub loop-j-preserved : goal.loop-j-preserved
loop-j-preserved c =
    first_goes_on (ray_bound_fault (program_value c.args.program.now) (point_of c.args.d.now)) c.loop-j.j c.loop-j.invariant
    (ray_bound_fault_is c.args.program.now c.args.d.now c.loop-j.j c.index-d-j.result c.loop-j-test.true c.index-d-j.is (interval_of c.bound.result) true c.bound.ensures c.if-not-keeps_within.ensures)
