use Rattle.std.proofs.Common.{◌≡◌, None}
use Rattle.certificates.specs.Ray.{ray_bound_fault}
use Rattle.certificates.specs.Verdict.{first_fault}
use Rattle.exact_checks.specs.Programs.{program_value}
use Rattle.certificate_judge.specs.InsidePoints.{point_of}
use Rattle.certificate_judge.proofs.ray.first_bound_fault.Given as goal

abbrev pub invariant-loop-j : goal.invariant-loop-j
invariant-loop-j l = first_fault (ray_bound_fault (program_value l.program) (point_of l.d)) l.j ≡ None
