use Rattle.std.proofs.Common.{◌≡◌, None}
use Rattle.certificates.specs.Ray.{ray_row_fault}
use Rattle.certificates.specs.Verdict.{first_fault}
use Rattle.exact_checks.specs.Programs.{program_value}
use Rattle.certificate_judge.specs.InsidePoints.{point_of}
use Rattle.certificate_judge.proofs.ray.first_row_fault.Given as goal

abbrev pub invariant-loop-i : goal.invariant-loop-i
invariant-loop-i l = first_fault (ray_row_fault (program_value l.program) (point_of l.d)) l.i ≡ None
