use Rattle.std.proofs.Common.{◌<◌, subst, true, false}
use Rattle.linear_program.specs.Linear.{variable_count}
use Rattle.exact_checks.specs.Programs.{program_value}
use Rattle.exact_checks.proofs.Firsts.{first_goes_on, first_stops}
use Rattle.certificate_judge.specs.InsidePoints.{point_of}
use Rattle.certificates.specs.Certificate.{whole_fault, wholeness}
use Rattle.certificate_judge.proofs.RowsAt.{wholeness_is}
use Rattle.certificate_judge.proofs.point.first_not_whole.Goals as goal

pub returns-then-lacks_wholeness : goal.returns-then-lacks_wholeness
unfolding whole_fault
returns-then-lacks_wholeness c =
    let l : c.loop-j.j < variable_count (program_value c.args.program.now) = subst (λ n. c.loop-j.j < n) c.requires c.loop-j-test.true in
    first_stops (wholeness (program_value c.args.program.now) (point_of c.args.x.now)) c.loop-j.j (variable_count (program_value c.args.program.now)) c.loop-j.j l c.loop-j.invariant
    (wholeness_is c.args.program.now c.args.x.now c.loop-j.j c.index-x-j.result c.loop-j-test.true c.index-x-j.is c.is_whole.result true c.is_whole.ensures c.if-lacks_wholeness.ensures)

pub loop-j-preserved : goal.loop-j-preserved
loop-j-preserved c =
    first_goes_on (wholeness (program_value c.args.program.now) (point_of c.args.x.now)) c.loop-j.j c.loop-j.invariant
    (wholeness_is c.args.program.now c.args.x.now c.loop-j.j c.index-x-j.result c.loop-j-test.true c.index-x-j.is c.is_whole.result false c.is_whole.ensures c.if-lacks_wholeness.ensures)
