use Rattle.certificate_judge.proofs.Beginnings.{AreLowerSoFar, AreUpperSoFar}
use Rattle.exact_checks.specs.Programs.{program_value}
use Rattle.certificate_judge.proofs.path.Path.new.Given as goal

abbrev pub invariant-loop-var : goal.invariant-loop-var
invariant-loop-var l = record {
  lower : AreLowerSoFar (program_value l.program) l.lo.items l.var;
  upper : AreUpperSoFar (program_value l.program) l.hi.items l.var;
}
