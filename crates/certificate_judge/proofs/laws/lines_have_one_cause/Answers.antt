use Rattle.certificate_judge.proofs.Lines.{one_cause, one_fault, one_leaf_fault}
use Rattle.certificate_judge.proofs.laws.lines_have_one_cause.Goals as goal

pub returns-clause-points : goal.returns-clause-points
returns-clause-points c = one_fault

pub returns-clause-leaves : goal.returns-clause-leaves
returns-clause-leaves c = one_leaf_fault

pub returns-clause-certificates : goal.returns-clause-certificates
returns-clause-certificates c = one_cause
