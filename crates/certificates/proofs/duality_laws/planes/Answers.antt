use Rattle.certificates.proofs.Parts.{added_at, row_before, rows_added}
use Rattle.certificates.proofs.duality_laws.planes.Goals as goal

pub returns-clause-count : goal.returns-clause-count
returns-clause-count c = rows_added

pub returns-clause-own : goal.returns-clause-own
returns-clause-own c = added_at

pub returns-clause-before : goal.returns-clause-before
returns-clause-before c = row_before
