use Rattle.certificates.proofs.GapExample.{not_each}
use Rattle.certificates.proofs.problem_laws.not_each_number_is_a_gap.Goals as goal

pub returns : goal.returns
returns c = not_each
