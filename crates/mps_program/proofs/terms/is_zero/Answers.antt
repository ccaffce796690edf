use Rattle.mps_program.proofs.PartLemmas.{zero_same}
use Rattle.mps_program.proofs.terms.is_zero.Goals as goal

pub returns : goal.returns
returns c = zero_same c.is_zero.result c.args.value c.is_zero.ensures
