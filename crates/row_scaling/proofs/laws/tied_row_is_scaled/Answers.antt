use Rattle.row_scaling.proofs.LinearLemmas.{tied_as_scaled}
use Rattle.row_scaling.proofs.laws.tied_row_is_scaled.Goals as goal

pub returns : goal.returns
returns c = tied_as_scaled
