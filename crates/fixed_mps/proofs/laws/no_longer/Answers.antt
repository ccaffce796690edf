use Rattle.fixed_mps.proofs.FreeLines.{short_form}
use Rattle.fixed_mps.proofs.laws.no_longer.Goals as goal

pub returns : goal.returns
returns c = λ line h. short_form line h.one.no_end
