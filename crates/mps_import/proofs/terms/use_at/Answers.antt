use Rattle.std.proofs.lemmas.List.{get_or_default}
use Rattle.mps_import.proofs.terms.use_at.Goals as goal

pub returns : goal.returns
returns c = get_or_default c.args.uses.now c.args.row _ _ c.requires
