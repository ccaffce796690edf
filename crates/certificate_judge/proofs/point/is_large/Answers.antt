use Rattle.certificate_judge.proofs.Larges.{large_is}
use Rattle.certificate_judge.proofs.point.is_large.Goals as goal

pub returns : goal.returns
returns c = large_is c.args.number c.is_whole.result c.requires c.is_whole.ensures
