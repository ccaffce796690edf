use Rattle.exact_numbers.specs.Values.{dec_value}
use Rattle.certificate_judge.proofs.Boxes.{raised_lists}
use Rattle.certificate_judge.proofs.sides.raise.Goals as goal

pub returns-clause-bounds : goal.returns-clause-bounds
returns-clause-bounds c = λ hi. raised_lists c.args.lo.now hi c.args.j (dec_value c.args.least) c.index-lo-j.result c.greatest.result c.requires c.index-lo-j.is c.greatest.ensures
