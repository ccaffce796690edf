use Rattle.exact_numbers.specs.Values.{dec_value}
use Rattle.certificate_judge.proofs.Boxes.{capped_lists}
use Rattle.certificate_judge.proofs.sides.cap.Goals as goal

pub returns-clause-bounds : goal.returns-clause-bounds
returns-clause-bounds c = λ lo. capped_lists lo c.args.hi.now c.args.j (dec_value c.args.most) c.index-hi-j.result c.least.result c.requires c.index-hi-j.is c.least.ensures
