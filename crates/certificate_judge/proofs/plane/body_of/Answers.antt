use Rattle.certificate_judge.proofs.Planes.{plane_sum}
use Rattle.certificate_judge.proofs.plane.body_of.Goals as goal

pub returns-clause-form : goal.returns-clause-form
returns-clause-form c = plane_sum c.args.pairs.now c.requires.whole (record { constant = c.zero.result; terms = c.in_ok-terms.terms }) c.zero.ensures c.in_ok-terms.ensures.sum
