use Rattle.certificate_judge.proofs.Planes.{AreBuilt}
use Rattle.certificate_judge.proofs.plane.terms_of.Given as goal

abbrev pub invariant-loop-pair : goal.invariant-loop-pair
invariant-loop-pair l = AreBuilt l.pairs l.terms.items l.pair-index
