use Rattle.certificates.proofs.Says.{says}
use Rattle.certificates.proofs.duality_laws.certificates.Goals as goal

pub returns : goal.returns
returns c = λ f xs ys v h. let w = rw h at (says f xs ys) in (w.relaxed, w.value, w.best)
