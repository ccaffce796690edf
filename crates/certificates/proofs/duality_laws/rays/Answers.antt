use Rattle.certificates.proofs.Rays.{no_end, ray_yes}
use Rattle.certificates.proofs.duality_laws.rays.Goals as goal

pub returns-clause-ray : goal.returns-clause-ray
returns-clause-ray c = ray_yes

pub returns-clause-endless : goal.returns-clause-endless
returns-clause-endless c = no_end
