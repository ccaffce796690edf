use Rattle.problems.proofs.Meaning.{mps_means}
use Rattle.problems.proofs.mps_laws.programs_mean_problems.Goals as goal

pub returns : goal.returns
returns c = mps_means
