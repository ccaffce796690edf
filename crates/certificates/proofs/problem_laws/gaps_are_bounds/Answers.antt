use Rattle.certificates.proofs.LeafGaps.{leaf_denies}
use Rattle.certificates.proofs.Problems.{leaf_at}
use Rattle.certificates.proofs.problem_laws.gaps_are_bounds.Goals as goal

pub returns-clause-parts : goal.returns-clause-parts
returns-clause-parts c part p means tree g e = leaf_denies p part means part.value tree g e

pub returns-clause-proofs : goal.returns-clause-proofs
returns-clause-proofs c f p means v tree g e = leaf_at f p means tree g (v, e)
