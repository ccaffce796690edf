use Rattle.exact_numbers.proofs.Extremes.{floor_is, ceiling_is}
use Rattle.exact_numbers.proofs.fraction_laws.whole_parts.Goals as goal

pub returns-clause-floor_whole : goal.returns-clause-floor_whole
returns-clause-floor_whole c = λ x. (floor_is x).whole

pub returns-clause-floor : goal.returns-clause-floor
returns-clause-floor c = λ x. ((floor_is x).below, (floor_is x).near)

pub returns-clause-ceiling_whole : goal.returns-clause-ceiling_whole
returns-clause-ceiling_whole c = λ x. (ceiling_is x).whole

pub returns-clause-ceiling : goal.returns-clause-ceiling
returns-clause-ceiling c = λ x. ((ceiling_is x).above, (ceiling_is x).near)
