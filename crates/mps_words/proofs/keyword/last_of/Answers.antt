use Rattle.std.proofs.Common.{◌∙◌}
use Rattle.mps_words.proofs.LastLemmas.{last_of-slice}
use Rattle.mps_words.proofs.keyword.last_of.Goals as goal

pub returns : goal.returns
returns c = c.copied.ensures ∙ c.last.ensures.value ∙ last_of-slice c.args.begun.now
