use Rattle.mps_words.proofs.CodeLemmas.{code_found}
use Rattle.mps_words.proofs.short_codes.wide_place.Goals as goal

pub returns-clause-found : goal.returns-clause-found
returns-clause-found c = code_found c.args.codes.now.keys c.args.code c.get_index_of.result c.get_index_of.ensures.index
