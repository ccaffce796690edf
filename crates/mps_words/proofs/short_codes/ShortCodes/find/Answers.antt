use Rattle.mps_words.proofs.CodeLemmas.{found_behind}
use Rattle.mps_words.proofs.short_codes.ShortCodes.find.Goals as goal

pub returns-clause-found : goal.returns-clause-found
returns-clause-found c =
    found_behind c.self.inside.narrow.keys c.self.inside.wide.keys c.args.self.now c.as_slice.result.now c.in-Some-wide_place.place c.args.code
    c.self.view_is c.as_slice.ensures.keys c.in-Some-wide_place.ensures.found
