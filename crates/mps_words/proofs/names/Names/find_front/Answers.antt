use Rattle.mps_words.proofs.CodeLemmas.{are_bytes}
use Rattle.mps_words.proofs.KeptNames.{as_seen}
use Rattle.mps_words.proofs.ShortNames.{short_found}
use Rattle.mps_words.proofs.names.Names.find_front.Goals as goal

pub returns : goal.returns
returns c =
    short_found c.args.self.now c.self.inside.codes c.args.text.now c.in-Some.rest.now c.args.end c.in-Some.key.code
    c.in-Some-guess.place (as_seen _ c.self.inside.codes _ c.self.invariant c.self.view_is)
    (are_bytes c.args.text.now c.type_inv.text) c.in-Some.ensures c.if-key-eq-MARKER.false c.in-Some-guess.ensures.within
    c.in-Some-guess.ensures.code
