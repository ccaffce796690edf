use Rattle.std.proofs.Common.{◌≡◌, ◌∙◌, List, ℕ, ap, sym, map, option_map}
use Rattle.mps_words.specs.InsideCodes.{name_of}
use Rattle.text_base.specs.Names.{place_of}
use Rattle.text_base.proofs.NamePlaces.{texts_of, place_of-texts}
use Rattle.mps_words.proofs.CodeLemmas.{are_bytes, found_place, all_some}
use Rattle.mps_words.proofs.KeptNames.{codes_kept, codes_seen, set_seen}
use Rattle.mps_words.proofs.names.Names.look_up.Goals as goal

pub returns-in-Some-clause-place : goal.returns-in-Some-clause-place
returns-in-Some-clause-place c =
    let seen : texts_of c.in-Some.names.keys ≡ c.args.self.now = set_seen _ c.self.inside.codes _ _ (ap (option_map (λ s. texts_of s.keys)) c.in-Some.is) c.self.view_is in
    c.get_index_of.ensures.index ∙ sym (place_of-texts c.in-Some.names.keys c.args.name.now) ∙ ap (λ (names : List (List ℕ)). place_of names c.args.name.now) seen

pub returns-in-None-clause-place : goal.returns-in-None-clause-place
returns-in-None-clause-place c =
    let none = ap (option_map (λ s. texts_of s.keys)) c.in-None.is in
    let seen : map name_of c.self.inside.codes ≡ c.args.self.now = codes_seen _ c.self.inside.codes _ none c.self.view_is in
    found_place c.self.inside.codes c.args.name.now c.args.key.code c.look_up.result c.requires
    (codes_kept _ c.self.inside.codes none c.self.invariant) (are_bytes c.args.name.now c.type_inv.name)
    c.look_up.ensures.within c.look_up.ensures.found c.look_up.ensures.absent
    ∙ ap (λ (names : List (List ℕ)). place_of names c.args.name.now) seen

pub look_up-requires : goal.look_up-requires
look_up-requires c = all_some c.self.inside.codes (codes_kept _ c.self.inside.codes (ap (option_map (λ s. texts_of s.keys)) c.in-None.is) c.self.invariant)
