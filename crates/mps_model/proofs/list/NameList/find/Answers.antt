use Rattle.std.proofs.Common.{List, ℕ, ap, sym, ◌∙◌}
use Rattle.mps_model.specs.Names.{place_of}
use Rattle.text_base.proofs.NamePlaces.{place_of-texts}
use Rattle.mps_model.proofs.list.NameList.find.Goals as goal

pub returns-in-Some : goal.returns-in-Some
returns-in-Some c = sym c.in-Some.is ∙ c.get_index_of.ensures.index
    ∙ sym (place_of-texts c.self.inside.names.keys c.args.text.now)
    ∙ ap (λ (names : List (List ℕ)). place_of names c.args.text.now) c.self.view_is

pub returns-in-None : goal.returns-in-None
returns-in-None c = sym c.in-None.is ∙ c.get_index_of.ensures.index
    ∙ sym (place_of-texts c.self.inside.names.keys c.args.text.now)
    ∙ ap (λ (names : List (List ℕ)). place_of names c.args.text.now) c.self.view_is
