use Rattle.std.proofs.Common.{◌≡◌, ◌∙◌, List, ℕ, ap, refl, None, ◌++◌, ◌∷◌, [], cond}
use Rattle.std.specs.Global.{Vec}
use Rattle.std.specs.List.{list_any}
use Rattle.std.specs.Str.{bytes_eq}
use Rattle.mps_model.specs.Names.{place_of}
use Rattle.mps_model.proofs.NameLemmas.{names_more}
use Rattle.text_base.proofs.NamePlaces.{texts_of, new_name, texts_of-push}
use Rattle.mps_model.proofs.list.NameList.add.Goals as goal

pushed : (keys new : List (Vec ℕ)) (key : Vec ℕ) (name : List ℕ) → place_of (texts_of keys) name ≡ None
    → key.items ≡ name → new ≡ cond (list_any (λ k. bytes_eq key.items k.items) keys) keys (keys ++ key ∷ [])
    → texts_of new ≡ texts_of keys ++ name ∷ []
pushed keys new key name none is e = ap texts_of (e ∙ ap (λ q. cond (list_any (λ k. bytes_eq q k.items) keys) keys
    (keys ++ key ∷ [])) is ∙ rw (new_name keys name none) refl) ∙ texts_of-push keys key name is

pub returns : goal.returns
returns c = pushed c.self.inside.names.keys _ _ c.args.name.now (rw c.self.view_is c.requires.new)
    c.in_ok-from_slice.ensures.items c.in_ok-insert.ensures.keys
    ∙ ap (λ (names : List (List ℕ)). names ++ c.args.name.now ∷ []) c.self.view_is

pub invariant_of-self-2 : goal.invariant_of-self-2
invariant_of-self-2 c =
    let none : place_of (texts_of c.self.inside.names.keys) c.args.name.now ≡ None = rw c.self.view_is c.requires.new in
    rw (pushed c.self.inside.names.keys _ _ c.args.name.now none c.in_ok-from_slice.ensures.items c.in_ok-insert.ensures.keys)
    (names_more (texts_of c.self.inside.names.keys) c.args.name.now c.self.invariant none (rw c.self.view_is c.requires.room) c.requires.named c.requires.free)
