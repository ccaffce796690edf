use Rattle.std.proofs.Common.{refl, ◌≡◌, ◌∙◌, ap, false, ◌++◌, ◌∷◌, []}
use Rattle.std.specs.List.{list_any}
use Rattle.std.specs.Str.{bytes_eq}
use Rattle.text_base.proofs.NamePlaces.{texts_of, new_name, texts_of-push}
use Rattle.mps_words.proofs.name_sets.insert_new.Goals as goal

pub returns-clause-keys : goal.returns-clause-keys
returns-clause-keys c =
    let absent : list_any (λ k. bytes_eq c.args.name.items k.items) c.args.names.now.keys ≡ false = new_name c.args.names.now.keys c.args.name.items c.requires.new in
    let keys : c.insert.new.self.keys ≡ c.args.names.now.keys ++ c.args.name ∷ [] = c.in-Ok.ensures.keys ∙ rw absent refl in
    ap texts_of keys ∙ texts_of-push c.args.names.now.keys c.args.name c.args.name.items refl
