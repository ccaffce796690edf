use Rattle.std.proofs.Common.{◌≡◌, ◌∙◌, sym, ap, []}
use Rattle.std.specs.Option.{option_copied}
use Rattle.std.specs.Str.{bytes_eq}
use Rattle.mps_words.specs.Names.{last_name}
use Rattle.mps_words.proofs.NameLemmas.{last_key, no_key, no_bytes}
use Rattle.text_base.proofs.NamePlaces.{texts_of}
use Rattle.mps_words.proofs.name_sets.is_last.Goals as goal

pub returns-in-Some : goal.returns-in-Some
returns-in-Some c =
    let last : last_name (texts_of c.args.names.now.keys) ≡ c.in-Some.last.now.items = last_key c.args.names.now.keys _ _ c.last.ensures.key (ap option_copied c.in-Some.is) in
    c.eq.ensures ∙ ap (bytes_eq c.args.name.now) (c.as_slice.ensures.value ∙ sym last)

pub returns-in-None : goal.returns-in-None
returns-in-None c =
    let last : last_name (texts_of c.args.names.now.keys) ≡ [] = no_key c.args.names.now.keys _ c.last.ensures.key (ap option_copied c.in-None.is) in
    c.is_empty.ensures ∙ no_bytes c.args.name.now ∙ ap (bytes_eq c.args.name.now) (sym last)
