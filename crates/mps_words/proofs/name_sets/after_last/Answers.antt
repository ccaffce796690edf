use Rattle.std.proofs.Common.{◌≡◌, ◌∙◌, ◌++◌, List, ℕ, IfSome, ap, subst, sym}
use Rattle.std.specs.Option.{option_copied}
use Rattle.text_base.proofs.NamePlaces.{texts_of}
use Rattle.mps_words.specs.Names.{last_name}
use Rattle.mps_words.proofs.NameLemmas.{last_key}
use Rattle.mps_words.proofs.name_sets.after_last.Goals as goal

pub returns-in-Some-clause-parts : goal.returns-in-Some-clause-parts
returns-in-Some-clause-parts c =
    let last : last_name (texts_of c.args.names.now.keys) ≡ c.in-Some.last.now.items = last_key c.args.names.now.keys _ _ c.last.ensures.key (ap option_copied c.in-Some.is) in
    subst (λ (n : List ℕ). IfSome c.after_bytes.result (λ rest. c.args.text.now ≡ n ++ rest.now)) (c.as_slice.ensures.value ∙ sym last) c.after_bytes.ensures
