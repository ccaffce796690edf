use Rattle.std.proofs.Common.{◌≡◌, ◌∙◌, ◌<◌, List, ℕ, ap, length, map, option_map, subst, sym}
use Rattle.std.specs.Prelude.{IfSome}
use Rattle.std.proofs.lemmas.List.{length-map}
use Rattle.mps_words.specs.InsideCodes.{name_of}
use Rattle.mps_words.specs.Names.{last_name}
use Rattle.text_base.proofs.NamePlaces.{texts_of}
use Rattle.mps_words.proofs.CodeLemmas.{are_bytes, last_by_code}
use Rattle.mps_words.proofs.KeptNames.{as_seen, codes_kept, codes_seen, set_seen, last_code, name_of_last, always}
use Rattle.mps_words.proofs.ShortNames.{last_word}
use Rattle.mps_words.proofs.names.Names.after_last_word.Goals as goal

pub returns-in-Some-clause-name : goal.returns-in-Some-clause-name
returns-in-Some-clause-name c =
    let seen : texts_of c.in-Some.names.keys ≡ c.args.self.now = set_seen _ c.self.inside.codes _ _ (ap (option_map (λ s. texts_of s.keys)) c.in-Some.is) c.self.view_is in
    let size : length c.in-Some.names.keys ≡ length c.args.self.now = sym (length-map c.in-Some.names.keys (λ k. k.items)) ∙ ap length seen in
    name_of_last c.after_last_word.result c.self.inside.codes c.args.self.now
    (as_seen _ c.self.inside.codes _ c.self.invariant c.self.view_is)
    (subst (λ (n : ℕ). IfSome c.after_last_word.result (λ rest. 0 < n)) size c.after_last_word.ensures.some)

pub returns-in-Some-last-clause-parts : goal.returns-in-Some-last-clause-parts
returns-in-Some-last-clause-parts c =
    let none = ap (option_map (λ s. texts_of s.keys)) c.in-None.is in
    let seen : map name_of c.self.inside.codes ≡ c.args.self.now = codes_seen _ c.self.inside.codes _ none c.self.view_is in
    let last : name_of c.in-Some-last.code ≡ last_name c.args.self.now = sym (last_by_code c.self.inside.codes _ c.in-Some-last.code c.last.ensures c.in-Some-last.is) ∙ ap last_name seen in
    last_word c.after_code_word.result (λ rest. rest.now) c.args.text.now (last_name c.args.self.now) c.in-Some-last.code (are_bytes c.args.text.now c.type_inv.text) last c.after_code_word.ensures

pub returns-in-Some-last-clause-name : goal.returns-in-Some-last-clause-name
returns-in-Some-last-clause-name c =
    let none = ap (option_map (λ s. texts_of s.keys)) c.in-None.is in
    let seen : map name_of c.self.inside.codes ≡ c.args.self.now = codes_seen _ c.self.inside.codes _ none c.self.view_is in
    let last = last_code c.self.inside.codes _ c.in-Some-last.code (codes_kept _ c.self.inside.codes none c.self.invariant) c.last.ensures c.in-Some-last.is in
    let some : 0 < length c.args.self.now = subst (λ (names : List (List ℕ)). 0 < length names) seen last.some in
    name_of_last c.after_code_word.result c.self.inside.codes c.args.self.now (as_seen _ c.self.inside.codes _ c.self.invariant c.self.view_is) (always c.after_code_word.result some)
