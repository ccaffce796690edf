use Rattle.std.proofs.Common.{◌≡◌, ◌∙◌, List, ℕ, [], true, nat_eq, sym, ap, map, option_map}
use Rattle.std.specs.Str.{bytes_eq}
use Rattle.mps_words.specs.InsideCodes.{name_of}
use Rattle.mps_words.specs.Names.{last_name}
use Rattle.text_base.proofs.NamePlaces.{texts_of}
use Rattle.mps_words.proofs.CodeLemmas.{are_bytes, last_is_name, same_test, last_by_code, no_last}
use Rattle.mps_words.proofs.KeptNames.{as_seen, codes_kept, codes_seen, set_seen, last_code}
use Rattle.mps_words.proofs.NameLemmas.{no_bytes}
use Rattle.mps_words.proofs.names.Names.is_last.Goals as goal

pub returns-in-Some-clause-name : goal.returns-in-Some-clause-name
returns-in-Some-clause-name c = λ yes some.
    let seen : texts_of c.in-Some.names.keys ≡ c.args.self.now = set_seen _ c.self.inside.codes _ _ (ap (option_map (λ s. texts_of s.keys)) c.in-Some.is) c.self.view_is in
    let h = as_seen _ c.self.inside.codes _ c.self.invariant c.self.view_is in
    let same : bytes_eq c.args.name.now (last_name c.args.self.now) ≡ true = sym (c.is_last.ensures ∙ ap (λ (names : List (List ℕ)). bytes_eq c.args.name.now (last_name names)) seen) ∙ yes in
    last_is_name c.args.self.now c.args.name.now h.named same some

pub returns-in-Some-last-clause-value : goal.returns-in-Some-last-clause-value
returns-in-Some-last-clause-value c =
    let none = ap (option_map (λ s. texts_of s.keys)) c.in-None.is in
    let seen : map name_of c.self.inside.codes ≡ c.args.self.now = codes_seen _ c.self.inside.codes _ none c.self.view_is in
    let own = last_code c.self.inside.codes _ c.in-Some-last.code (codes_kept _ c.self.inside.codes none c.self.invariant) c.last.ensures c.in-Some-last.is in
    let last : name_of c.in-Some-last.code ≡ last_name c.args.self.now = sym (last_by_code c.self.inside.codes _ c.in-Some-last.code c.last.ensures c.in-Some-last.is) ∙ ap last_name seen in
    ap (λ (n : ℕ). nat_eq n c.in-Some-last.code) c.of.ensures
    ∙ same_test c.args.name.now c.in-Some-last.code (are_bytes c.args.name.now c.type_inv.name) own.bytes own.own own.above
    ∙ ap (bytes_eq c.args.name.now) last

pub returns-in-Some-last-clause-name : goal.returns-in-Some-last-clause-name
returns-in-Some-last-clause-name c = λ yes some.
    let h = as_seen _ c.self.inside.codes _ c.self.invariant c.self.view_is in
    last_is_name c.args.self.now c.args.name.now h.named (sym (returns-in-Some-last-clause-value c) ∙ yes) some

pub returns-in-None-last-clause-value : goal.returns-in-None-last-clause-value
returns-in-None-last-clause-value c =
    let none = ap (option_map (λ s. texts_of s.keys)) c.in-None.is in
    let seen : map name_of c.self.inside.codes ≡ c.args.self.now = codes_seen _ c.self.inside.codes _ none c.self.view_is in
    let last : last_name c.args.self.now ≡ [] = sym (ap last_name seen) ∙ no_last c.self.inside.codes _ c.last.ensures c.in-None-last.is in
    c.is_empty.ensures ∙ no_bytes c.args.name.now ∙ ap (bytes_eq c.args.name.now) (sym last)
