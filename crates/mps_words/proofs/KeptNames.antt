-- Names that are kept in a set, or as codes alone.
use Rattle.std.proofs.Common.{◌≡◌, ◌∙◌, ℕ, zero, suc, ◌-◌, ◌<◌, ◌^◌, List, [], ◌∷◌, ◌++◌, length, map, get_or, Option, Some, None, Result, Ok, Err, sym, ap, arith, subst}
use Rattle.std.specs.Prelude.{OnOk, OnErr, IfSome, slice_get}
use Rattle.std.specs.Global.{Vec}
use Rattle.std.proofs.lemmas.List.{length-map, map_push, get_or-map}
use Rattle.std.proofs.lemmas.Option.{slice_get_within}
use Rattle.text_base.specs.Names.{IsName}
use Rattle.text_base.proofs.NamePlaces.{texts_of}
use Rattle.mps_words.specs.InsideCodes.{code_of, name_of, AreBytes, HaveCodes, kept_names}
use Rattle.text_base.specs.Names.{place_of}
use Rattle.mps_words.specs.Names.{last_name}
use Rattle.mps_words.proofs.CodeLemmas.{one_more_code, name_back, code_at, code_above, last_named, named}

-- ---- what is held

pub codes_kept : (set : Option (List (List ℕ))) (codes : List ℕ) → set ≡ None → HaveCodes (kept_names set codes) codes → HaveCodes (map name_of codes) codes
codes_kept None codes is h = h
codes_kept (Some names) codes is h = absurd cc

pub codes_seen : (set : Option (List (List ℕ))) (codes : List ℕ) (names : List (List ℕ)) → set ≡ None → kept_names set codes ≡ names → map name_of codes ≡ names
codes_seen None codes names is e = e
codes_seen (Some set) codes names is e = absurd cc

pub set_kept : (set : Option (List (List ℕ))) (codes : List ℕ) (names : List (List ℕ)) → set ≡ Some names → HaveCodes (kept_names set codes) codes → HaveCodes names codes
set_kept set codes names is h = subst (λ (s : Option (List (List ℕ))). HaveCodes (kept_names s codes) codes) is h

pub set_seen : (set : Option (List (List ℕ))) (codes : List ℕ) (keys names : List (List ℕ)) → set ≡ Some keys → kept_names set codes ≡ names → keys ≡ names
set_seen set codes keys names is e = sym (ap (λ (s : Option (List (List ℕ))). kept_names s codes) is) ∙ e

pub as_seen : (kept : List (List ℕ)) (codes : List ℕ) (names : List (List ℕ)) → HaveCodes kept codes → kept ≡ names → HaveCodes names codes
as_seen kept codes names h e = subst (λ (ns : List (List ℕ)). HaveCodes ns codes) e h

-- ---- the last name

found : (xs : List ℕ) (i x : ℕ) → slice_get xs i ≡ Some x → get_or xs i 0 ≡ x
found [] i x e = absurd cc
found (y ∷ xs) zero x e = cc
found (y ∷ xs) (suc i) x e = found xs i x e

-- the last code is that of its name
pub record IsLastCode (code : ℕ) (codes : List ℕ) : Type 0 where
  pub some : 0 < length (map name_of codes)
  pub bytes : AreBytes (name_of code)
  pub own : code_of (name_of code) ≡ code
  pub above : 0 < code

pub last_code : (codes : List ℕ) (o : Option ℕ) (code : ℕ) → HaveCodes (map name_of codes) codes → o ≡ slice_get codes (length codes - 1) → o ≡ Some code → IsLastCode code codes
last_code codes o code h e is =
    let at : slice_get codes (length codes - 1) ≡ Some code = sym e ∙ is in
    let within : length codes - 1 < length codes = slice_get_within codes (length codes - 1) code at in
    let here : get_or codes (length codes - 1) 0 ≡ code = found codes (length codes - 1) code at in
    let inside : length codes - 1 < length (map name_of codes) = omega (arith, within, length-map codes name_of) in
    let name : get_or (map name_of codes) (length codes - 1) [] ≡ name_of code = get_or-map name_of codes (length codes - 1) 0 [] within ∙ ap name_of here in
    record {
      some = omega (arith, inside);
      bytes = subst AreBytes name (h.bytes (length codes - 1) [] inside);
      own = sym (ap (λ (n : ℕ). code_of (name_of n)) here) ∙ code_at codes (length codes - 1) h within ∙ here;
      above = omega (arith, here, code_above codes (length codes - 1) h within);
    }

pub name_of_last : {A : Type 0} (o : Option A) (codes : List ℕ) (names : List (List ℕ)) → HaveCodes names codes → IfSome o (λ x. 0 < length names) → IfSome o (λ x. IsName (last_name names))
name_of_last None codes names h some = tt
name_of_last (Some x) codes names h some = named (last_name names) (last_named names h.named some)

pub always : {A P : Type 0} (o : Option A) → P → IfSome o (λ x. P)
always None p = tt
always (Some x) p = p

-- ---- one more name

-- a new name and its code
pub record IsNew (names : List (List ℕ)) (name : List ℕ) (code : ℕ) : Type 0 where
  pub is : code ≡ code_of name
  pub bytes : AreBytes name
  pub own : IsName name
  pub new : place_of names name ≡ None
  pub room : length names < 2 ^ 21

pub one_more : (names : List (List ℕ)) (codes name : List ℕ) (code : ℕ) → HaveCodes names codes → IsNew names name code → HaveCodes (names ++ name ∷ []) (codes ++ code ∷ [])
one_more names codes name code h new =
    subst (λ (n : ℕ). HaveCodes (names ++ name ∷ []) (codes ++ n ∷ [])) (sym new.is) (one_more_code names codes name h new.bytes new.own new.new new.room)

pub set_more : {A E : Type 0} (r : Result A E) (keys keys2 : List (Vec ℕ)) (codes codes2 name : List ℕ) (code : ℕ)
    → HaveCodes (texts_of keys) codes → IsNew (texts_of keys) name code
    → OnOk r (texts_of keys2 ≡ texts_of keys ++ name ∷ []) → OnOk r (codes2 ≡ codes ++ code ∷ []) → OnErr r (keys2 ≡ keys)
    → OnErr r (codes2 ≡ codes) → HaveCodes (texts_of keys2) codes2
set_more (Ok u) keys keys2 codes codes2 name code h new names more same still = rw (names, more) (one_more (texts_of keys) codes name code h new)
set_more (Err f) keys keys2 codes codes2 name code h new names more same still = rw (same, still) h

-- the set that is made of the codes
pub begun : (keys : List (Vec ℕ)) (codes codes2 name : List ℕ) (code : ℕ) → HaveCodes (map name_of codes) codes
    → IsNew (map name_of codes) name code → texts_of keys ≡ map name_of codes ++ name ∷ [] → codes2 ≡ codes ++ code ∷ []
    → HaveCodes (texts_of keys) codes2
begun keys codes codes2 name code h new names more = rw (names, more) (one_more (map name_of codes) codes name code h new)

pub named_more : (codes name : List ℕ) (code : ℕ) → code ≡ code_of name → AreBytes name → 0 < code → map name_of (codes ++ code ∷ []) ≡ map name_of codes ++ name ∷ []
named_more codes name code is bytes some =
    let back : name_of code ≡ name = ap name_of is ∙ name_back name bytes (omega (arith, is, some)) in
    map_push name_of codes code ∙ ap (λ (n : List ℕ). map name_of codes ++ n ∷ []) back

pub codes_more : {A E : Type 0} (r : Result A E) (set : Option (List (List ℕ))) (codes codes2 name : List ℕ) (code : ℕ)
    → set ≡ None → HaveCodes (kept_names set codes) codes → IsNew (map name_of codes) name code → 0 < code
    → OnOk r (codes2 ≡ codes ++ code ∷ []) → OnErr r (codes2 ≡ codes) → HaveCodes (kept_names set codes2) codes2
codes_more r (Some names) codes codes2 name code is h new some more still = absurd cc
codes_more (Ok u) None codes codes2 name code is h new some more still = rw (more, named_more codes name code new.is new.bytes some) (one_more (map name_of codes) codes name code h new)
codes_more (Err f) None codes codes2 name code is h new some more still = rw still h

pub seen_more : {A E : Type 0} (r : Result A E) (set : Option (List (List ℕ))) (codes codes2 name : List ℕ) (code : ℕ)
    (names : List (List ℕ)) → set ≡ None → kept_names set codes ≡ names → code ≡ code_of name → AreBytes name → 0 < code
    → OnOk r (codes2 ≡ codes ++ code ∷ []) → OnOk r (kept_names set codes2 ≡ names ++ name ∷ [])
seen_more r (Some set) codes codes2 name code names is e own bytes some more = absurd cc
seen_more (Ok u) None codes codes2 name code names is e own bytes some more = ap (map name_of) more ∙ named_more codes name code own bytes some ∙ ap (λ (ns : List (List ℕ)). ns ++ name ∷ []) e
seen_more (Err f) None codes codes2 name code names is e own bytes some more = tt
