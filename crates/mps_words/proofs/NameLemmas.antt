-- Names as keys of a set: the last one.
use Rattle.std.proofs.Common.{◌≡◌, ◌∙◌, ℕ, suc, ◌-◌, ◌==◌, List, [], ◌∷◌, length, Option, Some, None, refl, sym, ap, arith}
use Rattle.std.specs.Prelude.{slice_get, option_map, unwrap_or}
use Rattle.std.specs.Global.{Vec}
use Rattle.std.specs.Str.{bytes_eq}
use Rattle.std.proofs.lemmas.List.{length-map}
use Rattle.text_base.proofs.NamePlaces.{texts_of, slice_get-texts}
use Rattle.mps_words.specs.Names.{last_name}
use Rattle.mps_words.proofs.LastLemmas.{last_name-slice}
use Rattle.std.proofs.lemmas.Bool.{ne_eqb}

last_slice : (keys : List (Vec ℕ)) (o : Option (Vec ℕ)) → o ≡ slice_get keys (length keys - 1) → slice_get (texts_of keys) (length (texts_of keys) - 1) ≡ option_map (λ k. k.items) o
last_slice keys o e = slice_get-texts keys (length (texts_of keys) - 1)
    ∙ ap (λ (n : ℕ). option_map (λ k. k.items) (slice_get keys (n - 1))) (length-map keys (λ k. k.items))
    ∙ ap (option_map (λ k. k.items)) (sym e)

pub last_key : (keys : List (Vec ℕ)) (o : Option (Vec ℕ)) (key : Vec ℕ) → o ≡ slice_get keys (length keys - 1) → o ≡ Some key → last_name (texts_of keys) ≡ key.items
last_key keys o key e is = last_name-slice (texts_of keys) ∙ ap (λ n. unwrap_or n []) (last_slice keys o e ∙ ap (option_map (λ k. k.items)) is)

pub no_key : (keys : List (Vec ℕ)) (o : Option (Vec ℕ)) → o ≡ slice_get keys (length keys - 1) → o ≡ None → last_name (texts_of keys) ≡ []
no_key keys o e is = last_name-slice (texts_of keys) ∙ ap (λ n. unwrap_or n []) (last_slice keys o e ∙ ap (option_map (λ k. k.items)) is)

pub no_bytes : (name : List ℕ) → (length name == 0) ≡ bytes_eq name []
no_bytes [] = refl
no_bytes (b ∷ name) = ne_eqb (suc (length name)) 0 (λ e. omega (arith, e))
