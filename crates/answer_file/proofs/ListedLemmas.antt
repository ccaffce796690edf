-- Names of lists, by number.
use Rattle.std.proofs.Common.{◌≡◌, ◌∙◌, ℕ, suc, ◌+◌, ◌<◌, Bool, cond, List, [], ◌∷◌, length, get_or, Option, Some, refl, sym, ap, ap₂, arith}
use Rattle.std.specs.Prelude.{option_map, position}
use Rattle.std.specs.List.{range_with_len}
use Rattle.std.specs.Str.{bytes_eq}
use Rattle.text_base.specs.Names.{place_of}
use Rattle.mps_model.specs.Names.{index_named}
use Rattle.mps_model.proofs.NumeralLemmas.{position-cons}
use Rattle.answer_file.proofs.PlaceLemmas.{bytes_eq-comm}

-- a test of the numbers from a on that tells which names are the text
places : (text : List ℕ) (names : List (List ℕ)) (p : ℕ → Bool) (a : ℕ) → ((j : ℕ) → j < length names → p (a + j) ≡ bytes_eq text (get_or names j []))
    → place_of names text ≡ position p (range_with_len a (length names))
places text [] p a same = refl
places text (name ∷ names) p a same =
    position-cons (bytes_eq text) name names
    ∙ ap₂ (λ (b : Bool) (o : Option ℕ). cond b (Some 0) (option_map suc o)) (sym (ap p (omega arith) ∙ same 0 (omega arith)))
    (places text names p (a + 1) (λ j less. ap p (omega arith) ∙ same (suc j) (omega arith)))
    ∙ sym (position-cons p a (range_with_len (a + 1) (length names)))

-- the first name that is the text has the first number whose name is it
pub place_numbered : (names : List (List ℕ)) (n : ℕ) (text : List ℕ) → length names ≡ n → place_of names text ≡ index_named (λ j. get_or names j []) n text
unfolding index_named
place_numbered names n text all =
    places text names (λ j. bytes_eq (get_or names j []) text) 0 (λ j less. ap (λ i. bytes_eq (get_or names i []) text) (omega arith) ∙ bytes_eq-comm (get_or names j []) text)
    ∙ ap (λ k. position (λ j. bytes_eq (get_or names j []) text) (range_with_len 0 k)) all
