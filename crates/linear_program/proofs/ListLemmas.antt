-- What is left of a list, by its first element.
use Rattle.std.proofs.Common.{◌≡◌, ℕ, suc, ◌+◌, ◌<◌, ◌∙◌, sym, ap, arith, List, ◌∷◌, length, get_or, drop, drop-cons, add-one}
use Rattle.std.proofs.lemmas.List.{drop-drop, get_or-drop}

pub rest_of : {A : Type 0} (xs : List A) (i : ℕ) (x : A) → i < length xs → x ≡ get_or xs i x → drop i xs ≡ x ∷ drop (i + 1) xs
rest_of xs i x h is = drop-cons xs i x h ∙ ap (λ y. y ∷ drop (suc i) xs) (sym is) ∙ ap (λ n. x ∷ drop n xs) (sym (add-one i))

pub first_left : {A : Type 0} (xs : List A) (j : ℕ) (x : A) (rest : List A) → drop j xs ≡ x ∷ rest → x ≡ get_or xs j x
first_left xs j x rest e = sym (ap (λ ys. get_or ys 0 x) e) ∙ get_or-drop j xs 0 x ∙ ap (λ k. get_or xs k x) (omega arith)

pub others_left : {A : Type 0} (xs : List A) (j : ℕ) (x : A) (rest : List A) → drop j xs ≡ x ∷ rest → rest ≡ drop (j + 1) xs
others_left xs j x rest e = ap (drop 1) (sym e) ∙ drop-drop 1 j xs
