-- The parts of a written text, one after the other.
use Rattle.std.proofs.Common.{◌≡◌, ◌∙◌, ℕ, ◌+◌, ◌<◌, List, [], ◌∷◌, ◌++◌, length, map, take, get_or, Some, sym, ap, append_assoc}
use Rattle.std.specs.Prelude.{slice_get}
use Rattle.std.proofs.lemmas.Grind.{flat_map-append}
use Rattle.std.proofs.lemmas.List.{append-nil, map-append, take_more}
use Rattle.std.proofs.lemmas.Option.{get_or_from_slice_get}
use Rattle.text_base.specs.Cut.{ended_lines}

pub ended_lines-append : (xs ys : List (List ℕ)) → ended_lines (xs ++ ys) ≡ ended_lines xs ++ ended_lines ys
ended_lines-append xs ys = flat_map-append (λ line. line ++ 10 ∷ []) xs ys

-- a line more of a list
pub lines_step : (before out new : List ℕ) (lines : List (List ℕ)) (i : ℕ) (line : List ℕ) → i < length lines
    → Some line ≡ slice_get lines i → out ≡ before ++ ended_lines (take i lines) → new ≡ out ++ (line ++ 10 ∷ [])
    → new ≡ before ++ ended_lines (take (i + 1) lines)
lines_step before out new lines i line lt is e f =
    let last : get_or lines i line ≡ line = get_or_from_slice_get lines i line line (sym is) in
    let more : take (i + 1) lines ≡ take i lines ++ line ∷ [] = take_more lines i line lt ∙ ap (λ l. take i lines ++ l ∷ []) last in
    f ∙ ap (λ l. out ++ l) (sym (append-nil (line ++ 10 ∷ []))) ∙ ap (λ o. o ++ ended_lines (line ∷ [])) e ∙ append_assoc before (ended_lines (take i lines)) (ended_lines (line ∷ []))
    ∙ ap (λ t. before ++ t) (sym (ended_lines-append (take i lines) (line ∷ [])) ∙ ap ended_lines (sym more))

-- a line more of a list that is written item by item
pub mapped_step : {A : Type 0} (f : A → List ℕ) (before out new : List ℕ) (xs : List A) (i : ℕ) (x d : A)
    → i < length xs → x ≡ get_or xs i d → out ≡ before ++ ended_lines (map f (take i xs))
    → new ≡ out ++ ended_lines (f x ∷ [])
    → new ≡ before ++ ended_lines (map f (take (i + 1) xs))
mapped_step f before out new xs i x d lt is e last =
    let more : take (i + 1) xs ≡ take i xs ++ x ∷ [] = take_more xs i d lt ∙ ap (λ y. take i xs ++ y ∷ []) (sym is) in
    last ∙ ap (λ o. o ++ ended_lines (f x ∷ [])) e ∙ append_assoc before (ended_lines (map f (take i xs))) (ended_lines (f x ∷ []))
    ∙ ap (λ t. before ++ t) (sym (ended_lines-append (map f (take i xs)) (f x ∷ [])) ∙ ap ended_lines (sym (ap (map f) more ∙ map-append f (take i xs) (x ∷ []))))

-- seven parts, one after the other
pub seven_parts : (a b c d e f g : List (List ℕ)) (o1 o2 o3 o4 o5 o6 o7 : List ℕ) → o1 ≡ ended_lines a
    → o2 ≡ o1 ++ ended_lines b → o3 ≡ o2 ++ ended_lines c → o4 ≡ o3 ++ ended_lines d → o5 ≡ o4 ++ ended_lines e
    → o6 ≡ o5 ++ ended_lines f → o7 ≡ o6 ++ ended_lines g
    → o7 ≡ ended_lines (a ++ (b ++ c ++ d ++ e ++ f ++ g))
seven_parts a b c d e f g o1 o2 o3 o4 o5 o6 o7 h1 h2 h3 h4 h5 h6 h7 =
    rw (h7, h6, h5, h4, h3, h2, h1) (simp (ended_lines-append, append_assoc))
