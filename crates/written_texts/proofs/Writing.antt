-- Lines that are written one after the other.
use Rattle.std.proofs.Common.{[], ◌≡◌, ℕ, ◌+◌, ◌<◌, ◌∙◌, sym, ap, ap₂, List, ◌∷◌, ◌++◌, length, map, drop, append_assoc, append-nil, add-one, drop-cons, Some}
use Rattle.std.proofs.lemmas.Grind.{flat_map-append}
use Rattle.std.proofs.lemmas.List.Folds.{flat_map-map}
use Rattle.std.proofs.lemmas.Option.{slice_get_within, get_or_from_slice_get}
use Rattle.std.specs.List.{flat_map, slice_get}
use Rattle.text_base.specs.WordLines.{WordLine, line_text, lines_text, spaced}

-- lines, and after them further ones
pub lines_after : (before lines more : List ℕ) (a b : List WordLine) → lines ≡ before ++ lines_text a → more ≡ lines ++ lines_text b → more ≡ before ++ lines_text (a ++ b)
lines_after before lines more a b p q =
    q ∙ ap (λ x. x ++ lines_text b) p ∙ append_assoc before (lines_text a) (lines_text b) ∙ ap (λ x. before ++ x) (sym (flat_map-append line_text a b))

pub line_after : (before lines more : List ℕ) (a : List WordLine) (line : WordLine) → lines ≡ before ++ lines_text a → more ≡ lines ++ line_text line → more ≡ before ++ lines_text (a ++ line ∷ [])
line_after before lines more a line p q = lines_after before lines more a (line ∷ []) p (q ∙ ap (λ x. lines ++ x) (sym (append-nil (line_text line))))

-- of lines that are to follow, some are written
pub rest_written : (out0 out1 total : List ℕ) (lines rest : List WordLine) → out0 ++ lines_text (lines ++ rest) ≡ total → out1 ≡ out0 ++ lines_text lines → out1 ++ lines_text rest ≡ total
rest_written out0 out1 total lines rest start now =
    ap (λ x. x ++ lines_text rest) now ∙ append_assoc out0 (lines_text lines) (lines_text rest) ∙ ap (λ x. out0 ++ x) (sym (flat_map-append line_text lines rest)) ∙ start

-- a word, and after it further ones
pub spaced-cons : (word : List ℕ) (words : List (List ℕ)) → spaced (word ∷ words) ≡ word ++ flat_map (λ w. 32 ∷ w) words
spaced-cons word [] = sym (append-nil word)
spaced-cons word (next ∷ words) = ap (λ x. word ++ 32 ∷ x) (spaced-cons next words)

-- the line of the next one is written
pub line_written : {A : Type 0} (line : A → WordLine) (xs : List A) (i : ℕ) (x : A) (out0 out1 total : List ℕ) → slice_get xs i ≡ Some x →
    out0 ++ lines_text (map line (drop i xs)) ≡ total → out1 ≡ out0 ++ line_text (line x) →
    out1 ++ lines_text (map line (drop (i + 1) xs)) ≡ total
line_written line xs i x out0 out1 total at start now =
    let inside : i < length xs = slice_get_within xs i x at in
    let split : drop i xs ≡ x ∷ drop (i + 1) xs =
    drop-cons xs i x inside ∙ ap₂ (λ y k. y ∷ drop k xs) (get_or_from_slice_get xs i x x at) (sym (add-one i)) in
    let rest = map line (drop (i + 1) xs) in
    ap (λ y. y ++ lines_text rest) now
    ∙ append_assoc out0 (line_text (line x)) (lines_text rest)
    ∙ ap (λ ys. out0 ++ lines_text (map line ys)) (sym split)
    ∙ start

-- a word, and further ones with a space before each
pub words_written : {A : Type 0} (word : List ℕ) (text : A → List ℕ) (xs : List A) (out0 out1 out2 out3 : List ℕ) → out1 ≡ out0 ++ word →
    out2 ≡ out1 ++ flat_map (λ x. 32 ∷ text x) xs → out3 ≡ out2 ++ 10 ∷ [] → out3 ≡ out0 ++ line_text (word ∷ map text xs)
words_written word text xs out0 out1 out2 out3 p q r =
    let more = flat_map (λ x. 32 ∷ text x) xs in
    r ∙ ap (λ y. y ++ 10 ∷ []) (q ∙ ap (λ y. y ++ more) p ∙ append_assoc out0 word more
    ∙ ap (λ y. out0 ++ (word ++ y)) (sym (flat_map-map (λ w. 32 ∷ w) text xs)) ∙ ap (λ y. out0 ++ y) (sym (spaced-cons word (map text xs))))
    ∙ append_assoc out0 (spaced (word ∷ map text xs)) (10 ∷ [])
