-- How a comment is looked for, byte by byte.
use Rattle.std.proofs.Common.{◌≡◌, ◌∙◌, ℕ, ◌+◌, ◌-◌, ◌<◌, Bool, true, false, ◌&&◌, ◌||◌, nat_eq, cond, List, [], ◌∷◌, ◌++◌, length, take, drop, get_or, refl, sym, ap, ap₂, arith, append_assoc}
use Rattle.std.proofs.lemmas.List.{take_more, drop_more}
use Rattle.std.proofs.lemmas.Bool.Decides.{nat_tests}
use Rattle.text_base.specs.Words.{is_blank, up_to_comment}

-- a comment may begin at this place: at the front, or after a blank
abbrev pub may_begin_at : List ℕ → ℕ → Bool
may_begin_at line place = nat_eq place 0 || is_blank (get_or line (place - 1) 0)

no_comment : (m : Bool) (b : ℕ) (bytes : List ℕ) → (m && nat_eq b 35) ≡ false → up_to_comment m (b ∷ bytes) ≡ b ∷ up_to_comment (is_blank b) bytes
no_comment m b bytes e = ap (λ t. cond t [] (b ∷ up_to_comment (is_blank b) bytes)) e

-- a byte that is no mark of a comment
pub no_mark : (m : Bool) (b : ℕ) → (b ≡ 35 → ⊥) → (m && nat_eq b 35) ≡ false
no_mark true b h = grind (arith, nat_tests)
no_mark false b h = refl

-- a place where none may begin
pub no_place : (m : Bool) (b : ℕ) → m ≡ false → (m && nat_eq b 35) ≡ false
no_place m b e = ap (λ t. t && nat_eq b 35) e

next_begins : (line : List ℕ) (place : ℕ) → may_begin_at line (place + 1) ≡ is_blank (get_or line place 0)
next_begins line place =
    let behind : nat_eq (place + 1) 0 ≡ false = grind (arith, nat_tests) in
    let here : place + 1 - 1 ≡ place = omega arith in
    ap₂ (λ t k. t || is_blank (get_or line k 0)) behind here

-- a byte that begins no comment
pub byte_passed : (whole line : List ℕ) (place : ℕ) → place < length line → (may_begin_at line place && nat_eq (get_or line place 0) 35) ≡ false
    → whole ≡ take place line ++ up_to_comment (may_begin_at line place) (drop place line)
    → whole ≡ take (place + 1) line ++ up_to_comment (may_begin_at line (place + 1)) (drop (place + 1) line)
byte_passed whole line place lt none h =
    let b = get_or line place 0 in
    let rest = drop (place + 1) line in
    let now : up_to_comment (may_begin_at line place) (drop place line) ≡ b ∷ up_to_comment (is_blank b) rest =
    ap (up_to_comment (may_begin_at line place)) (drop_more line place 0 lt) ∙ no_comment (may_begin_at line place) b rest none in
    h ∙ ap (λ xs. take place line ++ xs) now ∙ sym (append_assoc (take place line) (b ∷ []) (up_to_comment (is_blank b) rest))
    ∙ ap₂ (λ xs t. xs ++ up_to_comment t rest) (sym (take_more line place 0 lt)) (sym (next_begins line place))
