-- The last of a list.
use Rattle.std.proofs.Common.{◌≡◌, ◌∙◌, ℕ, suc, ◌-◌, List, [], ◌∷◌, ◌++◌, length, map, Some, refl, sym, ap, arith}
use Rattle.std.specs.Prelude.{slice_get, option_map, unwrap_or}
use Rattle.mps_words.specs.declared.keyword.Keyword.{Keyword}
use Rattle.mps_words.specs.Sections.{Section, extended, last_section, last_of}
use Rattle.mps_words.specs.Names.{last_name}

-- the last place of a longer list
step : {A : Type 0} (x y : A) (xs : List A) → slice_get (x ∷ y ∷ xs) (suc (suc (length xs)) - 1) ≡ slice_get (y ∷ xs) (suc (length xs) - 1)
step x y xs =
    let one : suc (suc (length xs)) - 1 ≡ suc (length xs) = omega arith in
    let none : length xs ≡ suc (length xs) - 1 = omega arith in
    ap (slice_get (x ∷ y ∷ xs)) one ∙ ap (slice_get (y ∷ xs)) none

pub last_of-slice : (ks : List Keyword) → slice_get ks (length ks - 1) ≡ last_of ks
unfolding last_of
last_of-slice (k ∷ l ∷ ks) = step k l ks ∙ last_of-slice (l ∷ ks)
last_of-slice xs = refl

pub last_of-push : (ks : List Keyword) (k : Keyword) → last_of (ks ++ k ∷ []) ≡ Some k
unfolding last_of
last_of-push (l ∷ m ∷ ks) k = last_of-push (m ∷ ks) k
last_of-push xs k = refl

pub last_name-slice : (ns : List (List ℕ)) → last_name ns ≡ unwrap_or (slice_get ns (length ns - 1)) []
unfolding last_name
last_name-slice (m ∷ o ∷ ns) = last_name-slice (o ∷ ns) ∙ ap (λ n. unwrap_or n []) (sym (step m o ns))
last_name-slice xs = refl

pub last_name-push : (ns : List (List ℕ)) (n : List ℕ) → last_name (ns ++ n ∷ []) ≡ n
unfolding last_name
last_name-push (m ∷ o ∷ ns) n = last_name-push (o ∷ ns) n
last_name-push xs n = refl

-- ---- sections

pub last_section-push : (ss : List Section) (s : Section) → last_section (ss ++ s ∷ []) ≡ Some s
unfolding last_section
last_section-push (t ∷ u ∷ ss) s = last_section-push (u ∷ ss) s
last_section-push xs s = refl

abbrev pub with_data_line : List (List ℕ) → Section → Section
with_data_line words s = record s { rows = s.rows ++ words ∷ [] }

pub last_section-extended : (ss : List Section) (words : List (List ℕ)) → last_section (extended ss words) ≡ option_map (with_data_line words) (last_section ss)
unfolding last_section extended
last_section-extended [] words = refl
last_section-extended (s ∷ []) words = refl
last_section-extended (s ∷ t ∷ []) words = refl
last_section-extended (s ∷ t ∷ u ∷ ss) words = last_section-extended (t ∷ u ∷ ss) words

pub keywords-extended : (ss : List Section) (words : List (List ℕ)) → map (λ (s : Section). s.keyword) (extended ss words) ≡ map (λ (s : Section). s.keyword) ss
unfolding extended
keywords-extended (s ∷ t ∷ ss) words = ap (λ ks. s.keyword ∷ ks) (keywords-extended (t ∷ ss) words)
keywords-extended xs words = refl

pub last_of-keywords : (ss : List Section) → last_of (map (λ (s : Section). s.keyword) ss) ≡ option_map (λ (s : Section). s.keyword) (last_section ss)
unfolding last_of last_section
last_of-keywords (s ∷ t ∷ ss) = last_of-keywords (t ∷ ss)
last_of-keywords xs = refl
