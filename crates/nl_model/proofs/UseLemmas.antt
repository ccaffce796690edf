-- How many terms have a variable below another, or up to it, and how many have it.
use Rattle.std.proofs.Common.{◌≡◌, ◌∙◌, ℕ, suc, ◌+◌, ◌≤◌, Bool, true, false, ◌==◌, List, [], ◌∷◌, ◌++◌, length, filter, drop, take, sum_by, nat_le, nat_lt, refl, sym, ap, ap₂, arith, drop-cons, Some}
use Rattle.std.proofs.lemmas.Bool.Decides.{nat_tests}
use Rattle.std.specs.List.{slice_get}
use Rattle.std.proofs.lemmas.Option.{slice_get_within, get_or_from_slice_get}
use Rattle.std.proofs.lemmas.List.{take_more, take-append-drop}
use Rattle.std.proofs.lemmas.List.Sums.{sum_by-cons, sum_by-append}
use Rattle.nl_model.specs.File.{Term}
use Rattle.nl_model.specs.Rules.{term_count}
use Rattle.nl_model.specs.UseCounts.{uses_in, use_count, terms_up_to}

-- how many terms have a variable below j
abbrev pub below : List (List Term) → ℕ → ℕ
below rows j = sum_by (λ terms. length (filter (λ t. nat_lt t.0 j) terms)) rows

split_row : (ts : List Term) (j : ℕ) → length (filter (λ t. nat_le t.0 j) ts) ≡ length (filter (λ t. nat_lt t.0 j) ts) + uses_in ts j
split_row [] j = refl
split_row (t ∷ ts) j = by (nat_lt t.0 j) (t.0 == j) refl refl (split_row ts j)
  where
    by : (l e : Bool) → nat_lt t.0 j ≡ l → (t.0 == j) ≡ e → length (filter (λ t. nat_le t.0 j) ts) ≡ length (filter (λ t. nat_lt t.0 j) ts) + uses_in ts j
        → length (filter (λ t. nat_le t.0 j) (t ∷ ts)) ≡ length (filter (λ t. nat_lt t.0 j) (t ∷ ts)) + uses_in (t ∷ ts) j
    by true true p q more = absurd (grind (arith, nat_tests))
    by true false p q more = let r : nat_le t.0 j ≡ true = grind (arith, nat_tests) in rw (p, q, r) (omega (arith, more))
    by false true p q more = let r : nat_le t.0 j ≡ true = grind (arith, nat_tests) in rw (p, q, r) (omega (arith, more))
    by false false p q more = let r : nat_le t.0 j ≡ false = grind (arith, nat_tests) in rw (p, q, r) more

pub split_rows : (rows : List (List Term)) (j : ℕ) → terms_up_to rows j ≡ below rows j + use_count rows j
split_rows [] j = refl
split_rows (ts ∷ rows) j = rw (
  sum_by-cons (λ terms. length (filter (λ t. nat_le t.0 j) terms)) ts rows,
  sum_by-cons (λ terms. length (filter (λ t. nat_lt t.0 j) terms)) ts rows,
  sum_by-cons (λ terms. uses_in terms j) ts rows,
) (let a = split_row ts j in let b = split_rows rows j in omega arith)

next_test : (x j : ℕ) → nat_lt x (j + 1) ≡ nat_le x j
next_test x j = grind (arith, nat_tests)

next_row : (ts : List Term) (j : ℕ) → length (filter (λ t. nat_lt t.0 (j + 1)) ts) ≡ length (filter (λ t. nat_le t.0 j) ts)
next_row [] j = refl
next_row (t ∷ ts) j = by (nat_le t.0 j) refl (next_row ts j)
  where
    by : (l : Bool) → nat_le t.0 j ≡ l → length (filter (λ t. nat_lt t.0 (j + 1)) ts)
        ≡ length (filter (λ t. nat_le t.0 j) ts) → length (filter (λ t. nat_lt t.0 (j + 1)) (t ∷ ts))
        ≡ length (filter (λ t. nat_le t.0 j) (t ∷ ts))
    by true p more = let q : nat_lt t.0 (j + 1) ≡ true = next_test t.0 j ∙ p in rw (p, q) (ap suc more)
    by false p more = let q : nat_lt t.0 (j + 1) ≡ false = next_test t.0 j ∙ p in rw (p, q) more

pub next_rows : (rows : List (List Term)) (j : ℕ) → below rows (j + 1) ≡ terms_up_to rows j
next_rows [] j = refl
next_rows (ts ∷ rows) j = rw (
  sum_by-cons (λ terms. length (filter (λ t. nat_lt t.0 (j + 1)) terms)) ts rows,
  sum_by-cons (λ terms. length (filter (λ t. nat_le t.0 j) terms)) ts rows,
)
    (ap₂ (λ a b. a + b) (next_row ts j) (next_rows rows j))

none_below : (ts : List Term) → length (filter (λ t. nat_lt t.0 0) ts) ≡ 0
none_below [] = refl
none_below (t ∷ ts) = let q : nat_lt t.0 0 ≡ false = grind (arith, nat_tests) in rw q (none_below ts)

pub nothing_below : (rows : List (List Term)) → below rows 0 ≡ 0
nothing_below [] = refl
nothing_below (ts ∷ rows) = rw (sum_by-cons (λ terms. length (filter (λ t. nat_lt t.0 0) terms)) ts rows) (let a = none_below ts in let b = nothing_below rows in omega arith)

-- ---- uses within some rows

pub uses_in-most : (ts : List Term) (j : ℕ) → uses_in ts j ≤ length ts
uses_in-most [] j = omega arith
uses_in-most (t ∷ ts) j = by (t.0 == j) refl (uses_in-most ts j)
  where
    by : (b : Bool) → (t.0 == j) ≡ b → uses_in ts j ≤ length ts → uses_in (t ∷ ts) j ≤ length (t ∷ ts)
    by true p more = rw p (omega (arith, more))
    by false p more = rw p (omega (arith, more))

pub use_count-more : (rows : List (List Term)) (i j : ℕ) (row : List Term) → slice_get rows i ≡ Some row → use_count (take (i + 1) rows) j ≡ use_count (take i rows) j + uses_in row j
use_count-more rows i j row at =
    let inside = slice_get_within rows i row at in
    let split : take (i + 1) rows ≡ take i rows ++ row ∷ [] = take_more rows i row inside ∙ ap (λ r. take i rows ++ r ∷ []) (get_or_from_slice_get rows i row row at) in
    ap (λ rs. use_count rs j) split ∙ sum_by-append (λ terms. uses_in terms j) (take i rows) (row ∷ []) ∙ omega arith

pub use_count-most : (rows : List (List Term)) (j : ℕ) → use_count rows j ≤ term_count rows
use_count-most [] j = omega arith
use_count-most (ts ∷ rows) j =
    let a = uses_in-most ts j in
    let b = use_count-most rows j in
    rw (sum_by-cons (λ terms. uses_in terms j) ts rows, sum_by-cons (length {A = Term}) ts rows) (omega arith)

-- there is room for the terms of one more row
pub row_room : (rows : List (List Term)) (i j : ℕ) (row : List Term) → slice_get rows i ≡ Some row → use_count (take i rows) j + length row ≤ term_count rows
row_room rows i j row at =
    let inside = slice_get_within rows i row at in
    let split : drop i rows ≡ row ∷ drop (suc i) rows = drop-cons rows i row inside ∙ ap (λ r. r ∷ drop (suc i) rows) (get_or_from_slice_get rows i row row at) in
    let whole : term_count (take i rows) + term_count (drop i rows) ≡ term_count rows = sym (sum_by-append (length {A = Term}) (take i rows) (drop i rows)) ∙ ap term_count (take-append-drop i rows) in
    let rest : term_count (drop i rows) ≡ length row + term_count (drop (suc i) rows) = ap term_count split ∙ sum_by-cons (length {A = Term}) row (drop (suc i) rows) in
    let front = use_count-most (take i rows) j in
    omega arith
