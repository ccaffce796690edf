-- What the rows so far of an instance keep.
use Rattle.std.proofs.Common.{◌≡◌, ◌∙◌, ℕ, zero, suc, ◌+◌, ◌<◌, ◌≤◌, ◌==◌, true, false, [], ◌++◌, map, length, replicate, inl, inr, ◌⊎◌, refl, ap, ap₂, arith}
use Rattle.std.specs.List.{range_with_len}
use Rattle.std.proofs.lemmas.Bool.{cases_order, eq-eqb, ne_eqb, or_from, or_left, or_right}
use Rattle.std.proofs.lemmas.List.Folds.{sum_by-replicate}
use Rattle.std.proofs.lemmas.List.Sums.{sum_by-append, sum_by-cons}
use Rattle.nl_model.specs.Rules.{is_defined, term_count}
use Rattle.bridge_tool.specs.Instance.{each, definition_of, terms_of}

pub not_defined : (seed n a m i : ℕ) → n + a + m ≤ i → is_defined (map (definition_of seed n) (range_with_len a m)) i ≡ false
not_defined seed n a zero i le = refl
not_defined seed n a (suc m) i le =
    or_from (n + a == i) _ (ne_eqb (n + a) i (λ e. absurd (omega (arith, e, le)))) (not_defined seed n (a + 1) m i (omega (arith, le)))

pub is_one : (seed n a m j : ℕ) → a ≤ j → j < a + m → is_defined (map (definition_of seed n) (range_with_len a m)) (n + j) ≡ true
is_one seed n a zero j from below = absurd (omega (arith, from, below))
is_one seed n a (suc m) j from below = by (cases_order a j) (λ lt. is_one seed n (a + 1) m j (omega (arith, lt)) (omega (arith, below)))
  where
    by : (a ≡ j) ⊎ (a < j) ⊎ (j < a) → (a < j → is_defined (map (definition_of seed n) (range_with_len (a + 1) m)) (n + j) ≡ true)
        → is_defined (map (definition_of seed n) (range_with_len a (suc m))) (n + j) ≡ true
    by (inl e) more = or_left (n + a == n + j) _ (eq-eqb (n + a) (n + j) (ap (λ i. n + i) e))
    by (inr (inl lt)) more = or_right (n + a == n + j) _ (more lt)
    by (inr (inr lt)) more = absurd (omega (arith, lt, from))

rows_of_one : (seed a m : ℕ) → term_count (map (terms_of seed) (range_with_len a m)) ≡ m
rows_of_one seed a zero = refl
rows_of_one seed a (suc m) = sum_by-cons length (terms_of seed a) (map (terms_of seed) (range_with_len (a + 1) m)) ∙ ap (λ n. 1 + n) (rows_of_one seed (a + 1) m) ∙ omega arith

pub terms_so_far : (seed k n : ℕ) → term_count (each k (terms_of seed) ++ replicate n []) ≡ k
terms_so_far seed k n =
    sum_by-append length (each k (terms_of seed)) (replicate n [])
    ∙ ap₂ (λ a b. a + b) (rows_of_one seed 0 k) (sum_by-replicate length n [])
    ∙ omega arith
