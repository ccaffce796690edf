-- An entry of a row is counted once: sums over the constraints.
use Rattle.std.proofs.Common.{◌≡◌, ℕ, zero, suc, ◌+◌, ◌<◌, ◌≤◌, ◌∙◌, sym, ap, refl, arith, Bool, true, false, nat_eq, ◌&&◌, if◌then◌else◌, List, [], ◌∷◌, length, Some, None, ⊎_elim}
use Rattle.std.proofs.lemmas.Bool.{cases_lt, eqb-true, eq-eqb, ne_eqb}
use Rattle.std.proofs.lemmas.List.{get_or_past}
use Rattle.std.proofs.lemmas.List.Sums.{sum_by-cons, sum_by-append}
use Rattle.std.specs.List.{sum_by, cons_option}
use Rattle.linear_program.specs.Decimals.{DecimalTerm}
use Rattle.mps_model.specs.Mps.{MpsRow, no_mps_row}
use Rattle.mps_program.specs.Places.{places, one_if}
use Rattle.mps_program.specs.Program.{is_bounded_kind, is_constraint, constraints}
use Rattle.mps_program.proofs.PlaceLemmas.{one_where}

-- ---- sums
module _ {A : Type 0} where
  pub sum_more : (f g h : A → ℕ) → ((x : A) → f x ≡ g x + h x) → (xs : List A) → sum_by f xs ≡ sum_by g xs + sum_by h xs
  sum_more f g h e [] = refl
  sum_more f g h e (x ∷ xs) = sum_by-cons f x xs ∙ omega (arith, e x, sum_more f g h e xs, sum_by-cons g x xs, sum_by-cons h x xs)

  pub sum_none : (f : A → ℕ) → ((x : A) → f x ≡ 0) → (xs : List A) → sum_by f xs ≡ 0
  sum_none f e [] = refl
  sum_none f e (x ∷ xs) = sum_by-cons f x xs ∙ omega (arith, e x, sum_none f e xs)

-- a row that passes is counted once
module _ (test : ℕ → Bool) (r : ℕ) (z : Bool) where
  abbrev hit : ℕ → ℕ
  hit i = one_if (nat_eq r i && z)

  none_below : (n : ℕ) → n ≤ r → sum_by hit (places test n) ≡ 0
  unfolding places
  none_below zero le = refl
  none_below (suc n) le = sum_by-append hit (places test n) (one_where (test n) n) ∙ omega (arith, none_below n (omega (arith, le)), here (test n))
    where
      here : (b : Bool) → sum_by hit (one_where b n) ≡ 0
      here true = ap (λ t. 0 + one_if (t && z)) (ne_eqb r n (λ same. omega (arith, same, le)))
      here false = refl

  counted_once : (n : ℕ) → r < n → sum_by hit (places test n) ≡ one_if (test r && z)
  unfolding places
  counted_once zero lt = absurd (omega arith)
  counted_once (suc n) lt =
      sum_by-append hit (places test n) (one_where (test n) n)
      ∙ ⊎_elim
      (λ (below : r < n). omega (arith, counted_once n below, past (test n) (nat_eq r n) refl below))
      (λ (above : n ≤ r). let same : r ≡ n = omega (arith, above, lt) in omega (arith, none_below n above, here same (test n) z refl refl))
      (cases_lt r n)
    where
      past : (b t : Bool) → nat_eq r n ≡ t → r < n → sum_by hit (one_where b n) ≡ 0
      past true true e below = absurd (omega (arith, eqb-true r n e, below))
      past true false e below = ap (λ t. 0 + one_if (t && z)) e
      past false t e below = refl

      here : r ≡ n → (b y : Bool) → test n ≡ b → z ≡ y → sum_by hit (one_where b n) ≡ one_if (test r && z)
      here same true y e f = ap (λ t. 0 + one_if (t && z)) (eq-eqb r n same) ∙ one_zero z ∙ ap (λ t. one_if (t && z)) (sym (ap test same ∙ e))
        where
          one_zero : (y : Bool) → 0 + one_if y ≡ one_if y
          one_zero true = refl
          one_zero false = refl
      here same false y e f = ap (λ t. one_if (t && z)) (sym (ap test same ∙ e))

pub term_more : (t : DecimalTerm) (b : Bool) (tail : List DecimalTerm) → length (cons_option (if b then Some t else None) tail) ≡ one_if b + length tail
term_more t true tail = omega arith
term_more t false tail = omega arith

module _ (rows : List MpsRow) where
  abbrev test : ℕ → Bool
  test = is_constraint rows

  pub past_rows : (r : ℕ) → length rows ≤ r → test r ≡ false
  past_rows r h = ap (λ (x : MpsRow). is_bounded_kind x.kind) (get_or_past rows r no_mps_row h)

  pub once_or_not : (r : ℕ) (z : Bool) → sum_by (λ i. one_if (nat_eq r i && z)) (constraints rows) ≡ one_if (test r && z)
  unfolding constraints
  once_or_not r z =
      ⊎_elim
      (λ (lt : r < length rows). counted_once test r z (length rows) lt)
      (λ (ge : length rows ≤ r). none_below test r z (length rows) ge ∙ ap (λ b. one_if (b && z)) (sym (past_rows r ge)))
      (cases_lt r (length rows))
