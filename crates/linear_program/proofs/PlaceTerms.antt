-- The terms of places, and lists of terms that are one.
use Rattle.std.proofs.Common.{◌≡◌, ◌≢◌, ℕ, zero, suc, ◌+◌, ◌<◌, ◌≤◌, ⊎_elim, ◌∙◌, sym, ap, ap₂, refl, subst, arith}
use Rattle.std.proofs.Common.{Bool, true, false, if◌then◌else◌, Result, Ok, Err, OnErr, List, [], ◌∷◌, drop, length}
use Rattle.std.proofs.Common.{get_or, drop-cons}
use Rattle.std.proofs.lemmas.Bool.{cases_lt}
use Rattle.exact_numbers.specs.declared.frac.Frac.{Frac}
use Rattle.exact_numbers.specs.Values.{frac_value}
use Rattle.exact_numbers.specs.Rational.{zero_ℚ}
use Rattle.exact_numbers.proofs.RationalLaws.{zero-is_zero}
use Rattle.linear_program.specs.Lines.{Line, is_zero}
use Rattle.linear_program.proofs.LineLemmas.{is_zero-true, is_zero-false}
use Rattle.linear_program.specs.Coefs.{Term, value_or_zero, coef_in, AreAscending}
use Rattle.linear_program.specs.Places.{place_in, terms_from}
use Rattle.linear_program.specs.Forms.{parts_line, sum_line}
use Rattle.linear_program.specs.declared.sum.Sum.{Sum}
use Rattle.linear_program.proofs.Scaled.{same_line}
use Rattle.linear_program.proofs.CoefLemmas.{ascending_from, found_same, found_apart, found_before}
use Rattle.linear_program.proofs.DecimalLemmas.{same_frac}

-- a place that holds 0 has no term, and any other has one
pub no_term : (n : ℕ) (p : Frac) (ps : List Frac) → frac_value p ≡ zero_ℚ → terms_from n (p ∷ ps) ≡ terms_from (suc n) ps
no_term n p ps z = ap (λ b. if b then terms_from (suc n) ps else (n, p) ∷ terms_from (suc n) ps) (zero-is_zero (frac_value p) z)

pub one_term : (n : ℕ) (p : Frac) (ps : List Frac) → frac_value p ≢ zero_ℚ → terms_from n (p ∷ ps) ≡ (n, p) ∷ terms_from (suc n) ps
one_term n p ps live = by (is_zero (frac_value p)) refl
  where
    by : (b : Bool) → is_zero (frac_value p) ≡ b → (if b then terms_from (suc n) ps else (n, p) ∷ terms_from (suc n) ps) ≡ (n, p) ∷ terms_from (suc n) ps
    by true e = absurd (live (is_zero-true (frac_value p) e))
    by false e = refl

-- they ascend
pub terms_ascend : (n : ℕ) (ps : List Frac) → AreAscending n (terms_from n ps)
terms_ascend n [] = tt
terms_ascend n (p ∷ ps) = by (is_zero (frac_value p)) refl (terms_ascend (suc n) ps)
  where
    by : (b : Bool) → is_zero (frac_value p) ≡ b → AreAscending (suc n) (terms_from (suc n) ps) → AreAscending n (if b then terms_from (suc n) ps else (n, p) ∷ terms_from (suc n) ps)
    by true e later = ascending_from n (suc n) (terms_from (suc n) ps) (omega arith) later
    by false e later = (omega arith, is_zero-false (frac_value p) e, later)

-- and have the coefficients of the places
first_place : (n : ℕ) (p : Frac) (ts : List Term) (k : ℕ) → k ≡ n → AreAscending (suc n) ts → (b : Bool) → is_zero (frac_value p) ≡ b → coef_in (if b then ts else (n, p) ∷ ts) k ≡ frac_value p
first_place n p ts k e a true z = ap value_or_zero (found_before (suc n) ts k a (omega (arith, e))) ∙ sym (is_zero-true (frac_value p) z)
first_place n p ts k e a false z = ap value_or_zero (found_same (n, p) ts k e)

other_place : (n : ℕ) (p : Frac) (ts : List Term) (k : ℕ) → k ≢ n → (b : Bool) → coef_in (if b then ts else (n, p) ∷ ts) k ≡ coef_in ts k
other_place n p ts k m true = refl
other_place n p ts k m false = ap value_or_zero (found_apart (n, p) ts k m)

places_from : (n : ℕ) (ps : List Frac) (j k : ℕ) → k ≡ n + j → coef_in (terms_from n ps) k ≡ place_in ps j
places_from n [] j k e = refl
places_from n (p ∷ ps) zero k e = first_place n p (terms_from (suc n) ps) k (omega (arith, e)) (terms_ascend (suc n) ps) (is_zero (frac_value p)) refl
places_from n (p ∷ ps) (suc j) k e = other_place n p (terms_from (suc n) ps) k (λ same. omega (arith, e, same)) (is_zero (frac_value p)) ∙ places_from (suc n) ps j k (omega (arith, e))

pub terms_coef : (ps : List Frac) (j : ℕ) → coef_in (terms_from 0 ps) j ≡ place_in ps j
terms_coef ps j = places_from 0 ps j j (omega arith)

-- ---- ascending lists of the same coefficients are one list
pub coef_there : (t : Term) (ts : List Term) → coef_in (t ∷ ts) t.0 ≡ frac_value t.1
coef_there t ts = ap value_or_zero (found_same t ts t.0 refl)

pub same_terms : (n : ℕ) (xs ys : List Term) → AreAscending n xs → AreAscending n ys → ((j : ℕ) → coef_in xs j ≡ coef_in ys j) → xs ≡ ys
same_terms n [] [] a b h = refl
same_terms n [] (y ∷ ys) a b h = absurd (b.1 (sym (coef_there y ys) ∙ sym (h y.0)))
same_terms n (x ∷ xs) [] a b h = absurd (a.1 (sym (coef_there x xs) ∙ h x.0))
same_terms n (x ∷ xs) (y ∷ ys) a b h =
    let first_apart : (s t : Term) (ss ts : List Term) → AreAscending n (s ∷ ss) → AreAscending n (t ∷ ts)
    → coef_in (s ∷ ss) s.0 ≡ coef_in (t ∷ ts) s.0 → s.0 < t.0 → ⊥ =
    λ s t ss ts u v e l. u.1 (sym (coef_there s ss) ∙ e ∙ ap value_or_zero
    (found_before t.0 (t ∷ ts) s.0 (omega arith, v.1, v.2) l)) in
    let key : x.0 ≡ y.0 = ⊎_elim (λ (l : x.0 < y.0). absurd (first_apart x y xs ys a b (h x.0) l))
    (λ (g : y.0 ≤ x.0). ⊎_elim (λ (l : y.0 < x.0). absurd (first_apart y x ys xs b a (sym (h y.0)) l))
    (λ (m : x.0 ≤ y.0). omega arith) (cases_lt y.0 x.0)) (cases_lt x.0 y.0) in
    let value : x.1 ≡ y.1 = same_frac x.1 y.1 (sym (coef_there x xs) ∙ h x.0 ∙ ap (coef_in (y ∷ ys)) key ∙ coef_there y ys) in
    let rest = same_terms (suc x.0) xs ys a.2 (subst (λ k. AreAscending (suc k) ys) (sym key) b.2)
    (λ j.
    ⊎_elim
    (λ (l : j < suc x.0). ap value_or_zero (found_before (suc x.0) xs j a.2 l ∙ sym (found_before (suc y.0) ys j b.2 (subst (λ k. j < suc k) key l))))
    (λ (g : suc x.0 ≤ j).
    ap value_or_zero (sym (found_apart x xs j (λ e. omega arith))) ∙ h j ∙ ap value_or_zero (found_apart y ys j (λ e. (let k = key in omega arith))))
    (cases_lt j (suc x.0))) in
    ap₂ ◌∷◌ (λ i. (key i, value i)) rest

-- ---- an open form
pub no_terms : (ps : List Frac) → ((j : ℕ) → place_in ps j ≡ zero_ℚ) → terms_from 0 ps ≡ []
no_terms ps z = same_terms 0 (terms_from 0 ps) [] (terms_ascend 0 ps) tt (λ j. terms_coef ps j ∙ z j)

pub open_line : (s : Sum) → parts_line (frac_value s.constant) (terms_from 0 s.accumulator.value) ≡ sum_line s
open_line s = same_line (parts_line (frac_value s.constant) (terms_from 0 s.accumulator.value)) (sum_line s) refl (terms_coef s.accumulator.value)

pub lines_after : {A E : Type 0} (s : Sum) (r : Result A E) (l : Line) → OnErr r (sum_line s ≡ l) → OnErr r (parts_line (frac_value s.constant) (terms_from 0 s.accumulator.value) ≡ l)
lines_after s (Ok a) l h = tt
lines_after s (Err e) l h = open_line s ∙ h

-- ---- from a place on
pub none_from : (ps : List Frac) (i : ℕ) → length ps ≤ i → terms_from i (drop i ps) ≡ []
none_from ps i h = ap (terms_from i) (none_left ps i h)
  where
    none_left : (xs : List Frac) (q : ℕ) → length xs ≤ q → drop q xs ≡ []
    none_left [] zero h = refl
    none_left [] (suc q) h = refl
    none_left (x ∷ xs) zero h = absurd (omega arith)
    none_left (x ∷ xs) (suc q) h = none_left xs q (omega arith)

module _ (ps now : List Frac) (view : ps ≡ now) (i : ℕ) (p : Frac) (within : i < length ps) (is : p ≡ get_or ps i p) where
  at_place : drop i now ≡ p ∷ drop (i + 1) now
  at_place =
      let next : suc i ≡ i + 1 = omega arith in
      ap (drop i) (sym view) ∙ drop-cons ps i p within ∙ ap₂ ◌∷◌ (sym is) (ap (λ k. drop k ps) next ∙ ap (drop (i + 1)) view)

  pub term_here : frac_value p ≢ zero_ℚ → terms_from i (drop i now) ≡ (i, p) ∷ terms_from (i + 1) (drop (i + 1) now)
  term_here live =
      let next : suc i ≡ i + 1 = omega arith in
      ap (terms_from i) at_place ∙ one_term i p (drop (i + 1) now) live ∙ ap (λ k. (i, p) ∷ terms_from k (drop (i + 1) now)) next

  pub no_term_here : frac_value p ≡ zero_ℚ → terms_from (i + 1) (drop (i + 1) now) ≡ terms_from i (drop i now)
  no_term_here z =
      let next : suc i ≡ i + 1 = omega arith in
      ap (λ k. terms_from k (drop (i + 1) now)) (sym next) ∙ sym (ap (terms_from i) at_place ∙ no_term i p (drop (i + 1) now) z)
