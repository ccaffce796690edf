-- Places at which listed terms are put.
use Rattle.std.proofs.Common.{◌≡◌, ◌≢◌, ℕ, zero, suc, ◌<◌, ◌∙◌, sym, ap, refl, subst, arith, ⊎_elim, ◌==◌, true, false, None, Some, List, [], ◌∷◌, ◌++◌, length, slice_set}
use Rattle.std.proofs.lemmas.Bool.{cases_eq, eqb-true}
use Rattle.std.proofs.lemmas.List.{length-set}
use Rattle.exact_numbers.specs.declared.frac.Frac.{Frac}
use Rattle.exact_numbers.specs.Values.{frac_value}
use Rattle.exact_numbers.proofs.Zeros.{zero_first, zero_second}
use Rattle.exact_numbers.specs.Fits.{sum_fits}
use Rattle.exact_numbers.specs.Rational.{ℚ, zero_ℚ, ◌+ℚ◌, ◌*ℚ◌}
use Rattle.linear_program.specs.Lines.{one_if}
use Rattle.linear_program.specs.Coefs.{Term, found, coef_in, value_or_zero, AreAscending, AreBelow}
use Rattle.linear_program.specs.Places.{place_in, put_all, AreZeros}
use Rattle.linear_program.proofs.CoefLemmas.{found_same, found_apart, found_before, found_beyond, adds_at}
use Rattle.linear_program.proofs.PlaceLemmas.{place_set_same, place_set_other}

pub put_length : (ts : List Term) (ps : List Frac) → length (put_all ts ps) ≡ length ps
put_length [] ps = refl
put_length (t ∷ ts) ps = put_length ts (slice_set ps t.0 t.1) ∙ length-set ps t.0 t.1

pub put_append : (ts : List Term) (t : Term) (ps : List Frac) → put_all (ts ++ t ∷ []) ps ≡ slice_set (put_all ts ps) t.0 t.1
put_append [] t ps = refl
put_append (s ∷ ts) t ps = put_append ts t (slice_set ps s.0 s.1)

-- a place of which there is no term
pub put_elsewhere : (ts : List Term) (ps : List Frac) (j : ℕ) → found ts j ≡ None → place_in (put_all ts ps) j ≡ place_in ps j
put_elsewhere [] ps j e = refl
put_elsewhere (t ∷ ts) ps j e =
    ⊎_elim
    (λ (same : j ≡ t.0). absurd (some_none t.1 (sym (found_same t ts j same) ∙ e)))
    (λ (apart : j ≢ t.0). put_elsewhere ts (slice_set ps t.0 t.1) j (sym (found_apart t ts j apart) ∙ e) ∙ place_set_other ps t.0 t.1 j apart)
    (cases_eq j t.0)
  where
    some_none : (f : Frac) → Some f ≡ None → ⊥
    some_none f same = cc

-- terms that ascend are the coefficients at places that held 0
pub put_coef : (n : ℕ) (ts : List Term) (ps : List Frac) (j : ℕ) → AreAscending n ts → AreBelow (length ps) ts → place_in ps j ≡ zero_ℚ → coef_in ts j ≡ place_in (put_all ts ps) j
put_coef n [] ps j a b z = sym z
put_coef n (t ∷ ts) ps j a b z =
    let now = slice_set ps t.0 t.1 in
    ⊎_elim
    (λ (same : j ≡ t.0).
    ap value_or_zero (found_same t ts j same) ∙ sym (put_elsewhere ts now j (found_before (suc t.0) ts j a.2 (omega arith)) ∙ ap (place_in now) same ∙ place_set_same ps t.0 t.1 b.0))
    (λ (apart : j ≢ t.0).
    ap value_or_zero (found_apart t ts j apart) ∙ put_coef (suc t.0) ts now j a.2 (subst (λ m. AreBelow m ts) (sym (length-set ps t.0 t.1)) b.1) (place_set_other ps t.0 t.1 j apart ∙ z))
    (cases_eq j t.0)

module _ (ps : List Frac) (ts : List Term) (v : ℕ) (f : Frac) (within : v < length ps) (last : AreBelow v ts) (zeros : AreZeros ps) where
  held_zero : place_in (put_all ts ps) v ≡ zero_ℚ
  held_zero = put_elsewhere ts ps v (found_beyond v ts v last (omega arith)) ∙ zeros v

  pub listed_fits : sum_fits (place_in (put_all ts ps) v) (frac_value f) ≡ true
  listed_fits = (zero_first (place_in (put_all ts ps) v) f held_zero).0

  pub listed_adds : (i : ℕ) → place_in (put_all (ts ++ (v, f) ∷ []) ps) i ≡ place_in (put_all ts ps) i +ℚ frac_value f *ℚ one_if (i == v)
  listed_adds =
      let old = put_all ts ps in
      let new = put_all (ts ++ (v, f) ∷ []) ps in
      let is = put_append ts (v, f) ps in
      adds_at (place_in old) (place_in new) v (frac_value f)
      (ap (λ l. place_in l v) is ∙ place_set_same old v f (let same = put_length ts ps in omega arith) ∙ (zero_first (place_in old v) f held_zero).1)
      (λ i n. ap (λ l. place_in l i) is ∙ place_set_other old v f i n)

-- 0 can be added anywhere
pub zero_fits : (ps : List Frac) (i : ℕ) (k : ℚ) → i < length ps → k ≡ zero_ℚ → sum_fits (place_in ps i) k ≡ true
zero_fits [] i k h e = absurd (omega arith)
zero_fits (p ∷ ps) zero k h e = (zero_second p k e).0
zero_fits (p ∷ ps) (suc i) k h e = zero_fits ps i k (omega arith) e

-- where nothing is put and something is, by the length of the list
pub none_there : (ts : List Term) → true ≡ (length ts == 0) → ts ≡ []
none_there [] e = refl
none_there (t ∷ ts) e = absurd (let h : length (t ∷ ts) ≡ 0 = eqb-true (length (t ∷ ts)) 0 (sym e) in omega (arith, h))

pub some_there : (ts : List Term) → false ≡ (length ts == 0) → ts ≢ []
some_there ts e none = let is : (length ts == 0) ≡ true = ap (λ l. length l == 0) none in (let clash : false ≡ true = e ∙ is in cc)
