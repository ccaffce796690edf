-- All places, where none may be held.
use Rattle.std.proofs.Common.{◌≡◌, ℕ, zero, suc, ◌∙◌, sym, refl, subst, arith, List, [], ◌∷◌, length, replicate}
use Rattle.exact_numbers.specs.declared.frac.Frac.{Frac}
use Rattle.exact_numbers.specs.Values.{frac_value}
use Rattle.exact_numbers.specs.Rational.{zero_ℚ}
use Rattle.linear_program.specs.Coefs.{Term}
use Rattle.linear_program.specs.Places.{place_in, terms_from, all_places, put_all, AreZeros}
use Rattle.linear_program.proofs.PlaceTerms.{no_terms}

pub empty_zeros : (n : ℕ) (z : Frac) → frac_value z ≡ zero_ℚ → AreZeros (replicate n z)
empty_zeros zero z e j = refl
empty_zeros (suc n) z e zero = e
empty_zeros (suc n) z e (suc j) = empty_zeros n z e j

module _ (n : ℕ) (z : Frac) where
  -- a place that is not held is 0
  pub all_place : frac_value z ≡ zero_ℚ → (ps : List Frac) (j : ℕ) → place_in ps j ≡ place_in (all_places n z ps) j
  all_place e [] j = sym (empty_zeros n z e j)
  all_place e (p ∷ ps) j = refl

  pub all_zeros : frac_value z ≡ zero_ℚ → (ps : List Frac) → AreZeros ps → AreZeros (all_places n z ps)
  all_zeros e ps zeros j = sym (all_place e ps j) ∙ zeros j

  pub emptied : frac_value z ≡ zero_ℚ → (ps : List Frac) (ts : List Term) → ts ≡ [] → AreZeros ps → AreZeros (put_all ts (all_places n z ps))
  emptied e ps ts none zeros = subst (λ l. AreZeros (put_all l (all_places n z ps))) (sym none) (all_zeros e ps zeros)

  pub all_terms : frac_value z ≡ zero_ℚ → (ps : List Frac) → terms_from 0 ps ≡ terms_from 0 (all_places n z ps)
  all_terms e [] = sym (no_terms (replicate n z) (empty_zeros n z e))
  all_terms e (p ∷ ps) = refl

  -- as many are held: as many there are
  pub as_many : (ps qs : List Frac) → length ps ≡ length qs → length (all_places n z ps) ≡ length (all_places n z qs)
  as_many [] [] e = refl
  as_many [] (q ∷ qs) e = absurd (omega (arith, e))
  as_many (p ∷ ps) [] e = absurd (omega (arith, e))
  as_many (p ∷ ps) (q ∷ qs) e = e
