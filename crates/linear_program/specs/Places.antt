-- A place for each variable, which holds its coefficient.
use Rattle.std.specs.Prelude.{◌≡◌, ◌≢◌, ℕ, zero, suc, ◌<◌, ◌^◌, if◌then◌else◌, List, [], ◌∷◌, length, replicate, slice_set}
use Rattle.std.specs.List.{Contains}
use Rattle.exact_numbers.specs.declared.frac.Frac.{Frac}
use Rattle.exact_numbers.specs.Values.{frac_value}
use Rattle.exact_numbers.specs.Rational.{ℚ, zero_ℚ}
use Rattle.linear_program.specs.Lines.{is_zero}
use Rattle.linear_program.specs.Coefs.{Term, AreBelow}

-- the coefficient at place j; 0 where there is no such place
abbrev pub place_in : List Frac → ℕ → ℚ
place_in [] j = zero_ℚ
place_in (p ∷ ps) zero = frac_value p
place_in (p ∷ ps) (suc j) = place_in ps j

-- the terms of the places that hold anything but 0, in order; the first place has the number n
abbrev pub terms_from : ℕ → List Frac → List Term
terms_from n [] = []
terms_from n (p ∷ ps) =
    (if is_zero (frac_value p) then terms_from (suc n) ps else (n, p) ∷ terms_from (suc n) ps)

-- no place holds anything but 0
abbrev pub AreZeros : List Frac → Type 0
AreZeros ps = (j : ℕ) → place_in ps j ≡ zero_ℚ

-- every place that holds anything but 0 is among the touched ones, which are all there; each place
-- has the number of a variable
pub record AreMarked (ps : List Frac) (touched : List ℕ) : Type 0 where
  pub among : (j : ℕ) → place_in ps j ≢ zero_ℚ → Contains touched j
  pub there : (j : ℕ) → Contains touched j → j < length ps
  pub few : length ps < 2 ^ 32

-- the places with the terms of a list put at theirs
abbrev pub put_all : List Term → List Frac → List Frac
put_all [] ps = ps
put_all (t ∷ ts) ps = put_all ts (slice_set ps t.0 t.1)

-- the places that are held; where there are none n places, each of which holds this number
abbrev pub all_places : ℕ → Frac → List Frac → List Frac
all_places n empty [] = replicate n empty
all_places n empty (p ∷ ps) = p ∷ ps

-- each listed term has a place, where anything is listed no place holds anything but 0, and what
-- is not held is 0
pub record AreListed (n : ℕ) (empty : Frac) (ps : List Frac) (ts : List Term) : Type 0 where
  pub below : AreBelow (length (all_places n empty ps)) ts
  pub zeros : ts ≢ [] → AreZeros ps
  pub absent : frac_value empty ≡ zero_ℚ
