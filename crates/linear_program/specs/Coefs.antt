-- Lists of terms, and the coefficients that they give.
use Rattle.std.specs.Prelude.{◌≡◌, ◌≢◌, ℕ, suc, ◌==◌, ◌<◌, ◌≤◌, List, [], ◌∷◌, Option, Some, None, Result, Ok, Err, true, false, if◌then◌else◌, ◌⊎◌}
use Rattle.text_base.specs.declared.stop.Stop.{Stop}
use Rattle.text_base.specs.declared.stop.Stop.TheVariants.{Fault, Memory}
use Rattle.exact_numbers.specs.declared.dec.Dec.{Dec}
use Rattle.exact_numbers.specs.declared.frac.Frac.{Frac}
use Rattle.exact_numbers.specs.Values.{dec_value, frac_value}
use Rattle.exact_numbers.specs.Fits.{fits, sum_fits}
use Rattle.exact_numbers.specs.Rational.{ℚ, zero_ℚ, ◌+ℚ◌, ◌*ℚ◌}
use Rattle.linear_program.specs.Lines.{one_if}
use Rattle.linear_program.specs.declared.too_wide.Wide.{Wide}

-- a variable and its coefficient
abbrev pub Term : Type 0
Term = ℕ × Frac

-- the coefficient that stands with variable j
abbrev pub found : List Term → ℕ → Option Frac
found [] j = None
found (t ∷ ts) j = (if j == t.0 then Some t.1 else found ts j)

abbrev pub value_or_zero : Option Frac → ℚ
value_or_zero None = zero_ℚ
value_or_zero (Some f) = frac_value f

-- the coefficient of variable j; 0 where none stands
abbrev pub coef_in : List Term → ℕ → ℚ
coef_in ts j = value_or_zero (found ts j)

-- ascending by variable, the first being at least n, and no coefficient is 0
abbrev pub AreAscending : ℕ → List Term → Type 0
AreAscending n [] = Unit {0}
AreAscending n (t ∷ ts) = (n ≤ t.0) × (frac_value t.1 ≢ zero_ℚ) × AreAscending (suc t.0) ts

-- every variable is below n
abbrev pub AreBelow : ℕ → List Term → Type 0
AreBelow n [] = Unit {0}
AreBelow n (t ∷ ts) = (t.0 < n) × AreBelow n ts

-- the same variables with the same coefficients, as decimals
abbrev pub AreDecimalsOf : List (ℕ × Dec) → List Term → Type 0
AreDecimalsOf [] [] = Unit {0}
AreDecimalsOf [] (t ∷ ts) = ⊥
AreDecimalsOf (d ∷ ds) [] = ⊥
AreDecimalsOf (d ∷ ds) (t ∷ ts) =
    (d.0 ≡ t.0) × (dec_value d.1 ≡ frac_value t.1) × AreDecimalsOf ds ts

-- k times each of terms, which all fit
abbrev pub AreProducts : ℚ → List Term → List Term → Type 0
AreProducts k [] [] = Unit {0}
AreProducts k [] (p ∷ ps) = ⊥
AreProducts k (t ∷ ts) [] = ⊥
AreProducts k (t ∷ ts) (p ∷ ps) =
    (p.0 ≡ t.0) × (fits (k *ℚ frac_value t.1) ≡ true) × (frac_value p.1 ≡ k *ℚ frac_value t.1)
    × AreProducts k ts ps

-- k times one of terms does not fit
abbrev pub HasWideProduct : ℚ → List Term → Type 0
HasWideProduct k [] = ⊥
HasWideProduct k (t ∷ ts) = (fits (k *ℚ frac_value t.1) ≡ false) ⊎ HasWideProduct k ts

-- k was added to the coefficient of variable j
abbrev pub IsAdded : List Term → ℕ → ℚ → List Term → Type 0
IsAdded old j k new =
    (sum_fits (coef_in old j) k ≡ true)
    × ((i : ℕ) → coef_in new i ≡ coef_in old i +ℚ k *ℚ one_if (i == j))

-- k is added to the coefficient of variable j; it is too wide exactly where the sum does not fit
abbrev pub AddsAt : (ℕ → ℚ) → ℕ → ℚ → (ℕ → ℚ) → Result (Unit {0}) (Stop Wide) → Type 0
AddsAt old j k new (Ok u) =
    (sum_fits (old j) k ≡ true) × ((i : ℕ) → new i ≡ old i +ℚ k *ℚ one_if (i == j))
AddsAt old j k new (Err (Fault w)) = sum_fits (old j) k ≡ false
AddsAt old j k new (Err Memory) = Unit {0}
