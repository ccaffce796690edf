-- Forms and sums as data, and the lines that they are.
use Rattle.std.specs.Prelude.{◌≡◌, ℕ, ◌≤◌, List, [], ◌∷◌, length, drop, Bool, true, false, ◌&&◌, Result, Ok, Err}
use Rattle.exact_numbers.specs.declared.frac.Frac.{Frac}
use Rattle.exact_numbers.specs.Values.{frac_value}
use Rattle.exact_numbers.specs.Fits.{fits, sum_fits}
use Rattle.exact_numbers.specs.Rational.{ℚ, zero_ℚ, ◌*ℚ◌}
use Rattle.linear_program.specs.Lines.{line_sum, line_scaled, line_with, products_fit, Line}
use Rattle.text_base.specs.declared.stop.Stop.{Stop}
use Rattle.text_base.specs.declared.stop.Stop.TheVariants.{Fault, Memory}
use Rattle.linear_program.specs.declared.too_wide.Wide.{Wide}
use Rattle.linear_program.specs.declared.form.Form.{Form}
use Rattle.linear_program.specs.declared.form.Kept.{Kept}
use Rattle.linear_program.specs.declared.form.Kept.TheVariants.{Closed, Open}
use Rattle.linear_program.specs.declared.form_terms.FormTerms.{FormTerms}
use Rattle.linear_program.specs.declared.form_terms.TermSource.{TermSource}
use Rattle.linear_program.specs.declared.form_terms.TermSource.TheVariants.{Fractions, Decimals, Places}
use Rattle.linear_program.specs.declared.sum.Sum.{Sum}
use Rattle.linear_program.specs.Coefs.{Term, coef_in}
use Rattle.linear_program.specs.Decimals.{fraction_terms}
use Rattle.linear_program.specs.Places.{place_in, terms_from}

abbrev pub kept_constant : Kept → Frac
kept_constant (Closed ts k) = k
kept_constant (Open s) = s.constant

abbrev pub kept_terms : Kept → List Term
kept_terms (Closed ts k) = ts
kept_terms (Open s) = terms_from 0 s.accumulator.value

-- its terms, which ascend by variable
abbrev pub form_terms : Form → List Term
form_terms f = kept_terms f.kept

-- a constant, and the coefficients of terms
abbrev pub parts_line : ℚ → List Term → Line
parts_line k ts = record { constant = k; coef = coef_in ts }

-- its constant and its coefficients
abbrev pub form_line : Form → Line
form_line f = parts_line (frac_value (kept_constant f.kept)) (form_terms f)

abbrev pub is_kept_open : Kept → Bool
is_kept_open (Closed ts k) = false
is_kept_open (Open s) = true

-- it lies on a pad
abbrev pub is_open : Form → Bool
is_open f = is_kept_open f.kept

abbrev pub kept_places : Kept → ℕ
kept_places (Closed ts k) = 0
kept_places (Open s) = length s.accumulator.value

-- how many places the pad of an open form has
abbrev pub pad_places : Form → ℕ
pad_places f = kept_places f.kept

-- the constant of a sum, and the coefficients at its places
abbrev pub sum_line : Sum → Line
sum_line s = record { constant = frac_value s.constant; coef = place_in s.accumulator.value }

-- how many places a sum has
abbrev pub place_count : Sum → ℕ
place_count s = length s.accumulator.value

-- the terms from a number on: in a list that of a term, of places that of a place
abbrev pub source_from : TermSource → ℕ → List Term
source_from (Fractions ts) i = drop i ts.now
source_from (Decimals ds) i = drop i (fraction_terms ds.now)
source_from (Places ps) i = terms_from i (drop i ps.now)

-- the terms that are still to come
abbrev pub terms_left : FormTerms → List Term
terms_left ts = source_from ts.source ts.next

-- no coefficient from n on
abbrev pub IsZeroFrom : ℕ → Line → Type 0
IsZeroFrom n l = (j : ℕ) → n ≤ j → l.coef j ≡ zero_ℚ

-- a form without coefficients from n on
abbrev pub IsWithin : ℕ → Form → Type 0
IsWithin n f = IsZeroFrom n (form_line f)

-- an open form has a place for each variable of another
abbrev pub HasRoom : Form → Form → Type 0
HasRoom f other = is_open f ≡ true → IsWithin (pad_places f) other

-- a + k * b fits: each product with k and each sum does, of the constants and of the coefficients
-- of one variable
pub record ScaledSumFits (a : Line) (k : ℚ) (b : Line) : Type 0 where
  pub product : fits (k *ℚ b.constant) ≡ true
  pub sum : sum_fits a.constant (k *ℚ b.constant) ≡ true
  pub products : (j : ℕ) → fits (k *ℚ b.coef j) ≡ true
  pub sums : (j : ℕ) → sum_fits (a.coef j) (k *ℚ b.coef j) ≡ true

-- a + k * b, which fits
abbrev pub IsScaledSum : Line → ℚ → Line → Line → Type 0
IsScaledSum a k b new = ScaledSumFits a k b × (new ≡ line_sum a (line_scaled k b))

-- k times b is added to a; it is too wide exactly where it does not fit
abbrev pub AddsScaled : Line → ℚ → Line → Line → Result (Unit {0}) (Stop Wide) → Type 0
AddsScaled a k b new (Ok u) = IsScaledSum a k b new
AddsScaled a k b new (Err (Fault w)) = ¬ ScaledSumFits a k b
AddsScaled a k b new (Err Memory) = Unit {0}

-- k times a form; it is too wide exactly where a product does not fit
abbrev pub Multiplies : Line → ℚ → Result Form (Stop Wide) → Type 0
Multiplies a k (Ok f) =
    ((n : ℕ) → products_fit n k a ≡ true) × (form_line f ≡ line_scaled k a)
Multiplies a k (Err (Fault w)) = (n : ℕ) → IsZeroFrom n a → products_fit n k a ≡ false
Multiplies a k (Err Memory) = Unit {0}

-- one step: k times a coefficient is added at its variable
abbrev pub step_fits : Line → ℚ → Term → Bool
step_fits a k t = fits (k *ℚ frac_value t.1) && sum_fits (a.coef t.0) (k *ℚ frac_value t.1)

abbrev pub stepped : Line → ℚ → Term → Line
stepped a k t = line_with a t.0 (k *ℚ frac_value t.1)

-- the steps over a list of terms, from the left
abbrev pub adds_fit : Line → ℚ → List Term → Bool
adds_fit a k [] = true
adds_fit a k (t ∷ ts) = step_fits a k t && adds_fit (stepped a k t) k ts

abbrev pub with_scaled : Line → ℚ → List Term → Line
with_scaled a k [] = a
with_scaled a k (t ∷ ts) = with_scaled (stepped a k t) k ts

-- k times the terms are added to a; it is too wide exactly where a step does not fit
abbrev pub SumsUp : Line → ℚ → List Term → Line → Result (Unit {0}) (Stop Wide) → Type 0
SumsUp a k ts new (Ok u) = (adds_fit a k ts ≡ true) × (new ≡ with_scaled a k ts)
SumsUp a k ts new (Err (Fault w)) = adds_fit a k ts ≡ false
SumsUp a k ts new (Err Memory) = Unit {0}

-- k times the terms were added to those of a list, whatever the constant is
abbrev pub AreSummedUp : List Term → ℚ → List Term → List Term → Type 0
AreSummedUp old k ts new =
    (c : ℚ)
    → (adds_fit (parts_line c old) k ts ≡ true)
    × (parts_line c new ≡ with_scaled (parts_line c old) k ts)
