-- Numbers as they are written, and lists of them by index.
use Rattle.std.specs.Prelude.{◌≡◌, ℕ, ◌==◌, List, [], ◌∷◌, get_or, if◌then◌else◌}
use Rattle.exact_numbers.specs.Rational.{ℚ, zero_ℚ}
use Rattle.linear_program.specs.Elements.{elements_from}
use Rattle.exact_numbers.specs.Values.{dec_value, frac_value}
use Rattle.linear_program.specs.Coefs.{Term}
use Rattle.linear_program.specs.declared.number.Number.{Number}
use Rattle.linear_program.specs.declared.number.Number.TheVariants.{Decimal, Fraction}

abbrev pub number_value : Number → ℚ
number_value (Decimal d) = dec_value d
number_value (Fraction f) = frac_value f

-- an index and its number
abbrev pub Pair : Type 0
Pair = ℕ × Number

-- this is the term at a place
abbrev pub IsTermAt : List Term → ℕ → Pair → Type 0
IsTermAt ts k p =
    (t : Term) × (t ≡ get_or ts k t) × (p.0 ≡ t.0) × (number_value p.1 ≡ frac_value t.1)

-- the number of index i: that of its last pair, or x where it has none
unfoldable pub number_of : List Pair → ℕ → ℚ → ℚ
number_of [] i x = x
number_of (p ∷ ps) i x = number_of ps i (if p.0 == i then number_value p.1 else x)

-- the numbers of n indices; those without a pair are 0
unfoldable pub spread : ℕ → List Pair → List ℚ
spread n ps = elements_from (λ i. number_of ps i zero_ℚ) 0 n
