-- Words that are exact numbers of 128 bits: decimal texts, and fractions P/Q.
use Rattle.std.specs.Prelude.{◌≡◌, refl, ℕ, ◌+◌, ℤ, unsigned_abs, Bool, true, false, ◌&&◌, ◌==◌, nat_eq, List, take, drop, Option, Some, None, if◌then◌else◌}
use Rattle.std.specs.List.{position}
use Rattle.std.specs.Str.Parse.{signed_digits_value, without_leading_sign}
use Rattle.exact_numbers.specs.Fits.{fits, is_small}
use Rattle.exact_numbers.specs.Rational.{ℚ}
use Rattle.exact_numbers.specs.Numbers.{are_digits, dec_of}
use Rattle.exact_numbers.specs.SpelledLemmas.{fitted}
use Rattle.exact_numbers.specs.Values.{dec_value, frac_value, quotient}
use Rattle.exact_numbers.specs.declared.dec.Dec.{Dec}
use Rattle.exact_numbers.specs.declared.frac.Frac.{Frac}

-- ---- the fraction of a value

-- the Frac of a value, by the answer of the test
abbrev pub frac_where : (x : ℚ) (t : Bool) → fits x ≡ t → Option Frac
frac_where x false h = None
frac_where x true h = Some (record { num = x.top; den = x.bottom; spelled = fitted x h })

-- the Frac of a value that fits
unfoldable pub frac_from : ℚ → Option Frac
frac_from x = frac_where x (fits x) refl

-- ---- fractions P/Q

-- the number of digits with a sign before them or none, below 2 ^ 127 in size
unfoldable pub wide_of : List ℕ → Option ℤ
wide_of word =
    if are_digits (without_leading_sign word)
    && is_small (unsigned_abs (signed_digits_value 10 word))
    then Some (signed_digits_value 10 word)
    else None

-- one number over another, which is not 0
abbrev pub ratio : Option ℤ → Option ℤ → Option Frac
ratio (Some p) (Some q) =
    if nat_eq (unsigned_abs q) 0 then None else frac_from (quotient p q)
ratio p q = None

-- P/Q: P has a sign or none and digits, Q digits alone
abbrev pub ratio_of : List ℕ → List ℕ → Option Frac
ratio_of top bottom = if are_digits bottom then ratio (wide_of top) (wide_of bottom) else None

-- ---- words

abbrev pub decimal_frac : Option Dec → Option Frac
decimal_frac None = None
decimal_frac (Some d) = frac_from (dec_value d)

abbrev pub is_slash : ℕ → Bool
is_slash b = nat_eq b 47

-- by the place of the first slash; a word without one is a decimal text
abbrev pub frac_at : List ℕ → Option ℕ → Option Frac
frac_at word None = decimal_frac (dec_of word)
frac_at word (Some place) = ratio_of (take place word) (drop (place + 1) word)

-- the fraction that a word is
unfoldable pub frac_of : List ℕ → Option Frac
frac_of word = frac_at word (position is_slash word)

-- the number, where it is whole
abbrev pub whole_in : Option Frac → Option ℤ
whole_in None = None
whole_in (Some f) = if (frac_value f).bottom == 1 then Some (frac_value f).top else None

-- the whole number that a word is
unfoldable pub whole_number_of : List ℕ → Option ℤ
whole_number_of word = whole_in (frac_of word)
