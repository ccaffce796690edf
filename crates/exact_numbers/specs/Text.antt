-- Decimal texts, as lists of bytes, and the numbers that they are.
use Rattle.std.specs.Prelude.{◌≡◌, ℕ, ◌+◌, ◌≤◌, ◌^◌, ◌<◌, ℤ, pos, ◌-ℤ◌, Bool, false, ◌||◌, nat_eq, ◌⊎◌, ◌≤ℤ◌, neg_ℤ, if◌then◌else◌, List, [], ◌∷◌, ◌++◌, length, drop, ⊤}
use Rattle.std.specs.List.{before_first, after_first, position_or_len}
use Rattle.std.specs.Str.Parse.{AllDigits, digits_value}
use Rattle.exact_numbers.specs.Rational.{ℚ, decimal_value}
use Rattle.exact_numbers.specs.Decimal.{signed}
use Rattle.exact_numbers.specs.Values.{FitsDec}
use Rattle.exact_numbers.specs.declared.read.NumFault.{NumFault}
use Rattle.exact_numbers.specs.declared.read.NumFault.TheVariants.{NotNumber, TooWide}

-- '-' stands in front
abbrev pub begins_minus : List ℕ → Bool
begins_minus [] = false
begins_minus (b ∷ bs) = nat_eq b 45

-- what follows a '+' or '-', where one stands in front
abbrev pub after_sign : List ℕ → List ℕ
after_sign [] = []
after_sign (b ∷ bs) = if nat_eq b 43 || nat_eq b 45 then bs else (b ∷ bs)

-- 'e' or 'E'
abbrev pub is_mark : ℕ → Bool
is_mark b = nat_eq b 101 || nat_eq b 69

-- '.'
abbrev pub is_point : ℕ → Bool
is_point b = nat_eq b 46

-- the digits and point that stand before the mark of an exponent
abbrev pub mantissa_part : List ℕ → List ℕ
mantissa_part text = before_first is_mark (after_sign text)

-- the exponent with its mark, or nothing
abbrev pub exponent_part : List ℕ → List ℕ
exponent_part text = drop (position_or_len is_mark (after_sign text)) (after_sign text)

abbrev pub whole_digits : List ℕ → List ℕ
whole_digits text = before_first is_point (mantissa_part text)

abbrev pub fraction_digits : List ℕ → List ℕ
fraction_digits text = after_first is_point (mantissa_part text)

-- nothing, or a mark, an optional sign and digits
abbrev pub IsExponent : List ℕ → Type 0
IsExponent [] = ⊤
IsExponent (mark ∷ rest) = (0 < length (after_sign rest)) × AllDigits 10 (after_sign rest)

abbrev pub exponent_value : List ℕ → ℤ
exponent_value [] = pos 0
exponent_value (mark ∷ rest) = signed (begins_minus rest) (digits_value 10 (after_sign rest))

-- a sign, digits with at most one point, at least one digit, and an exponent
pub record IsDecText (text : List ℕ) : Type 0 where
  pub some : 0 < length (whole_digits text) + length (fraction_digits text)
  pub whole : AllDigits 10 (whole_digits text)
  pub fraction : AllDigits 10 (fraction_digits text)
  pub exponent : IsExponent (exponent_part text)

-- the number that a decimal text is
abbrev pub text_value : List ℕ → ℚ
text_value text =
    decimal_value
    (signed (begins_minus text) (digits_value 10 (whole_digits text ++ fraction_digits text)))
    (exponent_value (exponent_part text) -ℤ pos (length (fraction_digits text)))

-- when each fault is answered
abbrev pub DecFault : NumFault → List ℕ → Type 0
DecFault NotNumber text = IsDecText text → ⊥
DecFault TooWide text = IsDecText text × (FitsDec (text_value text) → ⊥)

-- the exponents from which on no digits of a text bring a number into range
abbrev pub cap : ℕ
cap = 2 ^ 80

-- x is y, cut down to the cap in size
pub record IsCapped (x y : ℤ) : Type 0 where
  pub low : neg_ℤ (pos cap) ≤ℤ x
  pub high : x ≤ℤ pos cap
  pub exact : (x ≡ y) ⊎ ((pos cap ≤ℤ y) ⊎ (y ≤ℤ neg_ℤ (pos cap)))
  pub above : pos cap ≤ℤ y → x ≡ pos cap
  pub below : y ≤ℤ neg_ℤ (pos cap) → x ≡ neg_ℤ (pos cap)

abbrev pub IsWholeText : List ℕ → Type 0
IsWholeText text = (0 < length text) × AllDigits 10 text

-- when each fault of a whole number is answered
abbrev pub WholeFault : NumFault → List ℕ → Type 0
WholeFault NotNumber text = IsWholeText text → ⊥
WholeFault TooWide text = IsWholeText text × (2 ^ 31 ≤ digits_value 10 text)
