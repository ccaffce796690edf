-- What is read at the front of a text.
use Rattle.std.specs.Prelude.{◌≡◌, ℕ, ◌+◌, ◌<◌, ◌≤◌, ℤ, unsigned_abs, Bool, List, [], ◌∷◌, ◌++◌, length, take}
use Rattle.std.specs.Str.Parse.{digits_value}
use Rattle.exact_numbers.specs.Text.{begins_minus, whole_digits, fraction_digits, exponent_part, IsExponent, exponent_value, IsDecText, text_value}
use Rattle.exact_numbers.specs.Numbers.{IsUnmarked}
use Rattle.exact_numbers.specs.Values.{dec_value}
use Rattle.exact_numbers.specs.declared.dec.Dec.{Dec}

-- a number without an exponent: a sign, the size of its digits, and so many places
pub record IsBare (word : List ℕ) (negative : Bool) (size places : ℕ) : Type 0 where
  pub is : IsDecText word
  pub bare : exponent_part word ≡ []
  pub sign : begins_minus word ≡ negative
  pub digits : digits_value 10 (whole_digits word ++ fraction_digits word) ≡ size
  pub after : length (fraction_digits word) ≡ places

-- the first len bytes are such a number
pub record IsPlain (text : List ℕ) (negative : Bool) (size places len : ℕ) : Type 0 where
  pub within : len ≤ length text
  pub some : 0 < len
  pub few : len ≤ 20
  pub short : places ≤ 18
  pub bare : IsBare (take len text) negative size places
  pub unmarked : IsUnmarked (take len text)

-- the first len bytes are an exponent that follows its mark, whichever that is
pub record IsPower (text : List ℕ) (power : ℤ) (len : ℕ) : Type 0 where
  pub within : len ≤ length text
  pub few : len ≤ 4
  pub short : unsigned_abs power < 1000
  pub is : IsExponent (101 ∷ take len text)
  pub value : exponent_value (101 ∷ take len text) ≡ power
  pub unmarked : IsUnmarked (take len text)

-- the first len bytes are a number of this Dec
pub record IsFrontDec (text : List ℕ) (d : Dec) (len : ℕ) : Type 0 where
  pub within : len ≤ length text
  pub some : 0 < len
  pub few : len ≤ 40
  pub is : IsDecText (take len text)
  pub value : dec_value d ≡ text_value (take len text)
  pub unmarked : IsUnmarked (take len text)
