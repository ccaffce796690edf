-- Words that are numbers, and the values that they are.
use Rattle.std.specs.Prelude.{◌≡◌, refl, ℕ, ◌+◌, ◌<◌, ◌^◌, ℤ, pos, negsuc, Bool, true, false, ◌&&◌, ◌==◌, nat_lt, List, [], ◌∷◌, length, Option, Some, None, if◌then◌else◌}
use Rattle.std.specs.List.{list_all, AllByRecursion}
use Rattle.std.specs.Char.{digit_value}
use Rattle.std.specs.Str.Parse.{digits_value, signed_digits_value, without_leading_sign}
use Rattle.exact_numbers.specs.Rational.{ℚ}
use Rattle.exact_numbers.specs.Text.{after_sign, whole_digits, fraction_digits, exponent_part, text_value}
use Rattle.exact_numbers.specs.Values.{dec_value, decimal_of, fits_dec}
use Rattle.exact_numbers.specs.declared.dec.Dec.{Dec}
pub use Rattle.exact_numbers.specs.SpelledLemmas.{spelled_of}

-- each byte stands above `#`, and so is neither that nor a blank
abbrev pub IsUnmarked : List ℕ → Type 0
IsUnmarked word = AllByRecursion (λ b. 35 < b) word

-- ---- whole numbers

-- digits, which may be none
abbrev pub are_any_digits : List ℕ → Bool
are_any_digits text = list_all (λ c. nat_lt (digit_value c) 10) text

-- one digit or more, and nothing else
abbrev pub are_digits : List ℕ → Bool
are_digits word = nat_lt 0 (length word) && are_any_digits word

-- the number that digits write, up to 2^31 - 1
unfoldable pub whole_of : List ℕ → Option ℕ
whole_of word =
    if are_digits word && nat_lt (digits_value 10 word) (2 ^ 31)
    then Some (digits_value 10 word)
    else None

-- from -2^31 to 2^31 - 1
abbrev pub has_31_bits : ℤ → Bool
has_31_bits (pos n) = nat_lt n (2 ^ 31)
has_31_bits (negsuc n) = nat_lt n (2 ^ 31)

-- the number that digits write, with a `+` or a `-` before them or none
unfoldable pub signed_of : List ℕ → Option ℤ
signed_of word =
    if are_digits (without_leading_sign word) && has_31_bits (signed_digits_value 10 word)
    then Some (signed_digits_value 10 word)
    else None

-- ---- decimals

-- the Dec of a value, by the answer of the test
abbrev pub dec_where : (x : ℚ) (fits : Bool) → fits_dec x ≡ fits → Option Dec
dec_where x false h = None
dec_where x true h =
    Some (record {
      m = (decimal_of x).mantissa;
      e = (decimal_of x).exponent;
      spelled = spelled_of x h;
    })

-- the Dec of a value, where one has it
unfoldable pub dec_from : ℚ → Option Dec
dec_from x = dec_where x (fits_dec x) refl

-- nothing, or a mark, an optional sign and digits
abbrev pub is_exponent : List ℕ → Bool
is_exponent [] = true
is_exponent (mark ∷ rest) = are_digits (after_sign rest)

-- a sign, digits with at most one point, at least one digit, and an exponent
unfoldable pub is_dec_text : List ℕ → Bool
is_dec_text text =
    nat_lt 0 (length (whole_digits text) + length (fraction_digits text))
    && are_any_digits (whole_digits text)
    && are_any_digits (fraction_digits text)
    && is_exponent (exponent_part text)

-- the Dec that a decimal text is; none of another text, and where no Dec has its value
unfoldable pub dec_of : List ℕ → Option Dec
dec_of text = if is_dec_text text then dec_from (text_value text) else None

-- the value is whole
abbrev pub is_whole : Dec → Bool
is_whole d = (dec_value d).bottom == 1
