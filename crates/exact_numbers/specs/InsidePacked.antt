-- Whole numbers of 128 bits in four words of 32, the lowest first.
use Rattle.std.specs.Prelude.{◌≡◌, ℕ, ◌+◌, ◌*◌, ◌/◌, ◌%◌, ◌<◌, ◌^◌, ℤ, pos, negsuc, unsigned_abs}
use Rattle.std.proofs.Common.{arith, ap, ◌∙◌}
use Rattle.std.specs.Int.{w128, cast_signed, cast_unsigned}
use Rattle.std.proofs.lemmas.Int.{of_z-to_z, to_z-of_z}
use mir.Val.{SFits}
use Rattle.exact_numbers.specs.declared.words.Words.{Words}

-- the number of four words
abbrev pub size_of : Words → ℕ
size_of w = w.first + w.second * 2 ^ 32 + w.third * 2 ^ 64 + w.fourth * 2 ^ 96

-- the number of either sign whose bits are four words
unfoldable pub whole_of : Words → ℤ
whole_of w = cast_signed w128 (size_of w)

-- each word is below 2 ^ 32
pub record AreWords (w : Words) : Type 0 where
  pub first : w.first < 2 ^ 32
  pub second : w.second < 2 ^ 32
  pub third : w.third < 2 ^ 32
  pub fourth : w.fourth < 2 ^ 32

-- the words of a number
abbrev pub words_of : ℕ → Words
words_of n =
    record {
      first = n % 2 ^ 32;
      second = n / 2 ^ 32 % 2 ^ 32;
      third = n / 2 ^ 64 % 2 ^ 32;
      fourth = n / 2 ^ 96;
    }

-- the words of a number of either sign
abbrev pub signed_words_of : ℤ → Words
signed_words_of z = words_of (cast_unsigned w128 z)

-- ---- from words to numbers and back
pub words_back : (w : Words) → AreWords w → words_of (size_of w) ≡ w
words_back w h i =
    record {
      first = first i;
      second = second i;
      third = third i;
      fourth = fourth i;
    }
  where
    first : size_of w % 2 ^ 32 ≡ w.first
    first = omega (arith, h.first)

    second : size_of w / 2 ^ 32 % 2 ^ 32 ≡ w.second
    second = omega (arith, h.first, h.second)

    third : size_of w / 2 ^ 64 % 2 ^ 32 ≡ w.third
    third = omega (arith, h.first, h.second, h.third)

    fourth : size_of w / 2 ^ 96 ≡ w.fourth
    fourth = omega (arith, h.first, h.second, h.third)

pub size_back : (n : ℕ) → size_of (words_of n) ≡ n
size_back n = omega arith

size_fits : (w : Words) → AreWords w → size_of w < 2 ^ 128
size_fits w h = omega (arith, h.first, h.second, h.third, h.fourth)

pub signed_words_back : (w : Words) → AreWords w → signed_words_of (whole_of w) ≡ w
unfolding whole_of
signed_words_back w h =
    ap words_of (of_z-to_z w128 (size_of w) (size_fits w h)) ∙ words_back w h

whole_fits : (z : ℤ) → unsigned_abs z < 2 ^ 127 → SFits w128 z
whole_fits (pos n) h = record { sfits = h }
whole_fits (negsuc n) h = record { sfits = omega arith }

pub whole_back : (z : ℤ) → unsigned_abs z < 2 ^ 127 → whole_of (signed_words_of z) ≡ z
unfolding whole_of
whole_back z h =
    ap (cast_signed w128) (size_back (cast_unsigned w128 z)) ∙ to_z-of_z w128 z (whole_fits z h)
