-- Written numbers are read back.
use Rattle.std.proofs.Common.{◌≡◌, ℕ, ◌^◌, ◌<◌, true, Some, sym, lt_trans, lit<}
use Rattle.std.proofs.lemmas.Fmt.{decimal_is_IsNumeral_wide}
use Rattle.std.specs.Fmt.{decimal}
use Rattle.exact_numbers.proofs.NumberLemmas.{dec_of-some, digits_are, whole_of-some}
use Rattle.exact_numbers.proofs.Reading.{is_reading}
use Rattle.exact_numbers.specs.Numbers.{are_digits, dec_of, whole_of}
use Rattle.exact_numbers.specs.declared.dec.Dec.{Dec}
use Rattle.exact_numbers.specs.Values.{text_of}

wide : (n : ℕ) → n < 2 ^ 31 → n < 10 ^ 64
wide n small = lt_trans small (lit< tt)

pub whole_of-decimal : (n : ℕ) → n < 2 ^ 31 → whole_of (decimal n) ≡ Some n
whole_of-decimal n small = let numeral = decimal_is_IsNumeral_wide n (wide n small) in whole_of-some (decimal n) n numeral.0 (sym numeral.1) small

pub are_digits-decimal : (n : ℕ) → n < 2 ^ 31 → are_digits (decimal n) ≡ true
are_digits-decimal n small = let numeral = decimal_is_IsNumeral_wide n (wide n small) in digits_are (decimal n) numeral.0.0 numeral.0.1

pub dec_of-text : (d : Dec) → dec_of (text_of d) ≡ Some d
dec_of-text d = let read = is_reading d.m d.e d.spelled in dec_of-some (text_of d) d read.is (sym read.value)
