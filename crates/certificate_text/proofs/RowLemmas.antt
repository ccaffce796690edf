-- The first word of a row.
use Rattle.std.proofs.Common.{◌≡◌, ℕ, ◌==◌, Bool, true, false, ◌&&◌, List, length, codes, Option, Some, None, is_none, refl, ap}
use Rattle.std.proofs.lemmas.Bool.{and_parts}
use Rattle.std.specs.Str.{bytes_eq}
use Rattle.text_base.specs.Words.{begins, word_at}
use Rattle.text_base.proofs.NamePlaces.{bytes_same}
use Rattle.exact_numbers.specs.Numbers.{whole_of}
use Rattle.certificate_text.specs.TextRows.{TextRow, is_first_row, is_row}

pub word_is : (words : TextRow) (first : List ℕ) (count : ℕ) → is_row first count words ≡ true → word_at words 0 ≡ first
word_is words first count e = bytes_same (word_at words 0) first (and_parts (begins words first) (length words == count) e).0

pub format_is : (words : TextRow) (format : List ℕ) → is_first_row format words ≡ true → word_at words 0 ≡ format
format_is words format e =
    let both = and_parts ((length words == 2) && bytes_eq (word_at words 0) format) (bytes_eq (word_at words 1) (codes "1")) e in
    bytes_same (word_at words 0) format (and_parts (length words == 2) (bytes_eq (word_at words 0) format) both.0).1

-- a word that is a number is no word that is none
pub not_word : (w first : List ℕ) (o : Option ℕ) → whole_of w ≡ o → is_none o ≡ false → whole_of first ≡ None → bytes_eq w first ≡ false
not_word w first None is some none = absurd cc
not_word w first (Some i) is some none = by (bytes_eq w first) refl
  where
    by : (b : Bool) → bytes_eq w first ≡ b → bytes_eq w first ≡ false
    by true e = absurd (let same = ap whole_of (bytes_same w first e) in cc)
    by false e = e
