-- Written words that are short, and lines of them.
use Rattle.std.proofs.Common.{◌≡◌, ℕ, ◌^◌, ◌<◌, ◌≤◌, true, List, [], ◌∷◌, length, ℤ, arith, lit<, lt_trans}
use Rattle.std.specs.List.{AllByRecursion}
use Rattle.std.specs.Fmt.{decimal, signed_decimal}
use Rattle.text_base.specs.Cut.{IsTextLine}
use Rattle.exact_numbers.specs.Numbers.{has_31_bits}
use Rattle.exact_numbers.specs.declared.dec.Dec.{Dec}
use Rattle.text_base.specs.WordLines.{WordLine, spaced}
use Rattle.exact_numbers.specs.Values.{text_of}
use Rattle.written_texts.specs.Words.{IsWord}
use Rattle.written_texts.proofs.Lengths.{decimal-length, signed_31-length, text-length}
use Rattle.written_texts.proofs.LineLemmas.{one-spaced, spaced-length, text-line}
use Rattle.written_texts.proofs.WrittenWords as written

pub record IsShortWord (word : List ℕ) : Type 0 where
  pub is : IsWord word
  pub short : length word ≤ 60

pub word-decimal : (n : ℕ) → n < 2 ^ 32 → IsShortWord (decimal n)
word-decimal n small =
    let most = decimal-length n (lt_trans small (lit< tt)) in
    record { is = (written.word-decimal n (lt_trans small (lit< tt))).is; short = omega (arith, most) }

pub word-signed : (z : ℤ) → has_31_bits z ≡ true → IsShortWord (signed_decimal z)
word-signed z fits =
    let most = signed_31-length z fits in
    record { is = (written.word-signed_31 z fits).is; short = omega (arith, most) }

pub word-text : (d : Dec) → IsShortWord (text_of d)
word-text d = record { is = (written.word-text d).is; short = text-length d }

pub are_words : (words : WordLine) → AllByRecursion IsShortWord words → AllByRecursion IsWord words
are_words [] all = tt
are_words (word ∷ words) all = (all.0.is, are_words words all.1)

are_short : (words : WordLine) → AllByRecursion IsShortWord words → AllByRecursion (λ word. length word ≤ 60) words
are_short [] all = tt
are_short (word ∷ words) all = (all.0.short, are_short words all.1)

-- a row of short words is a line of a text
pub row-line : (words : WordLine) → length words ≤ 12 → AllByRecursion IsShortWord words → IsTextLine (spaced words)
row-line words few all =
    let most = spaced-length 60 words (are_short words all) in
    text-line words (one-spaced words (are_words words all) (omega (arith, few, most)))
