-- Numbers that are written are words, and no comments.
use Rattle.std.proofs.Common.{◌≡◌, ℕ, zero, suc, ◌+◌, ◌-◌, ◌^◌, ◌<◌, ◌≤◌, ◌==◌, Bool, true, false, cond, List, [], ◌∷◌}
use Rattle.std.proofs.Common.{◌++◌, length, take, drop, refl, arith, nat_le, int_lt, unsigned_abs, ℤ, pos, negsuc}
use Rattle.std.proofs.Common.{lt_trans, lt_of_le_of_lt, lit<, length-append}
use Rattle.std.proofs.lemmas.Bool.{le-leb, ltb-true, and_from}
use Rattle.std.proofs.lemmas.Bool.Decides.{nat_tests}
use Rattle.std.proofs.lemmas.Fmt.{decimal_is_IsNumeral_wide}
use Rattle.std.specs.Fmt.{decimal, signed_decimal}
use Rattle.std.specs.Str.Parse.{AllDigits}
use Rattle.exact_numbers.proofs.Texts.{digit_byte}
use Rattle.exact_numbers.specs.Numbers.{has_31_bits}
use Rattle.exact_numbers.specs.Written.{zeros, with_point, padded, scaled_text}
use Rattle.exact_numbers.specs.declared.dec.Dec.{Dec}
use Rattle.text_base.specs.Names.{has_name_bytes}
use Rattle.exact_numbers.specs.Values.{text_of}
use Rattle.written_texts.specs.Words.{IsKeptWord, IsWritten}

-- digits, letters, signs and points: no blank, and no `#`
abbrev pub IsPlain : List ℕ → Type 0
IsPlain [] = Unit {0}
IsPlain (b ∷ bytes) = (36 ≤ b) × IsPlain bytes

pub plain-append : (xs ys : List ℕ) → IsPlain xs → IsPlain ys → IsPlain (xs ++ ys)
plain-append [] ys p q = q
plain-append (x ∷ xs) ys p q = (p.0, plain-append xs ys p.1 q)

plain-take : (k : ℕ) (xs : List ℕ) → IsPlain xs → IsPlain (take k xs)
plain-take zero xs p = tt
plain-take (suc k) [] p = tt
plain-take (suc k) (x ∷ xs) p = (p.0, plain-take k xs p.1)

plain-drop : (k : ℕ) (xs : List ℕ) → IsPlain xs → IsPlain (drop k xs)
plain-drop zero xs p = p
plain-drop (suc k) [] p = tt
plain-drop (suc k) (x ∷ xs) p = plain-drop k xs p.1

plain-zeros : (k : ℕ) → IsPlain (zeros k)
plain-zeros k = by k
  where
    by : (k : ℕ) → IsPlain (zeros k)
    by zero = tt
    by (suc k) = (omega arith, by k)

plain-digits : (ds : List ℕ) → AllDigits 10 ds → IsPlain ds
plain-digits [] d = tt
plain-digits (c ∷ ds) d = let byte = digit_byte c d.0 in (omega (arith, byte.0), plain-digits ds d.1)

plain-bytes : (word : List ℕ) → IsPlain word → has_name_bytes word ≡ true
plain-bytes [] p = refl
plain-bytes (b ∷ word) p = and_from _ _ (le-leb 33 b (let low = p.0 in omega arith)) (plain-bytes word p.1)

pub plain-word : (word : List ℕ) → 0 < length word → IsPlain word → IsKeptWord word
plain-word [] some p = absurd (omega arith)
plain-word (b ∷ word) some p = record { is = record { some = some; bytes = plain-bytes (b ∷ word) p }; front = front b p.0 }
  where
    front : (b : ℕ) → 36 ≤ b → (b == 35) ≡ false
    front b low = grind (arith, nat_tests)

-- ---- numbers

pub plain-decimal : (n : ℕ) → n < 10 ^ 64 → IsPlain (decimal n)
plain-decimal n small = let numeral = decimal_is_IsNumeral_wide n small in plain-digits (decimal n) numeral.0.1

pub some-decimal : (n : ℕ) → n < 10 ^ 64 → 0 < length (decimal n)
some-decimal n small = let numeral = decimal_is_IsNumeral_wide n small in numeral.0.0

pub word-decimal : (n : ℕ) → n < 10 ^ 64 → IsKeptWord (decimal n)
word-decimal n small = plain-word (decimal n) (some-decimal n small) (plain-decimal n small)

pub word-lettered : (b : ℕ) (n : ℕ) → 36 ≤ b → n < 10 ^ 64 → IsKeptWord (b ∷ decimal n)
word-lettered b n low small = plain-word (b ∷ decimal n) (omega arith) (low, plain-decimal n small)

-- signed whole numbers
pub word-signed : (z : ℤ) → unsigned_abs z < 10 ^ 64 → IsKeptWord (signed_decimal z)
word-signed (pos n) small = word-decimal n small
word-signed (negsuc n) small = word-lettered 45 (suc n) (omega arith) small

-- of 31 bits and a sign
pub word-signed_31 : (z : ℤ) → has_31_bits z ≡ true → IsKeptWord (signed_decimal z)
word-signed_31 (pos n) e = word-signed (pos n) (lt_trans (ltb-true n (2 ^ 31) e) (lit< tt))
word-signed_31 (negsuc n) e =
    let small = ltb-true n (2 ^ 31) e in
    let near : suc n ≤ 2 ^ 31 = omega arith in
    word-signed (negsuc n) (lt_of_le_of_lt near (lit< tt))

plain-scaled : (ds : List ℕ) (e : ℤ) → IsPlain ds → unsigned_abs e ≤ 400 → IsPlain (scaled_text ds e)
plain-scaled ds (pos k) p h = by (nat_le k 20)
  where
    by : (t : Bool) → IsPlain (cond t (ds ++ zeros k) (ds ++ 101 ∷ decimal k))
    by true = plain-append ds (zeros k) p (plain-zeros k)
    by false = plain-append ds (101 ∷ decimal k) p (omega arith, plain-decimal k (lt_of_le_of_lt h (lit< tt)))
plain-scaled ds (negsuc k) p h = by (nat_le (k + 1) 38)
  where
    all : IsPlain (padded (k + 1) ds)
    all = plain-append (zeros (k + 1 + 1 - length ds)) ds (plain-zeros (k + 1 + 1 - length ds)) p

    by : (t : Bool) → IsPlain (cond t (with_point (k + 1) (padded (k + 1) ds)) (ds ++ 101 ∷ 45 ∷ decimal (k + 1)))
    by true =
        let i = length (padded (k + 1) ds) - (k + 1) in
        plain-append (take i (padded (k + 1) ds)) (46 ∷ drop i (padded (k + 1) ds)) (plain-take i (padded (k + 1) ds) all) (omega arith, plain-drop i (padded (k + 1) ds) all)
    by false =
        let near : k + 1 ≤ 400 = omega arith in
        plain-append ds (101 ∷ 45 ∷ decimal (k + 1)) p (omega arith, (omega arith, plain-decimal (k + 1) (lt_of_le_of_lt near (lit< tt))))

some-scaled : (ds : List ℕ) (e : ℤ) → 0 < length ds → 0 < length (scaled_text ds e)
some-scaled ds (pos k) some = by (nat_le k 20)
  where
    by : (t : Bool) → 0 < length (cond t (ds ++ zeros k) (ds ++ 101 ∷ decimal k))
    by true = omega (arith, length-append ds (zeros k))
    by false = omega (arith, length-append ds (101 ∷ decimal k))
some-scaled ds (negsuc k) some = by (nat_le (k + 1) 38)
  where
    by : (t : Bool) → 0 < length (cond t (with_point (k + 1) (padded (k + 1) ds)) (ds ++ 101 ∷ 45 ∷ decimal (k + 1)))
    by true =
        let i = length (padded (k + 1) ds) - (k + 1) in
        omega (arith, length-append (take i (padded (k + 1) ds)) (46 ∷ drop i (padded (k + 1) ds)))
    by false = omega (arith, length-append ds (101 ∷ 45 ∷ decimal (k + 1)))

pub plain-text : (d : Dec) → IsPlain (text_of d)
plain-text d =
    let rest : IsPlain (scaled_text (decimal (unsigned_abs d.m)) d.e) =
    plain-scaled (decimal (unsigned_abs d.m)) d.e (plain-decimal (unsigned_abs d.m) (lt_trans d.spelled.mantissa (lit< tt))) d.spelled.exponent in
    by (int_lt d.m (pos 0)) rest
  where
    by : (t : Bool) → IsPlain (scaled_text (decimal (unsigned_abs d.m)) d.e) → IsPlain (cond t (45 ∷ []) [] ++ scaled_text (decimal (unsigned_abs d.m)) d.e)
    by true rest = (omega arith, rest)
    by false rest = rest

some-text : (d : Dec) → 0 < length (text_of d)
some-text d =
    let rest : 0 < length (scaled_text (decimal (unsigned_abs d.m)) d.e) =
    some-scaled (decimal (unsigned_abs d.m)) d.e (some-decimal (unsigned_abs d.m) (lt_trans d.spelled.mantissa (lit< tt))) in
    by (int_lt d.m (pos 0)) rest
  where
    by : (t : Bool) → 0 < length (scaled_text (decimal (unsigned_abs d.m)) d.e) → 0 < length (cond t (45 ∷ []) [] ++ scaled_text (decimal (unsigned_abs d.m)) d.e)
    by true rest = omega arith
    by false rest = rest

pub word-text : (d : Dec) → IsKeptWord (text_of d)
word-text d = plain-word (text_of d) (some-text d) (plain-text d)

-- a letter and a number after it
pub word-number : (b : ℕ) (d : Dec) → 36 ≤ b → IsKeptWord (b ∷ text_of d)
word-number b d low = plain-word (b ∷ text_of d) (omega arith) (low, plain-text d)

-- ---- lines

pub written-one : (word : List ℕ) → IsKeptWord word → IsWritten (word ∷ [])
written-one word w = record { some = omega arith; few = omega arith; each = (w, tt) }

pub written-two : (first second : List ℕ) → IsKeptWord first → IsKeptWord second → IsWritten (first ∷ second ∷ [])
written-two first second v w = record { some = omega arith; few = omega arith; each = (v, (w, tt)) }

pub written-three : (first second third : List ℕ) → IsKeptWord first → IsKeptWord second → IsKeptWord third → IsWritten (first ∷ second ∷ third ∷ [])
written-three first second third u v w = record { some = omega arith; few = omega arith; each = (u, (v, (w, tt))) }
