-- The numbers of words, as they are read.
use Rattle.std.proofs.Common.{◌≡◌, ◌∙◌, ℕ, ◌^◌, ◌<◌, Bool, true, false, ◌&&◌, List, [], ◌∷◌, length, ℤ, pos, negsuc, Some, None, refl, sym, ap, arith, nat_lt, ◌==◌, cond, drop, subst}
use Rattle.std.proofs.Props.{props}
use mathlib.Core.HLevel.{is_prop→PathP}
use Rattle.std.proofs.lemmas.Bool.{lt-ltb, ltb-true, eqb-true}
use Rattle.std.proofs.lemmas.Int.{to_z-of_z}
use Rattle.std.proofs.lemmas.Str.{IsUtf8-from_ascii}
use Rattle.std.proofs.lemmas.Str.Ascii.{IsAscii-nil, IsAscii-cons}
use Rattle.std.proofs.lemmas.Fmt.{IsAscii-from_digits, parse-signed_decimal}
use Rattle.std.specs.Fmt.{signed_decimal}
use Rattle.std.specs.Prelude.{Result, Ok, Err, MatchOption}
use lib.Signed.{mag}
use Rattle.std.specs.Str.{IsAscii, IsUtf8}
use Rattle.std.specs.Str.Parse.{AllDigits, digits_value, signed_digits_value, without_leading_sign, IsNumeral}
use Rattle.std.specs.Prelude.{FitsSigned}
use mir.Syntax.{w32}
use mir.Val.{to_z, of_z}
use Rattle.exact_numbers.specs.Rational.{ℚ}
use Rattle.exact_numbers.specs.Decimal.{IsDec}
use Rattle.exact_numbers.specs.Text.{after_sign, IsExponent, IsDecText, text_value, DecFault, IsWholeText, WholeFault}
use Rattle.exact_numbers.specs.Values.{dec_value, decimal_of, fits_dec, FitsDec}
use Rattle.exact_numbers.specs.declared.dec.Dec.{Dec}
use Rattle.exact_numbers.specs.declared.read.NumFault.{NumFault}
use Rattle.exact_numbers.specs.declared.read.NumFault.TheVariants.{NotNumber, TooWide}
use Rattle.exact_numbers.proofs.Spelling.{decimal_of-decimal, fits_dec_in, fits_dec_out, fits_dec-value}
pub use Rattle.exact_numbers.specs.SpelledLemmas.{first_of_both, second_of_both}
pub use Rattle.std.proofs.lemmas.Bool.{and_from as both}
use Rattle.exact_numbers.specs.Numbers.{are_digits, are_any_digits, is_exponent, is_dec_text, dec_where, dec_from, dec_of, whole_of, signed_of, has_31_bits}

pub any_digits : (word : List ℕ) → AllDigits 10 word → are_any_digits word ≡ true
any_digits [] d = refl
any_digits (c ∷ word) d = both _ _ (lt-ltb _ _ d.0) (any_digits word d.1)

pub digits_any : (word : List ℕ) → are_any_digits word ≡ true → AllDigits 10 word
digits_any [] e = tt
digits_any (c ∷ word) e = (ltb-true _ _ (first_of_both _ _ e), digits_any word (second_of_both _ _ e))

-- ---- whole numbers

pub digits_are : (word : List ℕ) → 0 < length word → AllDigits 10 word → are_digits word ≡ true
digits_are word some d = both _ _ (lt-ltb _ _ some) (any_digits word d)

pub are_digits-some : (word : List ℕ) → are_digits word ≡ true → 0 < length word
are_digits-some word e = ltb-true _ _ (first_of_both _ _ e)

pub are_digits-all : (word : List ℕ) → are_digits word ≡ true → AllDigits 10 word
are_digits-all word e = digits_any word (second_of_both _ _ e)

pub whole_of-some : (word : List ℕ) (n : ℕ) → IsWholeText word → n ≡ digits_value 10 word → n < 2 ^ 31 → whole_of word ≡ Some n
unfolding whole_of
whole_of-some word n is same fits =
    rw (digits_are word is.0 is.1, lt-ltb (digits_value 10 word) (2 ^ 31) (omega (arith, same, fits))) (ap Some (sym same))

pub whole_of-none : (fault : NumFault) (word : List ℕ) → WholeFault fault word → whole_of word ≡ None
unfolding whole_of
whole_of-none NotNumber word isnt = by (are_digits word) refl
  where
    by : (t : Bool) → are_digits word ≡ t → whole_of word ≡ None
    by true e = absurd (isnt (are_digits-some word e, are_digits-all word e))
    by false e = rw e refl
whole_of-none TooWide word wide = by (are_digits word && nat_lt (digits_value 10 word) (2 ^ 31)) refl
  where
    by : (t : Bool) → (are_digits word && nat_lt (digits_value 10 word) (2 ^ 31)) ≡ t → whole_of word ≡ None
    by true e = absurd (omega (arith, ltb-true (digits_value 10 word) (2 ^ 31) (second_of_both _ _ e), wide.1))
    by false e = rw e refl

-- ---- digits

pub digits-none : (text : List ℕ) → (IsWholeText text → ⊥) → are_digits text ≡ false
digits-none text isnt = by (are_digits text) refl
  where
    by : (b : Bool) → are_digits text ≡ b → are_digits text ≡ false
    by true e = absurd (isnt (are_digits-some text e, are_digits-all text e))
    by false e = e

pub digits-wide : (fault : NumFault) (text : List ℕ) → WholeFault fault text → fault ≡ TooWide → true ≡ are_digits text
digits-wide fault text h e = let wide = subst (λ f. WholeFault f text) e h in sym (digits_are text wide.0.0 wide.0.1)

pub digits-not : (fault : NumFault) (text : List ℕ) → WholeFault fault text → fault ≡ NotNumber → false ≡ are_digits text
digits-not fault text h e = sym (digits-none text (subst (λ f. WholeFault f text) e h))

-- ---- signed whole numbers

pub fits-31 : (z : ℤ) → FitsSigned w32 z → has_31_bits z ≡ true
fits-31 (pos n) f = lt-ltb n (2 ^ 31) f.sfits
fits-31 (negsuc n) f = lt-ltb n (2 ^ 31) f.sfits

pub fits-from_31 : (z : ℤ) → has_31_bits z ≡ true → FitsSigned w32 z
fits-from_31 (pos n) e = record { sfits = ltb-true n (2 ^ 31) e }
fits-from_31 (negsuc n) e = record { sfits = ltb-true n (2 ^ 31) e }

pub signed_of-some : (word : List ℕ) (z : ℤ) → IsNumeral 10 (without_leading_sign word) → FitsSigned w32 (signed_digits_value 10 word) → z ≡ signed_digits_value 10 word → signed_of word ≡ Some z
unfolding signed_of
signed_of-some word z is fits same =
    rw (digits_are (without_leading_sign word) is.0 is.1, fits-31 (signed_digits_value 10 word) fits) (ap Some (sym same))

pub signed_of-none : (word : List ℕ) → (IsNumeral 10 (without_leading_sign word) → FitsSigned w32 (signed_digits_value 10 word) → ⊥) → signed_of word ≡ None
unfolding signed_of
signed_of-none word isnt = by (are_digits (without_leading_sign word) && has_31_bits (signed_digits_value 10 word)) refl
  where
    by : (t : Bool) → (are_digits (without_leading_sign word) && has_31_bits (signed_digits_value 10 word)) ≡ t → signed_of word ≡ None
    by true e =
        let d : are_digits (without_leading_sign word) ≡ true = first_of_both _ _ e in
        absurd (isnt (are_digits-some _ d, are_digits-all _ d) (fits-from_31 _ (second_of_both _ _ e)))
    by false e = rw e refl

-- a sign and digits are ASCII
signed_ascii : (word : List ℕ) → AllDigits 10 (without_leading_sign word) → IsAscii word
signed_ascii [] d = IsAscii-nil
signed_ascii (b ∷ bs) d = by (b == 45) refl (b == 43) refl d
  where
    by : (s : Bool) → (b == 45) ≡ s → (t : Bool) → (b == 43) ≡ t → AllDigits 10 (cond s (drop 1 (b ∷ bs)) (drop (cond t 1 0) (b ∷ bs))) → IsAscii (b ∷ bs)
    by true e t f d = IsAscii-cons b bs (omega (arith, eqb-true b 45 e)) (IsAscii-from_digits bs d)
    by false e true f d = IsAscii-cons b bs (omega (arith, eqb-true b 43 f)) (IsAscii-from_digits bs d)
    by false e false f d = IsAscii-from_digits (b ∷ bs) d

pub signed_utf8 : (word : List ℕ) → AllDigits 10 (without_leading_sign word) → IsUtf8 word
signed_utf8 word d = IsUtf8-from_ascii word (signed_ascii word d)

pub signed_of-ok : (word text : List ℕ) (z : ℤ) → text ≡ word
    → IsNumeral 10 (without_leading_sign text) × FitsSigned w32 (signed_digits_value 10 text)
    → z ≡ signed_digits_value 10 text → Some (to_z w32 (of_z w32 z)) ≡ signed_of word
signed_of-ok word text z same is value =
    let fits : FitsSigned w32 z = subst (FitsSigned w32) (sym value) is.1 in
    ap Some (to_z-of_z w32 z fits) ∙ sym (signed_of-some text z is.0 is.1 value) ∙ ap signed_of same

pub signed_of-err : (word text : List ℕ) → text ≡ word → (IsNumeral 10 (without_leading_sign text) × FitsSigned w32 (signed_digits_value 10 text) → ⊥) → None ≡ signed_of word
signed_of-err word text same isnt = sym (signed_of-none text (λ is fits. isnt (is, fits))) ∙ ap signed_of same

-- what is written of a number is read back
pub signed_of-signed_decimal : (z : ℤ) → has_31_bits z ≡ true → signed_of (signed_decimal z) ≡ Some z
unfolding signed_of
signed_of-signed_decimal z small = by (are_digits (without_leading_sign (signed_decimal z)) && has_31_bits (signed_digits_value 10 (signed_decimal z))) refl
  where
    fits : FitsSigned w32 z
    fits = fits-from_31 z small

    value : Result ℤ ℕ → ℤ
    value (Ok y) = y
    value (Err n) = z

    size : (y : ℤ) → has_31_bits y ≡ true → mag y < 2 ^ 63
    size (pos n) e = let lt = ltb-true n (2 ^ 31) e in omega arith
    size (negsuc n) e = let lt = ltb-true n (2 ^ 31) e in omega arith

    by : (t : Bool) → (are_digits (without_leading_sign (signed_decimal z)) && has_31_bits (signed_digits_value 10 (signed_decimal z))) ≡ t → signed_of (signed_decimal z) ≡ Some z
    by true e =
        let d : are_digits (without_leading_sign (signed_decimal z)) ≡ true = first_of_both _ _ e in
        let is : IsNumeral 10 (without_leading_sign (signed_decimal z)) = (are_digits-some _ d, are_digits-all _ d) in
        let ok : Result ℤ ℕ = Ok (signed_digits_value 10 (signed_decimal z)) in
        let read : ok ≡ Ok z = parse-signed_decimal w32 z (signed_decimal z) ok fits (size z small) refl ((is, fits-from_31 _ (second_of_both _ _ e)), refl) in
        rw e (ap (λ r. Some (value r)) read)
    by false e =
        let isnt : (IsNumeral 10 (without_leading_sign (signed_decimal z)) × FitsSigned w32 (signed_digits_value 10 (signed_decimal z))) → ⊥ =
        λ h. (let t : (are_digits (without_leading_sign (signed_decimal z))
        && has_31_bits (signed_digits_value 10 (signed_decimal z))) ≡ true =
        both _ _ (digits_are _ h.0.0 h.0.1) (fits-31 _ h.1) in absurd cc) in
        let read = parse-signed_decimal {E = ℕ} w32 z (signed_decimal z) (Err 0) fits (size z small) refl isnt in
        absurd cc

-- ---- Decs

pub same_dec : (c d : Dec) → c.m ≡ d.m → c.e ≡ d.e → c ≡ d
same_dec c d m e =
    λ i. record { m = m i; e = e i; spelled = is_prop→PathP (λ j. IsDec (m j) (e j)) (λ j. hlevel props) c.spelled d.spelled i }

pub clash : {P : Type 0} (b : Bool) → b ≡ false → b ≡ true → P
clash true e f = absurd cc
clash false e f = absurd cc

pub dec_from-some : (d : Dec) → dec_from (dec_value d) ≡ Some d
unfolding dec_from
dec_from-some d = by (fits_dec (dec_value d)) refl
  where
    spelling : decimal_of (dec_value d) ≡ record { mantissa = d.m; exponent = d.e }
    spelling = decimal_of-decimal d.m d.e d.spelled

    fits : fits_dec (dec_value d) ≡ true
    fits = fits_dec_in (dec_value d) (record { m = d.m; e = d.e; dec = d.spelled; same = refl })

    by : (b : Bool) (h : fits_dec (dec_value d) ≡ b) → dec_where (dec_value d) b h ≡ Some d
    by false h = clash _ h fits
    by true h = ap Some (same_dec _ d (ap (λ s. s.mantissa) spelling) (ap (λ s. s.exponent) spelling))

pub dec_from-none : (x : ℚ) → (FitsDec x → ⊥) → dec_from x ≡ None
unfolding dec_from
dec_from-none x hasnt = by (fits_dec x) refl
  where
    by : (b : Bool) (h : fits_dec x ≡ b) → dec_where x b h ≡ None
    by false h = refl
    by true h = absurd (hasnt (fits_dec_out x h))

-- a value that a Dec has
pub dec_from-value : (x : ℚ) (d : Dec) → dec_value d ≡ x → dec_from x ≡ Some d
dec_from-value x d same = ap dec_from (sym same) ∙ dec_from-some d

-- a Dec is answered exactly where the test holds, and it has the value
pub dec_from-fits : (x : ℚ) → MatchOption (dec_from x) (fits_dec x ≡ false) (λ d. (fits_dec x ≡ true) × (dec_value d ≡ x))
unfolding dec_from
dec_from-fits x = by (fits_dec x) refl
  where
    by : (b : Bool) (h : fits_dec x ≡ b) → MatchOption (dec_where x b h) (fits_dec x ≡ false) (λ d. (fits_dec x ≡ true) × (dec_value d ≡ x))
    by false h = h
    by true h = (h, fits_dec-value x h)

-- ---- decimal texts

exponent_in : (part : List ℕ) → IsExponent part → is_exponent part ≡ true
exponent_in [] h = refl
exponent_in (mark ∷ rest) h = both _ _ (lt-ltb _ _ h.0) (any_digits (after_sign rest) h.1)

exponent_out : (part : List ℕ) → is_exponent part ≡ true → IsExponent part
exponent_out [] e = tt
exponent_out (mark ∷ rest) e = (ltb-true _ _ (first_of_both _ _ e), digits_any (after_sign rest) (second_of_both _ _ e))

dec_text_in : (text : List ℕ) → IsDecText text → is_dec_text text ≡ true
unfolding is_dec_text
dec_text_in text h = both _ _ (both _ _ (both _ _ (lt-ltb _ _ h.some) (any_digits _ h.whole)) (any_digits _ h.fraction)) (exponent_in _ h.exponent)

dec_text_out : (text : List ℕ) → is_dec_text text ≡ true → IsDecText text
unfolding is_dec_text
dec_text_out text e =
    let three = first_of_both _ _ e in
    let two = first_of_both _ _ three in
    record {
      some = ltb-true _ _ (first_of_both _ _ two);
      whole = digits_any _ (second_of_both _ _ two);
      fraction = digits_any _ (second_of_both _ _ three);
      exponent = exponent_out _ (second_of_both _ _ e);
    }

pub dec_of-some : (text : List ℕ) (d : Dec) → IsDecText text → dec_value d ≡ text_value text → dec_of text ≡ Some d
unfolding dec_of
dec_of-some text d is same = rw (dec_text_in text is) (dec_from-value (text_value text) d same)

pub dec_of-none : (fault : NumFault) (text : List ℕ) → DecFault fault text → dec_of text ≡ None
unfolding dec_of
dec_of-none NotNumber text isnt = by (is_dec_text text) refl
  where
    by : (b : Bool) → is_dec_text text ≡ b → dec_of text ≡ None
    by true e = absurd (isnt (dec_text_out text e))
    by false e = rw e refl
dec_of-none TooWide text wide = rw (dec_text_in text wide.0) (dec_from-none (text_value text) wide.1)

-- a signed number that was read fits
pub signed_of-fits : (word : List ℕ) (z : ℤ) → signed_of word ≡ Some z → has_31_bits z ≡ true
unfolding signed_of
signed_of-fits word z e = by (are_digits (without_leading_sign word)) (has_31_bits (signed_digits_value 10 word)) refl e
  where
    by : (a b : Bool) → has_31_bits (signed_digits_value 10 word) ≡ b → (cond (a && b) (Some (signed_digits_value 10 word)) None) ≡ Some z → has_31_bits z ≡ true
    by true true f g = subst (λ x. has_31_bits x ≡ true) (let same : signed_digits_value 10 word ≡ z = cc in same) f
    by true false f g = absurd cc
    by false b f g = absurd cc
