-- What is written of a fraction is read back.
use Rattle.std.proofs.Common.{◌≡◌, ◌∙◌, ℕ, zero, suc, ◌+◌, ◌-◌, ◌^◌, ◌<◌, ◌≤◌, Bool, true, false, cond, not, nat_eq}
use Rattle.std.proofs.Common.{nat_lt, List, [], ◌∷◌, ◌++◌, length, drop, ℤ, pos, negsuc, neg_ℤ, ◌-ℤ◌, unsigned_abs}
use Rattle.std.proofs.Common.{Option, Some, None, refl, sym, ap, ap₂, arith, subst, append-nil, length-append}
use Rattle.std.specs.Prelude.{MatchOption}
use Rattle.std.proofs.lemmas.Bool.{eqb-true, ne_eqb, lt-ltb, and_from}
use Rattle.std.proofs.lemmas.Bool.Decides.{nat_tests}
use Rattle.std.proofs.lemmas.Fmt.{decimal_is_IsNumeral_wide}
use Rattle.std.proofs.Math.Seq.{take-append_seam, drop-append-add}
use Rattle.std.specs.Char.{digit_value}
use Rattle.std.specs.Fmt.{decimal, signed_decimal}
use Rattle.std.specs.List.{position, position_or_len}
use Rattle.std.specs.Str.Parse.{AllDigits, IsNumeral, digits_value, signed_digits_value, starts_with_minus, without_leading_sign}
use Rattle.exact_numbers.specs.Fits.{fits}
use Rattle.exact_numbers.specs.Rational.{ℚ, decimal_value, over, whole}
use Rattle.exact_numbers.proofs.RationalLaws.{over_parts}
use Rattle.exact_numbers.specs.Decimal.{signed}
use Rattle.exact_numbers.specs.Numbers.{are_digits, dec_from, dec_of}
use Rattle.exact_numbers.specs.Text.{after_sign, begins_minus}
use Rattle.exact_numbers.specs.Values.{dec_value, fits_dec, frac_value}
use Rattle.exact_numbers.specs.Written.{frac_text}
use Rattle.exact_numbers.specs.declared.dec.Dec.{Dec}
use Rattle.exact_numbers.specs.declared.frac.Frac.{Frac}
use Rattle.exact_numbers.proofs.Fitting.{whole_fits}
use Rattle.exact_numbers.proofs.NumberLemmas.{dec_from-fits, dec_of-some, digits_are}
use Rattle.exact_numbers.proofs.Reading.{IsReading, cut_plain, reading, no_sign, no_minus}
use Rattle.exact_numbers.proofs.Signs.{decimal_whole, frac_whole}
use Rattle.exact_numbers.proofs.Spelling.{fits_dec_in}
use Rattle.exact_numbers.proofs.Texts.{digit_byte}
use Rattle.exact_numbers.specs.Words.{decimal_frac, frac_at, frac_from, frac_of, is_slash, ratio_of, wide_of}
use Rattle.exact_numbers.proofs.Fracs.{frac_from-some}
use Rattle.exact_numbers.proofs.Wide.{wide_of-some}

-- ---- where a slash stands
abbrev NoSlash : List ℕ → Type 0
NoSlash [] = Unit {0}
NoSlash (x ∷ xs) = (is_slash x ≡ false) × NoSlash xs

no_slash : (b : ℕ) → (48 ≤ b) × (b ≤ 57) × (digit_value b ≡ b - 48) → is_slash b ≡ false
no_slash b h = grind (arith, nat_tests)

digits-slash : (xs : List ℕ) → AllDigits 10 xs → NoSlash xs
digits-slash [] h = tt
digits-slash (x ∷ xs) h = (no_slash x (digit_byte x h.0), digits-slash xs h.1)

first-none : (xs : List ℕ) → NoSlash xs → position_or_len is_slash xs ≡ length xs
first-none [] h = refl
first-none (x ∷ xs) h = ap (λ b. cond (not b) (1 + position_or_len is_slash xs) 0) h.0 ∙ ap (λ n. 1 + n) (first-none xs h.1) ∙ omega arith

first-slash : (xs ys : List ℕ) → NoSlash xs → position_or_len is_slash (xs ++ 47 ∷ ys) ≡ length xs
first-slash [] ys h = refl
first-slash (x ∷ xs) ys h = ap (λ b. cond (not b) (1 + position_or_len is_slash (xs ++ 47 ∷ ys)) 0) h.0 ∙ ap (λ n. 1 + n) (first-slash xs ys h.1) ∙ omega arith

by_place : (word : List ℕ) (i : ℕ) → position_or_len is_slash word ≡ i → position is_slash word ≡ cond (nat_lt i (length word)) (Some i) None
by_place word i e = ap (λ (k : ℕ). cond (nat_lt k (length word)) (Some k) None) e

not_below : (n : ℕ) → nat_lt n n ≡ false
not_below n = grind (arith, nat_tests)

pub place-none : (xs : List ℕ) → NoSlash xs → position is_slash xs ≡ None
place-none xs h = by_place xs (length xs) (first-none xs h) ∙ ap (λ b. cond b (Some (length xs)) None) (not_below (length xs))

pub place-slash : (xs ys : List ℕ) → NoSlash xs → position is_slash (xs ++ 47 ∷ ys) ≡ Some (length xs)
place-slash xs ys h = by_place (xs ++ 47 ∷ ys) (length xs) (first-slash xs ys h)
    ∙ ap (λ b. cond b (Some (length xs)) None) (lt-ltb (length xs) (length (xs ++ 47 ∷ ys)) (omega (arith, length-append xs (47 ∷ ys))))

-- ---- a signed number as it is written
no_plus : (b : ℕ) → (48 ≤ b) × (b ≤ 57) × (digit_value b ≡ b - 48) → nat_eq b 43 ≡ false
no_plus b h = grind (arith, nat_tests)

-- a sign before digits
record IsSigned (text : List ℕ) (z : ℤ) : Type 0 where
  negative : Bool
  digits : List ℕ
  are : AllDigits 10 digits
  some : 0 < length digits
  number : signed negative (digits_value 10 digits) ≡ z
  body : after_sign text ≡ digits
  minus : begins_minus text ≡ negative
  bare : without_leading_sign text ≡ digits
  first : starts_with_minus text ≡ negative

signs : (s : Bool) (digits : List ℕ) (z : ℤ) → AllDigits 10 digits → 0 < length digits → signed s (digits_value 10 digits) ≡ z → IsSigned (cond s (45 ∷ digits) digits) z
signs s [] z d some number = absurd (omega arith)
signs true (x ∷ xs) z d some number = record { negative = true; digits = x ∷ xs; are = d; some = some; number = number; body = refl; minus = refl; bare = refl; first = refl }
signs false (x ∷ xs) z d some number =
    let digit = digit_byte x d.0 in
    let minus : nat_eq x 45 ≡ false = no_minus x digit in
    record {
      negative = false;
      digits = x ∷ xs;
      are = d;
      some = some;
      number = number;
      body = ap (λ t. cond t xs (x ∷ xs)) (no_sign x digit);
      minus = minus;
      bare = ap (λ t. cond t xs (drop (cond (nat_eq x 43) 1 0) (x ∷ xs))) minus ∙ ap (λ t. drop (cond t 1 0) (x ∷ xs)) (no_plus x digit);
      first = minus;
    }

signed_is : (z : ℤ) → unsigned_abs z < 10 ^ 64 → IsSigned (signed_decimal z) z
signed_is (pos n) h =
    let d = decimal_is_IsNumeral_wide n h in
    signs false (decimal n) (pos n) d.0.1 d.0.0 (ap pos d.1)
signed_is (negsuc n) h =
    let d = decimal_is_IsNumeral_wide (suc n) h in
    signs true (decimal (suc n)) (negsuc n) d.0.1 d.0.0 (ap (λ k. neg_ℤ (pos k)) d.1)

signed-slash : (z : ℤ) → unsigned_abs z < 10 ^ 64 → NoSlash (signed_decimal z)
signed-slash (pos n) h = digits-slash (decimal n) (decimal_is_IsNumeral_wide n h).0.1
signed-slash (negsuc n) h = (refl, digits-slash (decimal (suc n)) (decimal_is_IsNumeral_wide (suc n) h).0.1)

wide_signed : (text : List ℕ) (z : ℤ) → IsSigned text z → unsigned_abs z < 2 ^ 127 → wide_of text ≡ Some z
wide_signed text z h small =
    wide_of-some text z (subst (IsNumeral 10) (sym h.bare) (h.some, h.are)) (sym (value h.negative h.first h.number)) small
  where
    value : (s : Bool) → starts_with_minus text ≡ s → signed s (digits_value 10 h.digits) ≡ z → signed_digits_value 10 text ≡ z
    value true e number = ap₂ (λ t ds. cond t (neg_ℤ (pos (digits_value 10 ds))) (pos (digits_value 10 ds))) e h.bare ∙ number
    value false e number = ap₂ (λ t ds. cond t (neg_ℤ (pos (digits_value 10 ds))) (pos (digits_value 10 ds))) e h.bare ∙ number

-- as a decimal text
decimal_signed : (text : List ℕ) (z : ℤ) → IsSigned text z → IsReading text z (pos 0)
decimal_signed text z h =
    reading text h.digits [] [] h.negative z (pos 0) (cut_plain text h.digits h.body h.are) h.minus h.are tt h.some tt
    (ap (λ ds. decimal_value (signed h.negative (digits_value 10 ds)) (pos 0 -ℤ pos 0)) (append-nil h.digits) ∙ ap (λ y. decimal_value y (pos 0)) h.number)

-- ---- a fraction

-- a decimal text of a whole number
whole_read : (f : Frac) (text : List ℕ) → f.den ≡ 1 → IsSigned text f.num → (o : Option Dec) → dec_of text ≡ o → MatchOption o ⊥ (λ d. dec_value d ≡ whole f.num) → decimal_frac (dec_of text) ≡ Some f
whole_read f text one h None is there = absurd there
whole_read f text one h (Some d) is there =
    ap decimal_frac is ∙ frac_from-some (dec_value d) f (fits_of f (dec_value d) same) (sym same)
  where
    same : dec_value d ≡ frac_value f
    same = there ∙ sym (decimal_whole f.num) ∙ frac_whole f one

    fits_of : (f : Frac) (x : ℚ) → x ≡ frac_value f → fits x ≡ true
    fits_of f x e = ap fits e ∙ and_from _ _ (lt-ltb _ _ f.spelled.size) (lt-ltb _ _ f.spelled.small)

match_some : (o : Option Dec) (x : ℚ) → fits_dec x ≡ true → MatchOption o (fits_dec x ≡ false) (λ d. (fits_dec x ≡ true) × (dec_value d ≡ x)) → (d : Dec) × (dec_value d ≡ x)
match_some None x small h = absurd cc
match_some (Some d) x small h = (d, h.1)

-- the Dec of a whole number
whole_dec : (z : ℤ) → unsigned_abs z < 2 ^ 127 → (d : Dec) × (dec_value d ≡ whole z)
whole_dec z small = match_some (dec_from (whole z)) (whole z) (fits_dec_in (whole z) (whole_fits z small)) (dec_from-fits (whole z))

read_whole : (f : Frac) (text : List ℕ) → f.den ≡ 1 → IsSigned text f.num → decimal_frac (dec_of text) ≡ Some f
read_whole f text one h =
    let d = whole_dec f.num f.spelled.size in
    let r = decimal_signed text f.num h in
    let is : dec_of text ≡ Some d.0 = dec_of-some text d.0 r.is (d.1 ∙ sym (decimal_whole f.num) ∙ sym r.value) in
    whole_read f text one h (Some d.0) is d.1

-- P/Q
not_one : (q : ℕ) → 0 < q → nat_eq q 0 ≡ false
not_one zero h = absurd (omega arith)
not_one (suc q) h = ne_eqb (suc q) 0 (λ e. omega (arith, e))

read_ratio : (f : Frac) (top bottom : List ℕ) → IsSigned top f.num → IsSigned bottom (pos f.den) → are_digits bottom ≡ true → ratio_of top bottom ≡ Some f
read_ratio f top bottom h g digits =
    rw (digits, wide_signed top f.num h f.spelled.size, wide_signed bottom (pos f.den) g f.spelled.small, not_one f.den f.spelled.above) read
  where
    read : frac_from (over f.num f.den) ≡ Some f
    read = frac_from-some (over f.num f.den) f (ap fits (over_parts (frac_value f)) ∙ and_from _ _ (lt-ltb _ _ f.spelled.size) (lt-ltb _ _ f.spelled.small)) (sym (over_parts (frac_value f)))

pub fraction_read : (f : Frac) → frac_of (frac_text f.num f.den) ≡ Some f
unfolding frac_of
fraction_read f = by (nat_eq f.den 1) refl
  where
    text : List ℕ
    text = signed_decimal f.num

    short : unsigned_abs f.num < 10 ^ 64
    short = omega (arith, f.spelled.size)

    d : IsNumeral 10 (decimal f.den) × (digits_value 10 (decimal f.den) ≡ f.den)
    d = decimal_is_IsNumeral_wide f.den (omega (arith, f.spelled.small))

    by : (b : Bool) → nat_eq f.den 1 ≡ b → frac_of (signed_decimal f.num ++ cond b [] (47 ∷ decimal f.den)) ≡ Some f
    by true e =
        ap frac_of (append-nil text)
        ∙ ap (frac_at text) (place-none text (signed-slash f.num short))
        ∙ read_whole f text (eqb-true f.den 1 e) (signed_is f.num short)
    by false e =
        let whole = text ++ 47 ∷ decimal f.den in
        ap (frac_at whole) (place-slash text (decimal f.den) (signed-slash f.num short))
        ∙ ap₂ ratio_of (take-append_seam text (47 ∷ decimal f.den)) (drop-append-add text (47 ∷ decimal f.den) 1)
        ∙ read_ratio f text (decimal f.den) (signed_is f.num short) (signs false (decimal f.den) (pos f.den) d.0.1 d.0.0 (ap pos d.1)) (digits_are (decimal f.den) d.0.0 d.0.1)
