-- Digits and the numbers that they are.
use Rattle.std.proofs.Common.{◌≡◌, ◌≢◌, ℕ, zero, suc, ◌+◌, ◌-◌, ◌*◌, ◌%◌, ◌^◌, ◌<◌, ◌≤◌, ◌∙◌, sym, ap, refl, arith}
use Rattle.std.proofs.Common.{List, [], ◌∷◌, ◌++◌, length, length-drop, take, drop, take-append-drop, get_or}
use Rattle.std.proofs.Common.{get_or-drop, subst, le_trans, ⊎_elim, pow-suc, mul_assoc, mul_comm, cond, Bool, true}
use Rattle.std.proofs.Common.{false, mul-one, take_all, length-take-le, nat_eq, ◌||◌, subst₂, length-append, ◌-ℤ◌, pos}
use Rattle.std.proofs.Common.{ap₂, pow-add}
use Rattle.std.proofs.lemmas.Bool.{cases_lt}
use Rattle.std.proofs.lemmas.List.{take_more}
use Rattle.std.proofs.lemmas.Bool.Decides.{nat_tests}
use Rattle.std.specs.Char.{digit_value, is_ascii_digit}
use Rattle.std.specs.List.{position_or_len}
use Rattle.exact_numbers.specs.Text.{after_sign, is_mark, is_point, mantissa_part, whole_digits, fraction_digits, exponent_part, IsDecText, IsExponent, exponent_value, begins_minus, text_value}
use Rattle.exact_numbers.specs.Rational.{decimal_value}
use Rattle.exact_numbers.specs.Decimal.{signed}
use Rattle.std.proofs.lemmas.Int.Digits.{digits_value-lt}
use Rattle.std.specs.Str.Parse.{AllDigits, digits_value, digits_value_after}

-- a digit's byte
pub digit_byte : (c : ℕ) → digit_value c < 10 → (48 ≤ c) × (c ≤ 57) × (digit_value c ≡ c - 48)
digit_byte c h = grind (arith, nat_tests)

pub digit_at : (xs : List ℕ) (k : ℕ) → AllDigits 10 xs → k < length xs → digit_value (get_or xs k 0) < 10
digit_at [] k h l = absurd (omega arith)
digit_at (x ∷ xs) zero h l = h.0
digit_at (x ∷ xs) (suc k) h l = digit_at xs k h.1 (omega arith)

pub after-append : (n : ℕ) (xs ys : List ℕ) → digits_value_after 10 n (xs ++ ys) ≡ digits_value_after 10 (digits_value_after 10 n xs) ys
after-append n [] ys = refl
after-append n (x ∷ xs) ys = after-append (n * 10 + digit_value x) xs ys

pub after_more : (n : ℕ) (xs : List ℕ) (i : ℕ) → i < length xs → digits_value_after 10 n (take (i + 1) xs) ≡ digits_value_after 10 n (take i xs) * 10 + digit_value (get_or xs i 0)
after_more n xs i h = ap (digits_value_after 10 n) (take_more xs i 0 h) ∙ after-append n (take i xs) (get_or xs i 0 ∷ [])

pub after-ge : (n : ℕ) (xs : List ℕ) → n ≤ digits_value_after 10 n xs
after-ge n [] = omega arith
after-ge n (x ∷ xs) = le_trans (omega arith) (after-ge (n * 10 + digit_value x) xs)

pub after_zeros : (n : ℕ) (xs : List ℕ) → ((k : ℕ) → k < length xs → get_or xs k 0 ≡ 48) → digits_value_after 10 n xs ≡ n * 10 ^ length xs
after_zeros n [] h = sym (mul-one n)
after_zeros n (x ∷ xs) h =
    let first : x ≡ 48 = h 0 (omega arith) in
    let start : n * 10 + digit_value x ≡ n * 10 = ap (λ c. n * 10 + digit_value c) first ∙ omega arith in
    ap (λ m. digits_value_after 10 m xs) start ∙ after_zeros (n * 10) xs (λ k l. h (suc k) (omega arith))
    ∙ mul_assoc n 10 (10 ^ length xs) ∙ ap (λ p. n * p) (mul_comm 10 (10 ^ length xs) ∙ sym (pow-suc 10 (length xs)))

pub prefix-le : (n : ℕ) (xs : List ℕ) (i : ℕ) → digits_value_after 10 n (take i xs) ≤ digits_value_after 10 n xs
prefix-le n xs i =
    subst (λ ys. digits_value_after 10 n (take i xs) ≤ digits_value_after 10 n ys) (take-append-drop i xs)
    (subst (λ v. digits_value_after 10 n (take i xs) ≤ v) (sym (after-append n (take i xs) (drop i xs))) (after-ge (digits_value_after 10 n (take i xs)) (drop i xs)))

pub digit_from : (c : ℕ) → true ≡ is_ascii_digit c → digit_value c < 10
digit_from c h = grind (arith, nat_tests)

pub not_digit : (c : ℕ) → false ≡ is_ascii_digit c → digit_value c < 10 → ⊥
not_digit c h l = grind (arith, nat_tests)

-- the digits up to a place, then zeros
pub zeros_after : (n : ℕ) (xs : List ℕ) (i : ℕ) → i ≤ length xs → ((k : ℕ) → i ≤ k → k < length xs → get_or xs k 0 ≡ 48)
    → digits_value_after 10 n xs ≡ digits_value_after 10 n (take i xs) * 10 ^ (length xs - i)
zeros_after n xs i h zeros =
    ap (digits_value_after 10 n) (sym (take-append-drop i xs)) ∙ after-append n (take i xs) (drop i xs)
    ∙ after_zeros (digits_value_after 10 n (take i xs)) (drop i xs)
    (λ k l. let m : k < length xs - i = omega (arith, length-drop i xs) in
    get_or-drop i xs k 0 ∙ zeros (i + k) (omega arith) (omega arith))
    ∙ ap (λ k. digits_value_after 10 n (take i xs) * 10 ^ k) (length-drop i xs)

-- a number whose last digit is not 0
pub last_digit : (n : ℕ) (xs : List ℕ) (i : ℕ) → AllDigits 10 xs → 0 < i → i ≤ length xs → get_or xs (i - 1) 0 ≢ 48 → digits_value_after 10 n (take i xs) % 10 ≢ 0
last_digit n xs i digits some within odd z =
    let k = i - 1 in
    let up : i ≡ k + 1 = omega arith in
    let in_range : k < length xs = omega arith in
    let d = digit_value (get_or xs k 0) in
    let value : digits_value_after 10 n (take i xs) ≡ digits_value_after 10 n (take k xs) * 10 + d = ap (λ j. digits_value_after 10 n (take j xs)) up ∙ after_more n xs k in_range in
    let byte = digit_byte (get_or xs k 0) (digit_at xs k digits in_range) in
    let ends : d ≡ 0 = omega (arith, ap (λ v. v % 10) value, z, digit_at xs k digits in_range) in
    odd (omega arith)

pub digits-take : (xs : List ℕ) (i : ℕ) → AllDigits 10 xs → AllDigits 10 (take i xs)
digits-take xs zero h = tt
digits-take [] (suc i) h = tt
digits-take (x ∷ xs) (suc i) h = (h.0, digits-take xs i h.1)

-- the first w and f digits are kept, and only zeros follow: after the point, and before it where nothing is kept after the point
pub record Kept (whole fraction : List ℕ) (w f : ℕ) : Type 0 where
  pub within : f ≤ length fraction
  pub zeros : (k : ℕ) → f ≤ k → k < length fraction → get_or fraction k 0 ≡ 48
  pub shortest : 0 < f → get_or fraction (f - 1) 0 ≢ 48
  pub whole_within : w ≤ length whole
  pub whole_zeros : (k : ℕ) → w ≤ k → k < length whole → get_or whole k 0 ≡ 48
  pub whole_shortest : f ≡ 0 → 0 < w → get_or whole (w - 1) 0 ≢ 48
  pub all_whole : 0 < f → w ≡ length whole

abbrev pub kept_number : List ℕ → List ℕ → ℕ → ℕ → ℕ
kept_number whole fraction w f = digits_value_after 10 (digits_value_after 10 0 (take w whole)) (take f fraction)

pub kept-value : (whole fraction : List ℕ) (w f : ℕ) → Kept whole fraction w f → digits_value 10 (whole ++ fraction) ≡ kept_number whole fraction w f * 10 ^ (length fraction - f + (length whole - w))
kept-value whole fraction w f k = after-append 0 whole fraction ∙ ⊎_elim some none (cases_lt 0 f)
  where
    some : 0 < f → digits_value_after 10 (digits_value_after 10 0 whole) fraction ≡ kept_number whole fraction w f * 10 ^ (length fraction - f + (length whole - w))
    some l =
        let all : whole ≡ take w whole = sym (take_all w whole (omega (arith, k.all_whole l))) in
        let places : length fraction - f ≡ length fraction - f + (length whole - w) = omega (arith, k.all_whole l) in
        zeros_after _ fraction f k.within k.zeros ∙ ap₂ (λ ds p. digits_value_after 10 (digits_value_after 10 0 ds) (take f fraction) * 10 ^ p) all places

    none : f ≤ 0 → digits_value_after 10 (digits_value_after 10 0 whole) fraction ≡ kept_number whole fraction w f * 10 ^ (length fraction - f + (length whole - w))
    none l =
        let z : f ≡ 0 = omega arith in
        let front = zeros_after 0 whole w k.whole_within k.whole_zeros in
        let n = digits_value_after 10 0 (take w whole) in
        let empty : n ≡ kept_number whole fraction w f = ap (λ i. digits_value_after 10 n (take i fraction)) (sym z) in
        zeros_after _ fraction f k.within k.zeros
        ∙ ap (λ i. digits_value_after 10 (digits_value_after 10 0 whole) (take i fraction) * 10 ^ (length fraction - f)) z
        ∙ ap (λ v. v * 10 ^ (length fraction - f)) front
        ∙ mul_assoc n (10 ^ (length whole - w)) (10 ^ (length fraction - f))
        ∙ ap₂ (λ v p. v * p) empty (mul_comm (10 ^ (length whole - w)) (10 ^ (length fraction - f)) ∙ sym (pow-add 10 (length fraction - f) (length whole - w)))

pub kept-shortest : (whole fraction : List ℕ) (w f : ℕ) → AllDigits 10 whole → AllDigits 10 fraction
    → Kept whole fraction w f → kept_number whole fraction w f ≢ 0 → kept_number whole fraction w f % 10 ≢ 0
kept-shortest whole fraction w f dw df k some = ⊎_elim (λ l. last_digit (digits_value_after 10 0 (take w whole)) fraction f df l k.within (k.shortest l)) none (cases_lt 0 f)
  where
    none : f ≤ 0 → kept_number whole fraction w f % 10 ≢ 0
    none l =
        let z : f ≡ 0 = omega arith in
        let empty : digits_value_after 10 0 (take w whole) ≡ kept_number whole fraction w f = ap (λ i. digits_value_after 10 (digits_value_after 10 0 (take w whole)) (take i fraction)) (sym z) in
        ⊎_elim
        (λ p. λ h. last_digit 0 whole w dw p k.whole_within (k.whole_shortest z p) (ap (λ v. v % 10) empty ∙ h))
        (λ p. λ h. let y : w ≡ 0 = omega arith in some (sym empty ∙ ap (λ i. digits_value_after 10 0 (take i whole)) y))
        (cases_lt 0 w)

pub digits-append : (xs ys : List ℕ) → AllDigits 10 xs → AllDigits 10 ys → AllDigits 10 (xs ++ ys)
digits-append [] ys h k = k
digits-append (x ∷ xs) ys h k = (h.0, digits-append xs ys h.1 k)

pub length-after_sign-le : (text : List ℕ) → length (after_sign text) ≤ length text
length-after_sign-le [] = omega arith
length-after_sign-le (b ∷ bs) = by (nat_eq b 43 || nat_eq b 45)
  where
    by : (t : Bool) → length (cond t bs (b ∷ bs)) ≤ length (b ∷ bs)
    by true = omega arith
    by false = omega arith

-- the parts that `read_dec` takes a text apart into
pub record Parts (text whole fraction exponent : List ℕ) : Type 0 where
  pub whole_is : whole ≡ whole_digits text
  pub fraction_is : fraction ≡ fraction_digits text
  pub exponent_is : exponent ≡ exponent_part text
  pub small : length whole + length fraction ≤ length text

pub parts_of : (text body fraction : List ℕ) (mark point : ℕ) → body ≡ after_sign text
    → mark ≡ position_or_len is_mark body → point ≡ position_or_len is_point (take mark body) → mark ≤ length body
    → point ≤ length (take mark body) → fraction ≡ drop (point + 1) (take mark body)
    → Parts text (take point (take mark body)) fraction (take (length body - mark) (drop mark body))
parts_of text body fraction mark point b m p within inside f =
    let mantissa : take mark body ≡ mantissa_part text = ap₂ (λ i xs. take i xs) (m ∙ ap (position_or_len is_mark) b) b in
    let place : point ≡ position_or_len is_point (mantissa_part text) = p ∙ ap (position_or_len is_point) mantissa in
    let body_small = length-after_sign-le text in
    let same = ap length b in
    record {
      whole_is = ap₂ (λ i xs. take i xs) place mantissa;
      fraction_is = f ∙ ap₂ (λ i xs. drop (i + 1) xs) place mantissa;
      exponent_is = take_all (length body - mark) (drop mark body) (omega (arith, length-drop mark body)) ∙ ap₂ (λ i xs. drop i xs) (m ∙ ap (position_or_len is_mark) b) b;
      small = omega (
        arith,
        ap length f,
        length-drop (point + 1) (take mark body),
        length-take-le point (take mark body),
        length-take-le mark body,
        length_taken point (take mark body) inside,
        length_taken mark body within,
      );
    }
  where
    length_taken : (i : ℕ) (xs : List ℕ) → i ≤ length xs → length (take i xs) ≡ i
    length_taken i xs h = length-take-le i xs h

module _ (text whole fraction exponent : List ℕ) (p : Parts text whole fraction exponent) where
  pub dec_text_from : AllDigits 10 whole → AllDigits 10 fraction → 0 < length whole + length fraction → IsExponent exponent → IsDecText text
  dec_text_from dw df some e =
      record {
        some = subst₂ (λ xs ys. 0 < length xs + length ys) p.whole_is p.fraction_is some;
        whole = subst (λ xs. AllDigits 10 xs) p.whole_is dw;
        fraction = subst (λ xs. AllDigits 10 xs) p.fraction_is df;
        exponent = subst IsExponent p.exponent_is e;
      }

  pub dec_value_is : (negative : Bool) → negative ≡ begins_minus text
      → decimal_value (signed negative (digits_value 10 (whole ++ fraction)))
      (exponent_value exponent -ℤ pos (length fraction)) ≡ text_value text
  dec_value_is negative b =
      ap (λ s. decimal_value (signed s (digits_value 10 (whole ++ fraction))) (exponent_value exponent -ℤ pos (length fraction))) b
      ∙ ap₂ (λ xs ys. decimal_value (signed (begins_minus text) (digits_value 10 (xs ++ ys))) (exponent_value exponent -ℤ pos (length ys))) p.whole_is p.fraction_is
      ∙ ap (λ e. decimal_value (signed (begins_minus text) (digits_value 10 (whole_digits text ++ fraction_digits text))) (exponent_value e -ℤ pos (length (fraction_digits text)))) p.exponent_is

pub digits_small : (xs ys : List ℕ) → AllDigits 10 xs → AllDigits 10 ys → digits_value 10 (xs ++ ys) < 10 ^ (length xs + length ys)
digits_small xs ys h k = subst (λ n. digits_value 10 (xs ++ ys) < 10 ^ n) (length-append xs ys) (digits_value-lt 10 (xs ++ ys) (digits-append xs ys h k))
