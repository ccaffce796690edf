-- The written spelling of a Dec is a decimal text of its value.
use Rattle.std.proofs.Common.{◌≡◌, ℕ, zero, suc, ◌+◌, ◌-◌, ◌*◌, ◌^◌, ◌<◌, ◌≤◌, ◌∙◌, sym, ap, ap₂, refl, arith, subst}
use Rattle.std.proofs.Common.{subst₂, length-take-le, List, [], ◌∷◌, ◌++◌, length, take, drop, Bool, true, false, not}
use Rattle.std.proofs.Common.{cond, ◌||◌, nat_eq, nat_le, int_lt, ℤ, pos, negsuc, neg_ℤ, ◌-ℤ◌, unsigned_abs, append-nil}
use Rattle.std.proofs.Common.{length-append, length-drop, take-append-drop, take_all, lit<, lt_trans, lt_of_le_of_lt}
use Rattle.std.proofs.Common.{zero-mul}
use Rattle.std.proofs.lemmas.List.{drop_all, length-replicate, get_or-replicate}
use Rattle.std.proofs.Math.Seq.{take-append_seam, drop-append_seam, drop-append-add}
use Rattle.std.proofs.lemmas.Bool.Decides.{nat_tests}
use Rattle.std.proofs.lemmas.Int.{ints}
use Rattle.std.proofs.lemmas.Fmt.{decimal_is_IsNumeral_wide}
use Rattle.std.specs.Char.{digit_value}
use Rattle.std.specs.Fmt.{decimal}
use Rattle.std.specs.List.{position_or_len, before_first, after_first}
use Rattle.std.specs.Str.Parse.{AllDigits, digits_value, digits_value_after}
use Rattle.exact_numbers.specs.Rational.{decimal_value}
use Rattle.exact_numbers.specs.Decimal.{signed, IsDec}
use Rattle.exact_numbers.specs.Text.{begins_minus, after_sign, is_mark, is_point, mantissa_part, exponent_part, whole_digits, fraction_digits, IsExponent, exponent_value, IsDecText, text_value}
use Rattle.exact_numbers.specs.InsideFront.{IsBare}
use Rattle.exact_numbers.specs.Written.{zeros, with_point, padded, scaled_text, dec_text}
use Rattle.exact_numbers.proofs.Decimals.{signed_moved}
use Rattle.exact_numbers.proofs.Fractions.{signed_self}
use Rattle.exact_numbers.proofs.Bridge.{same_dec_value, decimal_is}
use Rattle.exact_numbers.proofs.Texts.{digit_byte, digits-append, digits-take, after-append, after_zeros}

-- ---- where a test first passes
abbrev Fails : (ℕ → Bool) → List ℕ → Type 0
Fails p [] = Unit {0}
Fails p (x ∷ xs) = (p x ≡ false) × Fails p xs

Fails-append : (p : ℕ → Bool) (xs ys : List ℕ) → Fails p xs → Fails p ys → Fails p (xs ++ ys)
Fails-append p [] ys h k = k
Fails-append p (x ∷ xs) ys h k = (h.0, Fails-append p xs ys h.1 k)

position-none : (p : ℕ → Bool) (xs : List ℕ) → Fails p xs → position_or_len p xs ≡ length xs
position-none p [] h = refl
position-none p (x ∷ xs) h = ap (λ b. cond (not b) (1 + position_or_len p xs) 0) h.0 ∙ ap (λ n. 1 + n) (position-none p xs h.1) ∙ omega arith

position-stop : (p : ℕ → Bool) (xs : List ℕ) (y : ℕ) (ys : List ℕ) → Fails p xs → p y ≡ true → position_or_len p (xs ++ y ∷ ys) ≡ length xs
position-stop p [] y ys h stop = ap (λ b. cond (not b) (1 + position_or_len p ys) 0) stop
position-stop p (x ∷ xs) y ys h stop = ap (λ b. cond (not b) (1 + position_or_len p (xs ++ y ∷ ys)) 0) h.0 ∙ ap (λ n. 1 + n) (position-stop p xs y ys h.1 stop) ∙ omega arith

before-none : (p : ℕ → Bool) (xs : List ℕ) → Fails p xs → before_first p xs ≡ xs
before-none p xs h = ap (λ i. take i xs) (position-none p xs h) ∙ take_all (length xs) xs (omega arith)

after-none : (p : ℕ → Bool) (xs : List ℕ) → Fails p xs → after_first p xs ≡ []
after-none p xs h = ap (λ i. drop (i + 1) xs) (position-none p xs h) ∙ drop_all (length xs + 1) xs (omega arith)

before-stop : (p : ℕ → Bool) (xs : List ℕ) (y : ℕ) (ys : List ℕ) → Fails p xs → p y ≡ true → before_first p (xs ++ y ∷ ys) ≡ xs
before-stop p xs y ys h stop = ap (λ i. take i (xs ++ y ∷ ys)) (position-stop p xs y ys h stop) ∙ take-append_seam xs (y ∷ ys)

after-stop : (p : ℕ → Bool) (xs : List ℕ) (y : ℕ) (ys : List ℕ) → Fails p xs → p y ≡ true → after_first p (xs ++ y ∷ ys) ≡ ys
after-stop p xs y ys h stop = ap (λ i. drop (i + 1) (xs ++ y ∷ ys)) (position-stop p xs y ys h stop) ∙ drop-append-add xs (y ∷ ys) 1

from-stop : (p : ℕ → Bool) (xs : List ℕ) (y : ℕ) (ys : List ℕ) → Fails p xs → p y ≡ true → drop (position_or_len p (xs ++ y ∷ ys)) (xs ++ y ∷ ys) ≡ y ∷ ys
from-stop p xs y ys h stop = ap (λ i. drop i (xs ++ y ∷ ys)) (position-stop p xs y ys h stop) ∙ drop-append_seam xs (y ∷ ys)

from-none : (p : ℕ → Bool) (xs : List ℕ) → Fails p xs → drop (position_or_len p xs) xs ≡ []
from-none p xs h = ap (λ i. drop i xs) (position-none p xs h) ∙ drop_all (length xs) xs (omega arith)

no_mark : (b : ℕ) → (48 ≤ b) × (b ≤ 57) × (digit_value b ≡ b - 48) → is_mark b ≡ false
no_mark b h = grind (arith, nat_tests)

no_point : (b : ℕ) → (48 ≤ b) × (b ≤ 57) × (digit_value b ≡ b - 48) → is_point b ≡ false
no_point b h = grind (arith, nat_tests)

digits-mark : (xs : List ℕ) → AllDigits 10 xs → Fails is_mark xs
digits-mark [] h = tt
digits-mark (x ∷ xs) h = (no_mark x (digit_byte x h.0), digits-mark xs h.1)

digits-point : (xs : List ℕ) → AllDigits 10 xs → Fails is_point xs
digits-point [] h = tt
digits-point (x ∷ xs) h = (no_point x (digit_byte x h.0), digits-point xs h.1)

-- ---- a text cut into its parts
pub record Cut (text whole fraction exponent : List ℕ) : Type 0 where
  pub whole_is : whole_digits text ≡ whole
  pub fraction_is : fraction_digits text ≡ fraction
  pub exponent_is : exponent_part text ≡ exponent

pub cut_plain : (text xs : List ℕ) → after_sign text ≡ xs → AllDigits 10 xs → Cut text xs [] []
cut_plain text xs e d =
    let mantissa : mantissa_part text ≡ xs = ap (before_first is_mark) e ∙ before-none is_mark xs (digits-mark xs d) in
    record {
      whole_is = ap (before_first is_point) mantissa ∙ before-none is_point xs (digits-point xs d);
      fraction_is = ap (after_first is_point) mantissa ∙ after-none is_point xs (digits-point xs d);
      exponent_is = ap (λ ys. drop (position_or_len is_mark ys) ys) e ∙ from-none is_mark xs (digits-mark xs d);
    }

pub cut_point : (text xs ys : List ℕ) → after_sign text ≡ xs ++ 46 ∷ ys → AllDigits 10 xs → AllDigits 10 ys → Cut text xs ys []
cut_point text xs ys e d f =
    let all : Fails is_mark (xs ++ 46 ∷ ys) = Fails-append is_mark xs (46 ∷ ys) (digits-mark xs d) (refl, digits-mark ys f) in
    let mantissa : mantissa_part text ≡ xs ++ 46 ∷ ys = ap (before_first is_mark) e ∙ before-none is_mark (xs ++ 46 ∷ ys) all in
    record {
      whole_is = ap (before_first is_point) mantissa ∙ before-stop is_point xs 46 ys (digits-point xs d) refl;
      fraction_is = ap (after_first is_point) mantissa ∙ after-stop is_point xs 46 ys (digits-point xs d) refl;
      exponent_is = ap (λ zs. drop (position_or_len is_mark zs) zs) e ∙ from-none is_mark (xs ++ 46 ∷ ys) all;
    }

cut_mark : (text xs ys : List ℕ) → after_sign text ≡ xs ++ 101 ∷ ys → AllDigits 10 xs → Cut text xs [] (101 ∷ ys)
cut_mark text xs ys e d =
    let mantissa : mantissa_part text ≡ xs = ap (before_first is_mark) e ∙ before-stop is_mark xs 101 ys (digits-mark xs d) refl in
    record {
      whole_is = ap (before_first is_point) mantissa ∙ before-none is_point xs (digits-point xs d);
      fraction_is = ap (after_first is_point) mantissa ∙ after-none is_point xs (digits-point xs d);
      exponent_is = ap (λ zs. drop (position_or_len is_mark zs) zs) e ∙ from-stop is_mark xs 101 ys (digits-mark xs d) refl;
    }

-- ---- the sign
pub no_sign : (b : ℕ) → (48 ≤ b) × (b ≤ 57) × (digit_value b ≡ b - 48) → (nat_eq b 43 || nat_eq b 45) ≡ false
no_sign b h = grind (arith, nat_tests)

pub no_minus : (b : ℕ) → (48 ≤ b) × (b ≤ 57) × (digit_value b ≡ b - 48) → nat_eq b 45 ≡ false
no_minus b h = grind (arith, nat_tests)

unsigned_text : (b : ℕ) (bs : List ℕ) → digit_value b < 10 → (after_sign (b ∷ bs) ≡ b ∷ bs) × (begins_minus (b ∷ bs) ≡ false)
unsigned_text b bs h = (ap (λ t. cond t bs (b ∷ bs)) (no_sign b (digit_byte b h)), no_minus b (digit_byte b h))

numeral_unsigned : (xs : List ℕ) → AllDigits 10 xs → 0 < length xs → (after_sign xs ≡ xs) × (begins_minus xs ≡ false)
numeral_unsigned [] d some = absurd (omega arith)
numeral_unsigned (x ∷ xs) d some = unsigned_text x xs d.0

-- a sign before a text that begins with a digit
signed_text : (s : Bool) (xs ys : List ℕ) → AllDigits 10 xs → 0 < length xs → let text = cond s (45 ∷ []) [] ++ (xs ++ ys) in (after_sign text ≡ xs ++ ys) × (begins_minus text ≡ s)
signed_text s [] ys d some = absurd (omega arith)
signed_text true (x ∷ xs) ys d some = (refl, refl)
signed_text false (x ∷ xs) ys d some = unsigned_text x (xs ++ ys) d.0

-- ---- what a text of these parts is
pub record IsReading (text : List ℕ) (m e : ℤ) : Type 0 where
  pub is : IsDecText text
  pub value : text_value text ≡ decimal_value m e

pub reading_of : (text whole fraction exponent : List ℕ) (s : Bool) (m e : ℤ) → Cut text whole fraction exponent
    → begins_minus text ≡ s → AllDigits 10 whole → AllDigits 10 fraction → 0 < length whole + length fraction
    → IsExponent exponent → decimal_value (signed s (digits_value 10 (whole ++ fraction)))
    (exponent_value exponent -ℤ pos (length fraction)) ≡ decimal_value m e → IsReading text m e
reading_of text whole fraction exponent s m e c sign dw df some de value =
    record {
      is = record {
        some = subst₂ (λ xs ys. 0 < length xs + length ys) (sym c.whole_is) (sym c.fraction_is) some;
        whole = subst (λ xs. AllDigits 10 xs) (sym c.whole_is) dw;
        fraction = subst (λ xs. AllDigits 10 xs) (sym c.fraction_is) df;
        exponent = subst IsExponent (sym c.exponent_is) de;
      };
      value =
          ap (λ t. decimal_value (signed t (digits_value 10 (whole_digits text ++ fraction_digits text))) (exponent_value (exponent_part text) -ℤ pos (length (fraction_digits text)))) sign
          ∙ ap₂ (λ xs ys. decimal_value (signed s (digits_value 10 (xs ++ ys))) (exponent_value (exponent_part text) -ℤ pos (length ys))) c.whole_is c.fraction_is
          ∙ ap (λ zs. decimal_value (signed s (digits_value 10 (whole ++ fraction))) (exponent_value zs -ℤ pos (length fraction))) c.exponent_is
          ∙ value;
    }

pub reading : (text whole fraction exponent : List ℕ) (s : Bool) (m e : ℤ) → Cut text whole fraction exponent
    → begins_minus text ≡ s → AllDigits 10 whole → AllDigits 10 fraction → 0 < length whole → IsExponent exponent
    → decimal_value (signed s (digits_value 10 (whole ++ fraction))) (exponent_value exponent -ℤ pos (length fraction))
    ≡ decimal_value m e → IsReading text m e
reading text whole fraction exponent s m e c sign dw df some de value = reading_of text whole fraction exponent s m e c sign dw df (omega arith) de value

-- ---- an exponent behind a number without one

fails-none : (p : ℕ → Bool) (xs : List ℕ) → drop (position_or_len p xs) xs ≡ [] → Fails p xs
fails-none p [] h = tt
fails-none p (x ∷ xs) h = by (p x) refl (fails-none p xs) h
  where
    by : (t : Bool) → p x ≡ t → (drop (position_or_len p xs) xs ≡ [] → Fails p xs) → drop (cond (not t) (1 + position_or_len p xs) 0) (x ∷ xs) ≡ [] → Fails p (x ∷ xs)
    by true e rest g = absurd cc
    by false e rest g = let next : suc (position_or_len p xs) ≡ 1 + position_or_len p xs = omega arith in (e, rest (ap (λ i. drop i (x ∷ xs)) next ∙ g))

after_sign-append : (b : ℕ) (text more : List ℕ) → after_sign ((b ∷ text) ++ more) ≡ after_sign (b ∷ text) ++ more
after_sign-append b text more = by (nat_eq b 43 || nat_eq b 45)
  where
    by : (t : Bool) → cond t (text ++ more) (b ∷ text ++ more) ≡ cond t text (b ∷ text) ++ more
    by true = refl
    by false = refl

pub marked : (text : List ℕ) (s : Bool) (size places y : ℕ) (ys : List ℕ) → IsBare text s size places → is_mark y ≡ true
    → IsExponent (y ∷ ys) → IsReading (text ++ y ∷ ys) (signed s size) (exponent_value (y ∷ ys) -ℤ pos places)
marked [] s size places y ys bare mark de = absurd (omega (arith, bare.is.some))
marked (b ∷ bs) s size places y ys bare mark de =
    let text = b ∷ bs in
    let body = after_sign text in
    let fails : Fails is_mark body = fails-none is_mark body bare.bare in
    let more : after_sign (text ++ y ∷ ys) ≡ body ++ y ∷ ys = after_sign-append b bs (y ∷ ys) in
    let mantissa : mantissa_part (text ++ y ∷ ys) ≡ mantissa_part text = ap (before_first is_mark) more ∙ before-stop is_mark body y ys fails mark ∙ sym (before-none is_mark body fails) in
    reading_of (text ++ y ∷ ys) (whole_digits text) (fraction_digits text) (y ∷ ys) s (signed s size) (exponent_value (y ∷ ys) -ℤ pos places)
    (record {
      whole_is = ap (before_first is_point) mantissa;
      fraction_is = ap (after_first is_point) mantissa;
      exponent_is = ap (λ zs. drop (position_or_len is_mark zs) zs) more ∙ from-stop is_mark body y ys fails mark;
    })
    bare.sign bare.is.whole bare.is.fraction bare.is.some de (ap₂ (λ v k. decimal_value (signed s v) (exponent_value (y ∷ ys) -ℤ pos k)) bare.digits bare.after)

pub zeros-length : (k : ℕ) → length (zeros k) ≡ k
zeros-length k = length-replicate {A = ℕ} k 48

zeros-digits : (k : ℕ) → AllDigits 10 (zeros k)
zeros-digits k = by k
  where
    by : (k : ℕ) → AllDigits 10 (zeros k)
    by zero = tt
    by (suc k) = (lit< tt, by k)

-- zeros in front do not count
zeros-front : (k : ℕ) (xs : List ℕ) → digits_value 10 (zeros k ++ xs) ≡ digits_value 10 xs
zeros-front k xs = after-append 0 (zeros k) xs ∙ ap (λ n. digits_value_after 10 n xs)
    (after_zeros 0 (zeros k) (λ j l. get_or-replicate k j 48 0 (omega (arith, zeros-length k)))
    ∙ zero-mul (10 ^ length (zeros k)))

zeros-behind : (k : ℕ) (xs : List ℕ) → digits_value 10 (xs ++ zeros k) ≡ digits_value 10 xs * 10 ^ k
zeros-behind k xs =
    after-append 0 xs (zeros k)
    ∙ after_zeros (digits_value 10 xs) (zeros k) (λ j l. get_or-replicate k j 48 0 (omega (arith, zeros-length k)))
    ∙ ap (λ j. digits_value 10 xs * 10 ^ j) (zeros-length k)

digits-drop : (xs : List ℕ) (i : ℕ) → AllDigits 10 xs → AllDigits 10 (drop i xs)
digits-drop xs zero h = h
digits-drop [] (suc i) h = tt
digits-drop (x ∷ xs) (suc i) h = digits-drop xs i h.1

-- ---- the three forms, for the digits xs of n
module _ (s : Bool) (n : ℕ) (xs : List ℕ) (d : AllDigits 10 xs) (some : 0 < length xs) (value : digits_value 10 xs ≡ n) where
  plain_form : (k : ℕ) → IsReading (cond s (45 ∷ []) [] ++ (xs ++ zeros k)) (signed s n) (pos k)
  plain_form k =
      let text = cond s (45 ∷ []) [] ++ (xs ++ zeros k) in
      let sign = signed_text s xs (zeros k) d some in
      let all = digits-append xs (zeros k) d (zeros-digits k) in
      let number : digits_value 10 ((xs ++ zeros k) ++ []) ≡ n * 10 ^ k = ap (digits_value 10) (append-nil (xs ++ zeros k)) ∙ zeros-behind k xs ∙ ap (λ v. v * 10 ^ k) value in
      reading text (xs ++ zeros k) [] [] s (signed s n) (pos k) (cut_plain text (xs ++ zeros k) sign.0 all) sign.1 all tt (omega (arith, length-append xs (zeros k))) tt
      (ap (λ v. decimal_value (signed s v) (pos 0 -ℤ pos 0)) number
      ∙ sym (same_dec_value (signed s n) (pos k) _ _ (decimal_is (signed s (n * 10 ^ k)) (pos 0 -ℤ pos 0)) (signed_moved s n (n * 10 ^ k) k (pos 0 -ℤ pos 0) (pos k) refl (omega (arith, ints)))))

  point_form : (k : ℕ) → IsReading (cond s (45 ∷ []) [] ++ with_point (k + 1) (padded (k + 1) xs)) (signed s n) (negsuc k)
  point_form k =
      let ds = padded (k + 1) xs in
      let z = k + 1 + 1 - length xs in
      let all : AllDigits 10 ds = digits-append (zeros z) xs (zeros-digits z) d in
      let long : k + 1 + 1 ≤ length ds = omega (arith, length-append (zeros z) xs, zeros-length z) in
      let i = length ds - (k + 1) in
      let front = take i ds in
      let back = drop i ds in
      let text = cond s (45 ∷ []) [] ++ (front ++ 46 ∷ back) in
      let front_digits : AllDigits 10 front = digits-take ds i all in
      let back_digits : AllDigits 10 back = digits-drop ds i all in
      let front_some : 0 < length front = omega (arith, length-take-le i ds) in
      let places : length back ≡ k + 1 = omega (arith, length-drop i ds) in
      let sign = signed_text s front (46 ∷ back) front_digits front_some in
      let number : digits_value 10 (front ++ back) ≡ n = ap (digits_value 10) (take-append-drop i ds) ∙ zeros-front z xs ∙ value in
      let exponent : pos 0 -ℤ pos (length back) ≡ negsuc k = omega (arith, ints, places) in
      reading text front back [] s (signed s n) (negsuc k) (cut_point text front back sign.0 front_digits back_digits) sign.1 front_digits back_digits front_some tt
      (ap₂ (λ v e. decimal_value (signed s v) e) number exponent)

  mark_form : (k : ℕ) → k < 10 ^ 64 → IsReading (cond s (45 ∷ []) [] ++ (xs ++ 101 ∷ decimal k)) (signed s n) (pos k)
  mark_form k small =
      let text = cond s (45 ∷ []) [] ++ (xs ++ 101 ∷ decimal k) in
      let sign = signed_text s xs (101 ∷ decimal k) d some in
      let numeral = decimal_is_IsNumeral_wide k small in
      let plain = numeral_unsigned (decimal k) numeral.0.1 numeral.0.0 in
      let number : digits_value 10 (xs ++ []) ≡ n = ap (digits_value 10) (append-nil xs) ∙ value in
      let exponent : exponent_value (101 ∷ decimal k) ≡ pos k = ap₂ (λ t ys. signed t (digits_value 10 ys)) plain.1 plain.0 ∙ ap pos numeral.1 in
      reading text xs [] (101 ∷ decimal k) s (signed s n) (pos k) (cut_mark text xs (decimal k) sign.0 d) sign.1 d tt some
      (subst (λ ys. (0 < length ys) × AllDigits 10 ys) (sym plain.0) (numeral.0.0, numeral.0.1))
      (ap₂ (λ v e. decimal_value (signed s v) (e -ℤ pos 0)) number exponent ∙ ap (decimal_value (signed s n)) (omega (arith, ints)))

  minus_form : (k : ℕ) → k + 1 < 10 ^ 64 → IsReading (cond s (45 ∷ []) [] ++ (xs ++ 101 ∷ 45 ∷ decimal (k + 1))) (signed s n) (negsuc k)
  minus_form k small =
      let text = cond s (45 ∷ []) [] ++ (xs ++ 101 ∷ 45 ∷ decimal (k + 1)) in
      let sign = signed_text s xs (101 ∷ 45 ∷ decimal (k + 1)) d some in
      let numeral = decimal_is_IsNumeral_wide (k + 1) small in
      let number : digits_value 10 (xs ++ []) ≡ n = ap (digits_value 10) (append-nil xs) ∙ value in
      let size = numeral.1 in
      let exponent : exponent_value (101 ∷ 45 ∷ decimal (k + 1)) ≡ negsuc k = ap (λ v. neg_ℤ (pos v)) numeral.1 ∙ omega (arith, ints) in
      reading text xs [] (101 ∷ 45 ∷ decimal (k + 1)) s (signed s n) (negsuc k) (cut_mark text xs (45 ∷ decimal (k + 1)) sign.0 d) sign.1 d tt some
      (numeral.0.0, numeral.0.1)
      (ap₂ (λ v e. decimal_value (signed s v) (e -ℤ pos 0)) number exponent ∙ ap (decimal_value (signed s n)) (omega (arith, ints)))

  form_of : (e : ℤ) → unsigned_abs e ≤ 400 → IsReading (cond s (45 ∷ []) [] ++ scaled_text xs e) (signed s n) e
  form_of (pos k) h = by (nat_le k 20)
    where
      by : (t : Bool) → IsReading (cond s (45 ∷ []) [] ++ cond t (xs ++ zeros k) (xs ++ 101 ∷ decimal k)) (signed s n) (pos k)
      by true = plain_form k
      by false = mark_form k (lt_of_le_of_lt h (lit< tt))
  form_of (negsuc k) h = by (nat_le (k + 1) 38)
    where
      by : (t : Bool) → IsReading (cond s (45 ∷ []) [] ++ cond t (with_point (k + 1) (padded (k + 1) xs)) (xs ++ 101 ∷ 45 ∷ decimal (k + 1))) (signed s n) (negsuc k)
      by true = point_form k
      by false = let near : k + 1 ≤ 400 = omega arith in minus_form k (lt_of_le_of_lt near (lit< tt))

pub is_reading : (m e : ℤ) → IsDec m e → IsReading (dec_text m e) m e
is_reading m e dec =
    let numeral = decimal_is_IsNumeral_wide (unsigned_abs m) (lt_trans dec.mantissa (lit< tt)) in
    subst (λ z. IsReading (dec_text m e) z e) (signed_self m) (form_of (int_lt m (pos 0)) (unsigned_abs m) (decimal (unsigned_abs m)) numeral.0.1 numeral.0.0 numeral.1 e dec.exponent)
