-- A text of digits, with one point among them or none, after a sign or none, and an exponent or none.
use Rattle.std.proofs.Common.{◌≡◌, ◌≢◌, ℕ, zero, suc, ◌+◌, ◌-◌, ◌<◌, ◌≤◌, ◌^◌, ◌||◌, nat_eq, cond, Bool, true, false}
use Rattle.std.proofs.Common.{Option, Some, None, IfSome, refl, ◌∙◌, sym, ap, ap₂, arith, subst, List, [], ◌∷◌, ◌++◌}
use Rattle.std.proofs.Common.{length, take, drop, get_or, ℤ, pos, ◌-ℤ◌, unsigned_abs, lit<, append_assoc, append-nil}
use Rattle.std.proofs.Common.{length-drop, length-take-le, take-add}
use Rattle.std.proofs.lemmas.List.{take_more}
use Rattle.std.proofs.lemmas.Int.Digits.{digits_value-lt}
use Rattle.std.proofs.Math.Nat.{pow-le-pow_right}
use Rattle.std.proofs.lemmas.Bool.Decides.{nat_tests}
use Rattle.std.specs.Char.{digit_value}
use Rattle.std.specs.Str.Parse.{AllDigits, digits_value, digits_value_after}
use Rattle.exact_numbers.specs.Rational.{decimal_value}
use Rattle.exact_numbers.specs.Decimal.{signed}
use Rattle.exact_numbers.specs.Text.{begins_minus, after_sign, is_mark, IsDecText, text_value}
use Rattle.exact_numbers.specs.InsideFront.{IsBare, IsPlain, IsPower, IsFrontDec}
use Rattle.exact_numbers.specs.declared.dec.Dec.{Dec}
use Rattle.exact_numbers.specs.declared.front.FrontDec.{FrontDec}
use Rattle.exact_numbers.specs.Values.{dec_value}
use Rattle.exact_numbers.specs.Numbers.{IsUnmarked, dec_of, whole_of}
use Rattle.exact_numbers.proofs.Texts.{after-append, digit_byte}
use Rattle.exact_numbers.proofs.NumberLemmas.{dec_of-some, whole_of-some}
use Rattle.exact_numbers.proofs.Decimals.{size_of}
use Rattle.exact_numbers.proofs.Reading.{Cut, cut_plain, cut_point, reading, marked}

-- ---- bytes

digit_above : (b : ℕ) → digit_value b < 10 → 35 < b
digit_above b h = let byte = digit_byte b h in omega arith

pub digits_unmarked : (word : List ℕ) → AllDigits 10 word → IsUnmarked word
digits_unmarked [] d = tt
digits_unmarked (b ∷ word) d = (digit_above b d.0, digits_unmarked word d.1)

point_unmarked : (whole fraction : List ℕ) → AllDigits 10 whole → AllDigits 10 fraction → IsUnmarked (whole ++ 46 ∷ fraction)
point_unmarked [] fraction d df = (omega arith, digits_unmarked fraction df)
point_unmarked (b ∷ whole) fraction d df = (digit_above b d.0, point_unmarked whole fraction d.1 df)

is_sign : (b : ℕ) → (nat_eq b 43 || nat_eq b 45) ≡ true → 35 < b
is_sign b e = grind (arith, nat_tests)

-- with the sign in front, or none
sign_unmarked : (text : List ℕ) → IsUnmarked (after_sign text) → IsUnmarked text
sign_unmarked [] all = tt
sign_unmarked (b ∷ text) all = by (nat_eq b 43 || nat_eq b 45) refl all
  where
    by : (t : Bool) → (nat_eq b 43 || nat_eq b 45) ≡ t → IsUnmarked (cond t text (b ∷ text)) → IsUnmarked (b ∷ text)
    by true e h = (is_sign b e, h)
    by false e h = h

-- ---- the front of a text

-- what ends so many bytes after the sign: it has the same sign
record Begins (text : List ℕ) (n len : ℕ) : Type 0 where
  within : len ≤ length text
  some : 0 < len
  few : len ≤ n + 1
  sign : begins_minus (take len text) ≡ begins_minus text
  rest : after_sign (take len text) ≡ take n (after_sign text)

front_of : (text : List ℕ) (n len : ℕ) → 0 < n → n ≤ length (after_sign text) → len ≡ length text - length (after_sign text) + n → Begins text n len
front_of [] n len some within is = absurd (omega arith)
front_of (b ∷ text) zero len some within is = absurd (omega arith)
front_of (b ∷ text) (suc n) len some within is = by (nat_eq b 43 || nat_eq b 45) refl within is
  where
    by : (t : Bool) → (nat_eq b 43 || nat_eq b 45) ≡ t → suc n ≤ length (cond t text (b ∷ text)) → len ≡ suc (length text) - length (cond t text (b ∷ text)) + suc n → Begins (b ∷ text) (suc n) len
    by true e h l =
        let whole : len ≡ suc (suc n) = omega arith in
        record {
          within = omega arith;
          some = omega arith;
          few = omega arith;
          sign = ap (λ k. begins_minus (take k (b ∷ text))) whole;
          rest = ap (λ k. after_sign (take k (b ∷ text))) whole ∙ ap (λ t. cond t (take (suc n) text) (b ∷ take (suc n) text)) e ∙ sym (ap (λ t. take (suc n) (cond t text (b ∷ text))) e);
        }
    by false e h l =
        let whole : len ≡ suc n = omega arith in
        record {
          within = omega arith;
          some = omega arith;
          few = omega arith;
          sign = ap (λ k. begins_minus (take k (b ∷ text))) whole;
          rest = ap (λ k. after_sign (take k (b ∷ text))) whole ∙ ap (λ t. cond t (take n text) (b ∷ take n text)) e ∙ sym (ap (λ t. take (suc n) (cond t text (b ∷ text))) e);
        }

-- ---- without an exponent

bare_of : (word whole fraction : List ℕ) (s : Bool) (size places : ℕ) → Cut word whole fraction []
    → begins_minus word ≡ s → AllDigits 10 whole → AllDigits 10 fraction → 0 < length whole
    → digits_value 10 (whole ++ fraction) ≡ size → length fraction ≡ places → IsBare word s size places
bare_of word whole fraction s size places c sign d df some number deep = record {
  is = (reading word whole fraction [] s _ _ c sign d df some tt refl).is;
  bare = c.exponent_is;
  sign = sign;
  digits = ap₂ (λ xs ys. digits_value 10 (xs ++ ys)) c.whole_is c.fraction_is ∙ number;
  after = ap length c.fraction_is ∙ deep;
}

-- digits alone
pub plain_digits : (text body : List ℕ) (s : Bool) (n size len : ℕ) → body ≡ after_sign text → s ≡ begins_minus text
    → n ≢ 0 → n ≤ length body → n ≤ 18 → AllDigits 10 (take n body) → size ≡ digits_value_after 10 0 (take n body)
    → len ≡ length text - length body + n → IsPlain text s size 0 len
plain_digits text body s n size len e minus more within few d value is =
    let f = front_of text n len (omega (arith, more)) (subst (λ xs. n ≤ length xs) e within) (is ∙ ap (λ xs. length text - length xs + n) e) in
    let digits = take n body in
    let rest : after_sign (take len text) ≡ digits = f.rest ∙ ap (take n) (sym e) in
    let number : digits_value 10 (digits ++ []) ≡ size = ap (digits_value 10) (append-nil digits) ∙ sym value in
    let long : length digits ≡ n = length-take-le n body within in
    record {
      within = f.within;
      some = f.some;
      few = omega (arith, f.few, few);
      short = omega arith;
      bare = bare_of (take len text) digits [] s size 0 (cut_plain (take len text) digits rest d) (f.sign ∙ sym minus) d tt (omega (arith, long, more)) number refl;
      unmarked = sign_unmarked (take len text) (subst IsUnmarked (sym rest) (digits_unmarked digits d));
    }

-- what stands before a byte and behind it
cut_front : (body : List ℕ) (n k : ℕ) → n < length body → take (n + 1 + k) body ≡ take n body ++ get_or body n 0 ∷ take k (drop (n + 1) body)
cut_front body n k within =
    take-add (n + 1) k body ∙ ap (λ xs. xs ++ take k (drop (n + 1) body)) (take_more body n 0 within)
    ∙ append_assoc (take n body) (get_or body n 0 ∷ []) (take k (drop (n + 1) body))

-- digits with a point behind the first n of them
pub plain_point : (text body fraction : List ℕ) (s : Bool) (n k front size len : ℕ) → body ≡ after_sign text
    → s ≡ begins_minus text → n ≢ 0 → n < length body → get_or body n 0 ≡ 46 → fraction ≡ drop (n + 1) body
    → k ≤ length fraction
    → n ≤ 18 → k ≤ 18 - n → AllDigits 10 (take n body) → front ≡ digits_value_after 10 0 (take n body) → AllDigits 10 (take k fraction) → size ≡ digits_value_after 10 front (take k fraction)
    → len ≡ length text - length body + n + 1 + k → IsPlain text s size k len
plain_point text body fraction s n k front size len e minus more within point behind fits few few_more d value df next is =
    let room : k ≤ length body - (n + 1) = omega (arith, fits, ap length behind, length-drop (n + 1) body) in
    let f = front_of text (n + 1 + k) len (omega arith) (subst (λ xs. n + 1 + k ≤ length xs) e (omega (arith, room, within))) (is ∙ ap (λ xs. length text - length xs + n + 1 + k) e ∙ omega arith) in
    let whole = take n body in
    let places = take k fraction in
    let rest : after_sign (take len text) ≡ whole ++ 46 ∷ places = f.rest ∙ ap (take (n + 1 + k)) (sym e) ∙ cut_front body n k within ∙ ap₂ (λ b xs. whole ++ b ∷ take k xs) point (sym behind) in
    let long : length whole ≡ n = length-take-le n body (omega (arith, within)) in
    let deep : length places ≡ k = length-take-le k fraction fits in
    let number : digits_value 10 (whole ++ places) ≡ size = after-append 0 whole places ∙ ap (λ v. digits_value_after 10 v places) (sym value) ∙ sym next in
    record {
      within = f.within;
      some = f.some;
      few = omega (arith, f.few, few, few_more);
      short = omega (arith, few_more);
      bare = bare_of (take len text) whole places s size k (cut_point (take len text) whole places rest d df) (f.sign ∙ sym minus) d df (omega (arith, long, more)) number deep;
      unmarked = sign_unmarked (take len text) (subst IsUnmarked (sym rest) (point_unmarked whole places d df));
    }

-- ---- an exponent

pub three_digits : (xs : List ℕ) (n size : ℕ) → n ≤ length xs → n ≤ 3 → AllDigits 10 (take n xs) → size ≡ digits_value_after 10 0 (take n xs) → size < 1000
three_digits xs n size within few d value =
    let small = digits_value-lt 10 (take n xs) d in
    let long = length-take-le n xs within in
    omega (arith, value, small, pow-le-pow_right {n = 10} (lit< tt) (subst (λ k. k ≤ 3) (sym long) few))

pub power_of : (text body : List ℕ) (s : Bool) (n size len : ℕ) (power : ℤ) → body ≡ after_sign text
    → s ≡ begins_minus text → n ≢ 0 → n ≤ length body → n ≤ 3 → AllDigits 10 (take n body)
    → size ≡ digits_value_after 10 0 (take n body)
    → power ≡ signed s size → len ≡ length text - length body + n → IsPower text power len
power_of text body s n size len power e minus more within few d value sign is =
    let f = front_of text n len (omega (arith, more)) (subst (λ xs. n ≤ length xs) e within) (is ∙ ap (λ xs. length text - length xs + n) e) in
    let digits = take n body in
    let rest : after_sign (take len text) ≡ digits = f.rest ∙ ap (take n) (sym e) in
    let small = three_digits body n size within few d value in
    record {
      within = f.within;
      few = omega (arith, f.few, few);
      short = omega (arith, small, ap unsigned_abs sign, size_of s size);
      is = subst (λ ys. (0 < length ys) × AllDigits 10 ys) (sym rest) (omega (arith, length-take-le n body within, more), d);
      value = ap₂ (λ t ys. signed t (digits_value 10 ys)) (f.sign ∙ sym minus) rest ∙ ap (signed s) (sym value) ∙ sym sign;
      unmarked = sign_unmarked (take len text) (subst IsUnmarked (sym rest) (digits_unmarked digits d));
    }

unmarked-append : (xs : List ℕ) (y : ℕ) (ys : List ℕ) → IsUnmarked xs → is_mark y ≡ true → IsUnmarked ys → IsUnmarked (xs ++ y ∷ ys)
unmarked-append [] y ys h e k = (grind (arith, nat_tests), k)
unmarked-append (x ∷ xs) y ys h e k = (h.0, unmarked-append xs y ys h.1 e k)

-- the value of a number with an exponent
pub marked_front : (text rest : List ℕ) (s : Bool) (size places n k len : ℕ) (power : ℤ) (d : Dec)
    → IsPlain text s size places n → n < length text → is_mark (get_or text n 0) ≡ true → rest ≡ drop (n + 1) text
    → IsPower rest power k
    → len ≡ n + 1 + k → dec_value d ≡ decimal_value (signed s size) (power -ℤ pos places) → IsFrontDec text d len
marked_front text rest s size places n k len power d p within mark behind x is same =
    let whole : take len text ≡ take n text ++ get_or text n 0 ∷ take k rest =
    ap (λ i. take i text) is ∙ cut_front text n k within ∙ ap (λ xs. take n text ++ get_or text n 0 ∷ take k xs)
    (sym behind) in
    let r = marked (take n text) s size places (get_or text n 0) (take k rest) p.bare mark x.is in
    record {
      within = omega (arith, is, x.within, ap length behind, length-drop (n + 1) text, within);
      some = omega (arith, is);
      few = omega (arith, is, p.few, x.few);
      is = subst IsDecText (sym whole) r.is;
      value = same ∙ ap (λ e. decimal_value (signed s size) (e -ℤ pos places)) (sym x.value) ∙ sym (ap text_value whole ∙ r.value);
      unmarked = subst IsUnmarked (sym whole) (unmarked-append (take n text) (get_or text n 0) (take k rest) p.unmarked mark x.unmarked);
    }

-- ---- words

-- the Dec of what is read is that of the word
front_word : (text : List ℕ) (d : Dec) (len : ℕ) → IsFrontDec text d len → (len ≤ length text) × (0 < len) × (len ≤ 40) × (dec_of (take len text) ≡ Some d) × IsUnmarked (take len text)
front_word text d len f = (f.within, f.some, f.few, dec_of-some (take len text) d f.is f.value, f.unmarked)

pub front_words : (text : List ℕ) (result : Option FrontDec) → IfSome result (λ f. IsFrontDec text f.value f.len)
    → IfSome result (λ f. (f.len ≤ length text) × (0 < f.len) × (f.len ≤ 40) × (dec_of (take f.len text) ≡ Some f.value)
    × IsUnmarked (take f.len text))
front_words text None h = tt
front_words text (Some f) h = front_word text f.value f.len h

pub index_is : (text : List ℕ) (n size : ℕ) → n ≤ length text → n ≤ 18 → n ≢ 0 → AllDigits 10 (take n text) → size ≡ digits_value 10 (take n text) → size < 2 ^ 31
    → (n ≤ length text) × (0 < n) × (whole_of (take n text) ≡ Some size) × IsUnmarked (take n text) × (n ≤ 18)
index_is text n size within few more d value small =
    let some : 0 < length (take n text) = omega (arith, length-take-le n text within, more) in
    (within, omega (arith, more), whole_of-some (take n text) size (some, d) value small, digits_unmarked (take n text) d, few)
