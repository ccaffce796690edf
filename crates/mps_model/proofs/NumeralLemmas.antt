-- Names that are a letter and a number.
use Rattle.std.proofs.Common.{◌≡◌, ◌≢◌, ◌∙◌, ℕ, zero, suc, ◌+◌, ◌<◌, ◌≤◌, ◌^◌, Bool, true, false, ◌&&◌, cond, ltb, List, [], ◌∷◌, length, get_or, drop, Option, Some, None, refl, sym, ap, subst, arith}
use Rattle.std.specs.Prelude.{option_map, position, MatchOption}
use Rattle.std.specs.Fmt.{decimal}
use Rattle.std.specs.List.{range_with_len}
use Rattle.std.specs.Str.{bytes_eq}
use Rattle.std.specs.Str.Parse.{AllDigits, digits_value}
use Rattle.std.proofs.lemmas.Bool.{lt-ltb, ltb-true}
use Rattle.std.proofs.lemmas.Bool.Decides.{nat_tests}
use Rattle.std.proofs.lemmas.Fmt.{decimal_is_IsNumeral, decimal_digit, decimal_injective, decimal-digits_value, first_decimal}
use Rattle.std.proofs.lemmas.List.FromFn.{length-range_with_len, get_or-range_with_len}
use Rattle.std.proofs.lemmas.List.Quantifiers.{position-Some}
use Rattle.std.proofs.lemmas.Slice.Eq.{bytes_eq-Decides}
use Rattle.std.proofs.lemmas.Str.Parse.{IsNumeralModel}
use Rattle.exact_numbers.specs.Numbers.{are_digits, whole_of}
use Rattle.exact_numbers.proofs.NumberLemmas.{first_of_both, second_of_both, digits_are, are_digits-some, are_digits-all}
use Rattle.text_base.proofs.NamePlaces.{bytes_other}
use Rattle.mps_model.specs.Names.{index_named}

-- ---- numbers without zeros in front

own : IsNumeralModel (AllDigits 10) (digits_value 10)
own = record { to = λ ds p. p; from = λ ds p. p; same = λ ds p. refl }

pub zeros_in_front : (ds : List ℕ) → 1 < length ds → get_or ds 0 0 ≡ 48 → (n : ℕ) → n < 2 ^ 31 → decimal n ≢ ds
zeros_in_front ds long first zero h e = absurd (omega (arith, long, ap length (sym (decimal_digit 0 (omega arith)) ∙ e)))
zeros_in_front ds long first (suc n) h e = absurd (omega (arith, first, first_decimal (suc n) (omega arith) (omega (arith, h)), ap (λ (t : List ℕ). get_or t 0 0) e))

abbrev pub IsNumber : List ℕ → Option ℕ → Type 0
IsNumber ds o = MatchOption o ((n : ℕ) → n < 2 ^ 31 → decimal n ≢ ds) (λ n. (n < 2 ^ 31) × (decimal n ≡ ds))

pub is_number : (ds : List ℕ) → (get_or ds 0 0 ≡ 48 → length ds ≡ 1) → IsNumber ds (whole_of ds)
unfolding whole_of
is_number ds front = by (are_digits ds && ltb (digits_value 10 ds) (2 ^ 31)) refl
  where
    by : (b : Bool) → (are_digits ds && ltb (digits_value 10 ds) (2 ^ 31)) ≡ b → IsNumber ds (cond b (Some (digits_value 10 ds)) None)
    by true e =
        let digits = first_of_both _ _ e in
        let small : digits_value 10 ds < 2 ^ 31 = ltb-true _ _ (second_of_both (are_digits ds) _ e) in
        (small, decimal-digits_value own ds (are_digits-all ds digits) (are_digits-some ds digits) front (omega (arith, small)))
    by false e = λ n h same.
        let numeral = decimal_is_IsNumeral n (omega (arith, h)) in
        let digits : are_digits ds ≡ true = subst (λ (t : List ℕ). are_digits t ≡ true) same (digits_are (decimal n) numeral.0.0 numeral.0.1) in
        let value : digits_value 10 ds ≡ n = subst (λ (t : List ℕ). digits_value 10 t ≡ n) same numeral.1 in
        let small : ltb (digits_value 10 ds) (2 ^ 31) ≡ true = lt-ltb _ _ (omega (arith, value, h)) in
        absurd (cc (e, digits, small))

-- ---- places of names

pub position-cons : {X : Type 0} (p : X → Bool) (x : X) (xs : List X) → position p (x ∷ xs) ≡ cond (p x) (Some 0) (option_map suc (position p xs))
position-cons p x xs = grind (arith, nat_tests)

pub place_first : (p : ℕ → Bool) (n a k : ℕ) → k < n → p (a + k) ≡ true → ((j : ℕ) → j < k → p (a + j) ≡ false) → position p (range_with_len a n) ≡ Some k
place_first p zero a k h here before = absurd (omega arith)
place_first p (suc n) a zero h here before = let now : p a ≡ true = ap p (omega arith) ∙ here in rw (position-cons p a (range_with_len (a + 1) n), now) refl
place_first p (suc n) a (suc k) h here before =
    let not_yet : p a ≡ false = ap p (omega arith) ∙ before 0 (omega arith) in
    rw (position-cons p a (range_with_len (a + 1) n), not_yet, place_first p n (a + 1) k (omega arith) (ap p (omega arith) ∙ here) (λ j less. ap p (omega arith) ∙ before (suc j) (omega arith))) refl

pub place_none : (p : ℕ → Bool) (n a : ℕ) → ((j : ℕ) → j < n → p (a + j) ≡ false) → position p (range_with_len a n) ≡ None
place_none p zero a none = refl
place_none p (suc n) a none =
    let not_here : p a ≡ false = ap p (omega arith) ∙ none 0 (omega arith) in
    rw (position-cons p a (range_with_len (a + 1) n), not_here, place_none p n (a + 1) (λ j less. ap p (omega arith) ∙ none (suc j) (omega arith))) refl

pub index_of : (letter n k : ℕ) (text : List ℕ) → n ≤ 2 ^ 31 → k < n → letter ∷ decimal k ≡ text → index_named (λ j. letter ∷ decimal j) n text ≡ Some k
unfolding index_named
index_of letter n k text few h e =
    place_first (λ j. bytes_eq (letter ∷ decimal j) text) n 0 k h
    ((bytes_eq-Decides (letter ∷ decimal (0 + k)) text).1 (ap (λ i. letter ∷ decimal i) (omega arith) ∙ e))
    (λ j less. bytes_other (letter ∷ decimal (0 + j)) text (λ same.
    let equal : 0 + j ≡ k = decimal_injective (0 + j) k (omega (arith, less, h, few)) (omega (arith, h, few)) (ap (drop 1) (same ∙ sym e)) in
    omega (arith, equal, less)))

pub no_index : (letter n : ℕ) (text : List ℕ) → ((j : ℕ) → j < n → letter ∷ decimal j ≢ text) → index_named (λ j. letter ∷ decimal j) n text ≡ None
unfolding index_named
no_index letter n text none = place_none (λ j. bytes_eq (letter ∷ decimal j) text) n 0
    (λ j less. bytes_other (letter ∷ decimal (0 + j)) text (λ same. none j less
    (ap (λ i. letter ∷ decimal i) (omega arith) ∙ same)))

pub one_zero : (ds : List ℕ) → length ds ≤ 1 → get_or ds 0 0 ≡ 48 → length ds ≡ 1
one_zero [] short first = absurd (omega (arith, first))
one_zero (b ∷ ds) short first = omega arith

-- the number of the name, where there is one
pub named_so : (name : ℕ → List ℕ) (n i : ℕ) (text : List ℕ) → index_named name n text ≡ Some i → (i < n) × (name i ≡ text)
unfolding index_named
named_so name n i text e =
    let at = position-Some (λ j. bytes_eq (name j) text) (range_with_len 0 n) i 0 e in
    let below : i < n = omega (arith, at.0, length-range_with_len 0 n) in
    let here : get_or (range_with_len 0 n) i 0 ≡ i = get_or-range_with_len 0 n i 0 below ∙ omega arith in
    (below, (bytes_eq-Decides (name i) text).0 (ap (λ j. bytes_eq (name j) text) (sym here) ∙ at.1))

-- ---- a letter and the rest

pub glued : (letter : ℕ) (digits text : List ℕ) → 1 ≤ length text → get_or text 0 0 ≡ letter → digits ≡ drop 1 text → letter ∷ digits ≡ text
glued letter digits [] some first rest = absurd (omega arith)
glued letter digits (b ∷ text) some first rest = cc

pub none_empty : (letter n : ℕ) (text : List ℕ) → length text < 1 → None ≡ index_named (λ j. letter ∷ decimal j) n text
none_empty letter n text short = sym (no_index letter n text (λ j less e. omega (arith, short, ap length e)))

pub none_other : (letter n : ℕ) (text : List ℕ) → get_or text 0 0 ≢ letter → None ≡ index_named (λ j. letter ∷ decimal j) n text
none_other letter n text ne = sym (no_index letter n text (λ j less e. ne (sym (ap (λ (t : List ℕ). get_or t 0 0) e))))

pub none_plain : (letter n : ℕ) (text : List ℕ) → n ≤ 2 ^ 31 → ((k : ℕ) → k < 2 ^ 31 → decimal k ≢ drop 1 text) → None ≡ index_named (λ j. letter ∷ decimal j) n text
none_plain letter n text few none = sym (no_index letter n text (λ j less e. none j (omega (arith, less, few)) (ap (drop 1) e)))

pub none_below : (letter n k : ℕ) (text : List ℕ) → n ≤ 2 ^ 31 → k < 2 ^ 31 → n ≤ k → decimal k ≡ drop 1 text → None ≡ index_named (λ j. letter ∷ decimal j) n text
none_below letter n k text few small above is =
    sym (no_index letter n text (λ j less e.
    let same : j ≡ k = decimal_injective j k (omega (arith, less, few)) (omega (arith, small)) (ap (drop 1) e ∙ sym is) in
    omega (arith, same, less, above)))
