-- Names by their codes.
use Rattle.std.proofs.Common.{◌≡◌, ◌≢◌, ◌∙◌, ℕ, zero, suc, ◌+◌, ◌-◌, ◌*◌, ◌/◌, ◌%◌, ◌<◌, ◌≤◌, ◌^◌, List, [], ◌∷◌, ◌++◌}
use Rattle.std.proofs.Common.{Bool, true, false, length, map, take, drop, set, get_or, nat_eq, Option, Some, None, refl}
use Rattle.std.proofs.Common.{sym, ap, arith, subst, Fits, w8, ◌==◌, ◌⊎◌, inl, inr}
use Rattle.std.specs.Prelude.{All, AllPairs, IfSome, nat_le, nat_lt, fold, slice_get, option_map, unwrap_or}
use Rattle.std.specs.List.{position, list_any}
use Rattle.indexmap.specs.IndexSet.{insert_key}
use Rattle.std.specs.Str.{bytes_eq}
use Rattle.std.proofs.Math.Nat.{pow-le-pow_right}
use Rattle.std.proofs.lemmas.Bool.Decides.{nat_tests}
use Rattle.std.proofs.lemmas.Nat.{div-mul-add, mod-mul-add}
use Rattle.std.proofs.lemmas.Grind.{get_or_default_zero}
use Rattle.std.proofs.lemmas.List.{length-map, map-append, get_or-map, length-append, length-take-le, take_more}
use Rattle.std.proofs.lemmas.List.{take_all, take-map, get_or-take, get_or_default, drop-set, append_assoc, append-nil, get_or-append-add}
use Rattle.std.proofs.lemmas.List.{take-append-drop}
use Rattle.std.proofs.lemmas.List.Elements.{All-head, All-tail, All-push, All-take, All-get_or}
use Rattle.std.proofs.lemmas.List.Sums.{fold_push, fails_before_first}
use Rattle.std.proofs.lemmas.Option.{slice_get-map}
use Rattle.std.proofs.lemmas.List.Folds.{list_any_none}
use Rattle.std.proofs.Math.Seq.{get_or-append_seam}
use Rattle.text_base.specs.Names.{IsName, is_name, has_name_bytes}
use Rattle.mps_words.specs.InsideCodes.{with_byte, bytes_code, code_of, is_short, last_bytes, name_of, AreBytes, HaveCodes, NoneOrLong}
use Rattle.text_base.specs.Names.{place_of}
use Rattle.mps_words.specs.Names.{last_name}
use Rattle.mps_words.proofs.LastLemmas.{last_name-slice}
use Rattle.text_base.proofs.NamePlaces.{past_all, place_at, place_none, place_some, bytes_differ, bytes_same}
pub use Rattle.text_base.proofs.NameTests.{tested_name as named}
use Rattle.std.proofs.lemmas.List.Quantifiers.{all_pairs_push, position-Some}
use Rattle.std.proofs.lemmas.Bool.{and_parts, leb-true, ltb-true, lt-ltb, lt-leb, le-leb, eq-eqb, ne_eqb, cases_Bool}

-- ---- sizes

most : (n : ℕ) → n ≤ 15 → 256 ^ n ≤ 256 ^ 15
most n le = pow-le-pow_right (omega arith) le

pub code_fits : (code b place : ℕ) → code < 256 ^ place → b < 256 → place < 16 → code * 256 + b < 2 ^ 128
code_fits code b place small byte le = omega (arith, small, byte, most place (omega (arith, le)))

-- ---- the name of a code

pub are_bytes : (name : List ℕ) → ((i : ℕ) → Fits w8 (get_or name i 0)) → AreBytes name
are_bytes name fits = λ i d lt. let here : Fits w8 (get_or name i 0) = fits i in omega (arith, here, get_or_default_zero name i d lt)

code_on : (code : ℕ) (bytes : List ℕ) → 0 < code → 0 < fold with_byte code bytes
code_on code [] some = some
code_on code (b ∷ bytes) some = code_on (with_byte code b) bytes (omega (arith, some))

pub some_code : (bytes : List ℕ) → 0 < get_or bytes 0 0 → 0 < bytes_code bytes
some_code [] first = absurd (omega (arith, first))
some_code (b ∷ bytes) first = code_on (0 * 256 + b) bytes (omega (arith, first))

-- a number with one more byte has one more byte
more_bytes : (n code b : ℕ) → 0 < code * 256 + b → b < 256 → last_bytes (suc n) (code * 256 + b) ≡ last_bytes n code ++ b ∷ []
unfolding last_bytes
more_bytes n code b some byte =
    let large : nat_le (code * 256 + b) 0 ≡ false = lt-leb (code * 256 + b) 0 some in
    rw (large, div-mul-add code 256 b byte, mod-mul-add code 256 b byte) refl

no_bytes : (n : ℕ) → last_bytes n 0 ≡ []
unfolding last_bytes
no_bytes zero = refl
no_bytes (suc n) = refl

-- all bytes before the last, and that
by_end : (b : ℕ) (bytes : List ℕ) → b ∷ bytes ≡ take (length bytes) (b ∷ bytes) ++ get_or (b ∷ bytes) (length bytes) 0 ∷ []
by_end b bytes =
    let within : length bytes < length (b ∷ bytes) = omega arith in
    sym (take_all (length bytes + 1) (b ∷ bytes) (omega arith)) ∙ take_more (b ∷ bytes) (length bytes) 0 within

-- the first byte is there, and not 0, where any is
abbrev StartsSome : List ℕ → Type 0
StartsSome bytes = 0 < length bytes → 0 < get_or bytes 0 0

starts_front : (n : ℕ) (b : ℕ) (bytes : List ℕ) → 0 < b → StartsSome (take n (b ∷ bytes))
starts_front zero b bytes first = λ some. absurd (omega (arith, some))
starts_front (suc n) b bytes first = λ some. first

pub bytes_back : (n : ℕ) (bytes : List ℕ) → length bytes ≤ n → AreBytes bytes → StartsSome bytes → last_bytes n (bytes_code bytes) ≡ bytes
bytes_back n [] few h first = no_bytes n
bytes_back zero (b ∷ bytes) few h first = absurd (omega (arith, few))
bytes_back (suc n) (b ∷ bytes) few h first =
    let begins : 0 < b = first (omega arith) in
    let front = take (length bytes) (b ∷ bytes) in
    let last = get_or (b ∷ bytes) (length bytes) 0 in
    let within : length bytes < length (b ∷ bytes) = omega arith in
    let code : bytes_code (b ∷ bytes) ≡ bytes_code front * 256 + last = ap bytes_code (by_end b bytes) ∙ fold_push with_byte 0 front last in
    let size : length front ≤ n = omega (arith, few, length-take-le (length bytes) (b ∷ bytes) (omega arith)) in
    let back : last_bytes n (bytes_code front) ≡ front = bytes_back n front size (All-take (λ (c : ℕ). c < 256) (length bytes) (b ∷ bytes) h) (starts_front (length bytes) b bytes begins) in
    ap (last_bytes (suc n)) code ∙ more_bytes n (bytes_code front) last (omega (arith, code, some_code (b ∷ bytes) begins))
    (All-get_or (λ (c : ℕ). c < 256) (b ∷ bytes) (length bytes) 0 within h)
    ∙ ap (λ (cs : List ℕ). cs ++ last ∷ []) back ∙ sym (by_end b bytes)

pub few_bytes : (n code : ℕ) → length (last_bytes n code) ≤ n
unfolding last_bytes
few_bytes zero code = omega arith
few_bytes (suc n) code =
    let fewer = few_bytes n (code / 256) in
    elim (cases_Bool (nat_le code 0)) [
      | inl e ↦ rw e (omega arith)
      | inr e ↦ rw e (omega (arith, fewer, length-append (last_bytes n (code / 256)) (code % 256 ∷ [])))
    ]

-- the last byte is written before those behind it
pub byte_written : (bytes : List ℕ) (place left : ℕ) → 0 < place → place ≤ length bytes → 0 < left
    → last_bytes (place - 1) (left / 256) ++ drop (place - 1) (set bytes (place - 1) (left % 256))
    ≡ last_bytes place left ++ drop place bytes
unfolding last_bytes
byte_written bytes zero left some within more = absurd (omega (arith, some))
byte_written bytes (suc n) left some within more =
    let before : suc n - 1 ≡ n = omega arith in
    let next : n + 1 ≡ suc n = omega arith in
    let large : nat_le left 0 ≡ false = lt-leb left 0 more in
    let written : drop n (set bytes n (left % 256)) ≡ left % 256 ∷ drop (suc n) bytes = drop-set bytes n (left % 256) (omega (arith, within)) ∙ ap (λ (k : ℕ). left % 256 ∷ drop k bytes) next in
    ap (λ (k : ℕ). last_bytes k (left / 256) ++ drop k (set bytes k (left % 256))) before
    ∙ ap (λ (bs : List ℕ). last_bytes n (left / 256) ++ bs) written
    ∙ rw large (sym (append_assoc (last_bytes n (left / 256)) (left % 256 ∷ []) (drop (suc n) bytes)))

pub all_written : (place left : ℕ) → (place ≡ 0) ⊎ (left ≤ 0) → last_bytes place left ≡ []
unfolding last_bytes
all_written zero left done = refl
all_written (suc n) left (inl none) = absurd (omega (arith, none))
all_written (suc n) left (inr few) = rw (le-leb left 0 few) refl

starts_take : (n : ℕ) (text : List ℕ) → 0 < get_or text 0 0 → StartsSome (take n text)
starts_take n [] first = absurd (omega (arith, first))
starts_take n (b ∷ bytes) first = starts_front n b bytes first

pub after_found : (text : List ℕ) (passed code : ℕ) → AreBytes text → 0 < get_or text 0 0 → passed ≤ 16 → passed ≤ length text
    → code ≡ bytes_code (take passed text) → text ≡ name_of code ++ drop passed text
unfolding name_of
after_found text passed code h first few within e =
    let size : length (take passed text) ≤ 16 = omega (arith, few, length-take-le passed text within) in
    let back : last_bytes 16 code ≡ take passed text =
    ap (last_bytes 16) e ∙ bytes_back 16 (take passed text) size (All-take (λ (c : ℕ). c < 256) passed text h) (starts_take passed text first) in
    sym (take-append-drop passed text) ∙ ap (λ (bs : List ℕ). bs ++ drop passed text) (sym back)

-- what a short name is
pub record ShortName (name : List ℕ) : Type 0 where
  pub first : 0 < get_or name 0 0
  pub few : length name ≤ 16

pub short_name : (name : List ℕ) → is_short name ≡ true → ShortName name
short_name name e =
    let parts = and_parts (nat_lt 0 (get_or name 0 0)) (nat_le (length name) 16) e in
    record { first = ltb-true 0 (get_or name 0 0) parts.0; few = leb-true (length name) 16 parts.1 }

pub is_short_name : (name : List ℕ) → 0 < get_or name 0 0 → length name ≤ 16 → is_short name ≡ true
is_short_name name first few = rw (lt-ltb 0 (get_or name 0 0) first) (le-leb (length name) 16 few)

pub short_code : (name : List ℕ) → is_short name ≡ true → code_of name ≡ bytes_code name
unfolding code_of
short_code name e = rw e refl

pub short_above : (name : List ℕ) → is_short name ≡ true → 0 < code_of name
short_above name e = omega (arith, short_code name e, some_code name (short_name name e).first)

long_code : (name : List ℕ) → is_short name ≡ false → code_of name ≡ 0
unfolding code_of
long_code name e = rw e refl

short : (name : List ℕ) → 0 < code_of name → is_short name ≡ true
short name some = elim (cases_Bool (is_short name)) [
  | inl e ↦ e
  | inr e ↦ let none = long_code name e in absurd (omega (arith, some, none))
]

-- a name begins with no 0
name_begins : (name : List ℕ) → IsName name → 0 < get_or name 0 0
name_begins [] h = absurd (omega (arith, h.some))
name_begins (b ∷ bytes) h = omega (arith, leb-true 33 b (and_parts (nat_le 33 b) (has_name_bytes bytes) h.each).0)

-- the code of a code's name is not 0
named_above : (code : ℕ) → is_name (name_of code) ≡ true → 0 < code_of (name_of code)
unfolding name_of
named_above code e =
    let name = last_bytes 16 code in
    short_above name (is_short_name name (name_begins name (named name e)) (few_bytes 16 code))

pub name_back : (name : List ℕ) → AreBytes name → 0 < code_of name → name_of (code_of name) ≡ name
unfolding name_of
name_back name h some =
    let e = short name some in
    ap (last_bytes 16) (short_code name e) ∙ bytes_back 16 name (short_name name e).few h (λ there. (short_name name e).first)

pub same_name : (xs ys : List ℕ) → AreBytes xs → AreBytes ys → code_of xs ≡ code_of ys → 0 < code_of ys → xs ≡ ys
same_name xs ys hx hy e some =
    let first : 0 < code_of xs = omega (arith, e, some) in
    sym (name_back xs hx first) ∙ ap name_of e ∙ name_back ys hy some

-- ---- names

pub name_is : (name : List ℕ) → IsName name → is_name name ≡ true
name_is name h = rw h.each (grind (arith, nat_tests, h.some, h.most))

pub last_is_name : (names : List (List ℕ)) (name : List ℕ) → All (λ n. is_name n ≡ true) names → bytes_eq name (last_name names) ≡ true → 0 < length name → is_name name ≡ true
unfolding last_name
last_is_name [] name h e some = let none : length name ≡ 0 = ap length (bytes_same name [] e) in absurd (omega (arith, some, none))
last_is_name (n ∷ []) name h e some = ap is_name (bytes_same name n e) ∙ All-head (λ n. is_name n ≡ true) n [] h
last_is_name (n ∷ o ∷ names) name h e some = last_is_name (o ∷ names) name (All-tail (λ n. is_name n ≡ true) n (o ∷ names) h) e some

pub last_named : (names : List (List ℕ)) → All (λ n. is_name n ≡ true) names → 0 < length names → is_name (last_name names) ≡ true
unfolding last_name
last_named [] h some = absurd (omega (arith, some))
last_named (n ∷ []) h some = All-head (λ n. is_name n ≡ true) n [] h
last_named (n ∷ o ∷ names) h some = last_named (o ∷ names) (All-tail (λ n. is_name n ≡ true) n (o ∷ names) h) (omega arith)

-- ---- places

-- a name whose code stands at a place has that place
pub place_by_code : (names : List (List ℕ)) (codes name : List ℕ) (p : ℕ) → HaveCodes names codes → AreBytes name
    → p < length codes → get_or codes p 0 ≡ code_of name → 0 < code_of name → place_of names name ≡ Some p
place_by_code names codes name p h bytes within e some =
    let lt : p < length names = subst (λ (n : ℕ). p < n) (ap length h.coded ∙ length-map names code_of) within in
    let code : code_of (get_or names p []) ≡ code_of name =
    sym (get_or-map code_of names p [] 0 lt) ∙ sym (ap (λ (cs : List ℕ). get_or cs p 0) h.coded) ∙ e in
    let same : get_or names p [] ≡ name = same_name (get_or names p []) name (h.bytes p [] lt) bytes code some in
    sym (ap (place_of names) same) ∙ place_at names p [] h.apart lt

pub one_more_code : (names : List (List ℕ)) (codes name : List ℕ) → HaveCodes names codes → AreBytes name → IsName name
    → place_of names name ≡ None → length names < 2 ^ 21 → HaveCodes (names ++ name ∷ []) (codes ++ code_of name ∷ [])
one_more_code names codes name h bytes named new room = record {
  few = omega (arith, room, length-append names (name ∷ []));
  bytes = All-push AreBytes names name h.bytes bytes;
  named = All-push (λ n. is_name n ≡ true) names name h.named (name_is name named);
  apart = all_pairs_push (λ m n. m ≢ n) names name h.apart (λ k d lt same. bytes_differ name (get_or names k d) (place_none names name new k d lt) (sym same));
  coded = ap (λ (cs : List ℕ). cs ++ code_of name ∷ []) h.coded ∙ sym (map-append code_of names (name ∷ []));
}

-- a name whose code is none of these has no place
pub no_place : (names : List (List ℕ)) (codes name : List ℕ) → HaveCodes names codes → All (λ c. c ≢ code_of name) codes → place_of names name ≡ None
no_place names codes name h absent = by (place_of names name) refl
  where
    by : (o : Option ℕ) → place_of names name ≡ o → place_of names name ≡ None
    by None e = e
    by (Some i) e =
        let at = place_some names name i e in
        let within : i < length codes = omega (arith, at.within, ap length h.coded, length-map names code_of) in
        let code : get_or codes i 0 ≡ code_of name = ap (λ (cs : List ℕ). get_or cs i 0) h.coded ∙ get_or-map code_of names i [] 0 at.within ∙ ap code_of (sym at.same) in
        absurd (absent i 0 within code)

-- ---- names that are kept as codes

-- of names that differ, each is new behind those before it
pub new_behind : (codes : List ℕ) (i : ℕ) → AllPairs (λ m n. m ≢ n) (map name_of codes) → i < length codes → place_of (map name_of (take i codes)) (name_of (get_or codes i 0)) ≡ None
new_behind codes i apart lt = by (place_of (map name_of (take i codes)) (name_of (get_or codes i 0))) refl
  where
    by : (o : Option ℕ) → place_of (map name_of (take i codes)) (name_of (get_or codes i 0)) ≡ o → place_of (map name_of (take i codes)) (name_of (get_or codes i 0)) ≡ None
    by None e = e
    by (Some j) e =
        let at = place_some (map name_of (take i codes)) (name_of (get_or codes i 0)) j e in
        let below : j < i = omega (arith, at.within, length-map (take i codes) name_of, length-take-le i codes (omega (arith, lt))) in
        let within : i < length (map name_of codes) = omega (arith, lt, length-map codes name_of) in
        let here : get_or (map name_of (take i codes)) j [] ≡ get_or (map name_of codes) j [] =
        ap (λ (ns : List (List ℕ)). get_or ns j []) (sym (take-map name_of i codes))
        ∙ get_or-take i (map name_of codes) j [] below in
        absurd (apart j i [] below within (sym here ∙ sym at.same ∙ sym (get_or-map name_of codes i 0 [] lt)))

-- each code is that of its name
pub code_at : (codes : List ℕ) (p : ℕ) → HaveCodes (map name_of codes) codes → p < length codes → code_of (name_of (get_or codes p 0)) ≡ get_or codes p 0
code_at codes p h lt =
    let within : p < length (map name_of codes) = omega (arith, lt, length-map codes name_of) in
    sym (ap (λ (cs : List ℕ). get_or cs p 0) h.coded ∙ get_or-map code_of (map name_of codes) p [] 0 within ∙ ap code_of (get_or-map name_of codes p 0 [] lt))

-- codes of names are not 0
pub code_above : (codes : List ℕ) (p : ℕ) → HaveCodes (map name_of codes) codes → p < length codes → 0 < get_or codes p 0
code_above codes p h lt =
    let within : p < length (map name_of codes) = omega (arith, lt, length-map codes name_of) in
    let name : is_name (name_of (get_or codes p 0)) ≡ true = sym (ap is_name (get_or-map name_of codes p 0 [] lt)) ∙ h.named p [] within in
    omega (arith, code_at codes p h lt, named_above (get_or codes p 0) name)

-- what a search for a code finds
pub found_place : (codes name : List ℕ) (code : ℕ) (r : Option ℕ) → code ≡ code_of name
    → HaveCodes (map name_of codes) codes → AreBytes name → IfSome r (λ p. p < length codes)
    → IfSome r (λ p. get_or codes p 0 ≡ code) → (r ≡ None → All (λ c. c ≢ code) codes)
    → r ≡ place_of (map name_of codes) name
found_place codes name code None is h bytes within found absent = sym (no_place (map name_of codes) codes name h (subst (λ (n : ℕ). All (λ c. c ≢ n) codes) is (absent refl)))
found_place codes name code (Some p) is h bytes within found absent =
    let same : get_or codes p 0 ≡ code_of name = found ∙ is in
    let some : 0 < code_of name = omega (arith, same, code_above codes p h within) in
    sym (place_by_code (map name_of codes) codes name p h bytes within same some)

pub last_by_code : (codes : List ℕ) (o : Option ℕ) (code : ℕ) → o ≡ slice_get codes (length codes - 1) → o ≡ Some code → last_name (map name_of codes) ≡ name_of code
last_by_code codes o code e is =
    last_name-slice (map name_of codes)
    ∙ ap (λ (n : ℕ). unwrap_or (slice_get (map name_of codes) (n - 1)) []) (length-map codes name_of)
    ∙ ap (λ n. unwrap_or n []) (slice_get-map name_of codes (length codes - 1) ∙ ap (option_map name_of) (sym e ∙ is))

pub no_last : (codes : List ℕ) (o : Option ℕ) → o ≡ slice_get codes (length codes - 1) → o ≡ None → last_name (map name_of codes) ≡ []
no_last codes o e is =
    last_name-slice (map name_of codes)
    ∙ ap (λ (n : ℕ). unwrap_or (slice_get (map name_of codes) (n - 1)) []) (length-map codes name_of)
    ∙ ap (λ n. unwrap_or n []) (slice_get-map name_of codes (length codes - 1) ∙ ap (option_map name_of) (sym e ∙ is))

-- a name is the last one where its code is
pub same_test : (name : List ℕ) (code : ℕ) → AreBytes name → AreBytes (name_of code) → code_of (name_of code) ≡ code → 0 < code → (code_of name == code) ≡ bytes_eq name (name_of code)
same_test name code hx hy e some = by (bytes_eq name (name_of code)) refl
  where
    by : (t : Bool) → bytes_eq name (name_of code) ≡ t → (code_of name == code) ≡ bytes_eq name (name_of code)
    by true is = eq-eqb (code_of name) code (ap code_of (bytes_same name (name_of code) is) ∙ e) ∙ sym is
    by false is = ne_eqb (code_of name) code (λ same. bytes_differ name (name_of code) is (same_name name (name_of code) hx hy (same ∙ sym e) (omega (arith, e, some)))) ∙ sym is

-- ---- codes of short names before others

-- where all codes are those of short names, there are none behind
pub none_behind : (short behind : List ℕ) → All (λ c. 0 < c) (short ++ behind) → NoneOrLong behind → short ≡ short ++ behind
none_behind short [] h first = sym (append-nil short)
none_behind short (c ∷ behind) h first =
    let some : 0 < get_or (short ++ c ∷ behind) (length short) 0 = h (length short) 0 (omega (arith, length-append short (c ∷ behind))) in
    absurd (omega (arith, some, first, get_or-append_seam short c behind 0))

-- what the place of a code says
pub code_absent : (codes : List ℕ) (code : ℕ) → position (nat_eq code) codes ≡ None → All (λ c. c ≢ code) codes
code_absent codes code none = λ k d lt same.
    let other : (code == get_or codes k d) ≡ false = fails_before_first (nat_eq code) codes k d (omega (arith, lt, past_all (nat_eq code) codes none)) in
    let here : (code == get_or codes k d) ≡ true = eq-eqb code (get_or codes k d) (sym same) in
    absurd cc

pub code_found : (codes : List ℕ) (code : ℕ) (r : Option ℕ) → r ≡ position (nat_eq code) codes → IfSome r (λ p. get_or codes p 0 ≡ code)
code_found codes code None is = tt
code_found codes code (Some p) is = let at = position-Some (nat_eq code) codes p 0 (sym is) in sym (grind (arith, nat_tests, at.1))

-- a code that is absent goes last
pub code_pushed : (codes : List ℕ) (code : ℕ) → All (λ c. c ≢ code) codes → insert_key nat_eq codes code ≡ codes ++ code ∷ []
code_pushed codes code h =
    let absent : list_any (nat_eq code) codes ≡ false = list_any_none (nat_eq code) codes (λ k d lt. ne_eqb code (get_or codes k d) (λ same. h k d lt (sym same))) in
    rw absent refl

-- a code behind those of at most eight bytes, where none is wide
pub narrow_more : (narrow wide codes more : List ℕ) (code : ℕ) → narrow ++ wide ≡ codes → length wide ≡ 0
    → All (λ c. c ≢ code) codes → more ≡ insert_key nat_eq narrow code → more ++ wide ≡ codes ++ code ∷ []
narrow_more narrow [] codes more code same none h is =
    let all : narrow ≡ codes = sym (append-nil narrow) ∙ same in
    append-nil more ∙ is ∙ ap (λ (cs : List ℕ). insert_key nat_eq cs code) all ∙ code_pushed codes code h
narrow_more narrow (c ∷ wide) codes more code same none h is = absurd (omega (arith, none))

-- a code behind wide ones
pub wide_more : (narrow wide codes more : List ℕ) (code : ℕ) → narrow ++ wide ≡ codes
    → All (λ c. c ≢ code) codes → more ≡ insert_key nat_eq wide code → narrow ++ more ≡ codes ++ code ∷ []
wide_more narrow wide codes more code same h is =
    let absent : All (λ c. c ≢ code) wide = λ k d lt equal.
    let within : length narrow + k < length codes = omega (arith, lt, length-append narrow wide, ap length same) in
    let here : get_or codes (length narrow + k) d ≡ get_or wide k d = ap (λ (cs : List ℕ). get_or cs (length narrow + k) d) (sym same) ∙ get_or-append-add narrow wide k d in
    h (length narrow + k) d within (here ∙ equal) in
    ap (λ (cs : List ℕ). narrow ++ cs) (is ∙ code_pushed wide code absent) ∙ sym (append_assoc narrow wide (code ∷ []))
    ∙ ap (λ (cs : List ℕ). cs ++ code ∷ []) same

-- the place of a code among the wide ones is behind the others
pub found_behind : (narrow wide codes slice : List ℕ) (p code : ℕ) → narrow ++ wide ≡ codes → slice ≡ narrow
    → get_or wide p 0 ≡ code → get_or codes (length slice + p) 0 ≡ code
found_behind narrow wide codes slice p code same is here =
    ap (λ (cs : List ℕ). get_or cs (length slice + p) 0) (sym same)
    ∙ ap (λ (cs : List ℕ). get_or (narrow ++ wide) (length cs + p) 0) is ∙ get_or-append-add narrow wide p 0 ∙ here

-- a code behind short ones, where none is behind those
pub pushed_short : (short behind codes more : List ℕ) (code : ℕ) → short ++ behind ≡ codes → length behind ≡ 0
    → more ≡ short ++ code ∷ [] → more ++ behind ≡ codes ++ code ∷ []
pushed_short short [] codes more code same none is =
    append-nil more ∙ is ∙ ap (λ (cs : List ℕ). cs ++ code ∷ []) (sym (append-nil short) ∙ same)
pushed_short short (c ∷ behind) codes more code same none is = absurd (omega (arith, none))

-- a code that is absent is none of the short ones
pub absent_short : (short behind codes : List ℕ) (code : ℕ) → short ++ behind ≡ codes → length behind ≡ 0
    → All (λ c. c ≢ code) codes → All (λ c. c ≢ code) short
absent_short short [] codes code same none h = subst (λ (cs : List ℕ). All (λ c. c ≢ code) cs) (sym same ∙ append-nil short) h
absent_short short (c ∷ behind) codes code same none h = absurd (omega (arith, none))

-- a short name that is new has a new code
pub fresh_code : (names : List (List ℕ)) (codes name : List ℕ) (code : ℕ) → HaveCodes names codes → code ≡ code_of name
    → AreBytes name → place_of names name ≡ None → 0 < code → All (λ c. c ≢ code) codes
fresh_code names codes name code h is bytes new some = λ k d lt same.
    let within : k < length names = omega (arith, lt, ap length h.coded, length-map names code_of) in
    let own : code_of (get_or names k []) ≡ code_of name =
    sym (get_or-map code_of names k [] d within) ∙ sym (ap (λ (cs : List ℕ). get_or cs k d) h.coded) ∙ same ∙ is in
    let equal : get_or names k [] ≡ name = same_name (get_or names k []) name (h.bytes k [] within) bytes own (omega (arith, is, some)) in
    absurd (bytes_differ name (get_or names k []) (place_none names name new k [] within) (sym equal))

-- codes of short names are not 0
pub all_some : (codes : List ℕ) → HaveCodes (map name_of codes) codes → All (λ c. 0 < c) codes
all_some codes h = λ k d lt. omega (arith, code_above codes k h lt, get_or_default codes k d 0 lt)
