-- Short names that a text begins with.
use Rattle.std.proofs.Common.{◌≡◌, ◌≢◌, ◌∙◌, ℕ, zero, suc, ◌+◌, ◌-◌, ◌*◌, ◌/◌, ◌<◌, ◌≤◌, ◌^◌, List, [], ◌∷◌, ◌++◌}
use Rattle.std.proofs.Common.{length, take, drop, get_or, Bool, true, false, refl, sym, ap, ap₂, arith, subst, Option, Some, None}
use Rattle.std.proofs.Common.{mul-le-mul_right}
use Rattle.std.specs.Prelude.{IfSome, fold}
use Rattle.std.proofs.lemmas.Nat.{div-mul-add, pow-add}
use Rattle.std.proofs.lemmas.Grind.{pow_more}
use Rattle.std.proofs.lemmas.List.{length-take-le, length-drop, take-append-drop, drop_more, take_at}
use Rattle.std.proofs.Math.Seq.{take-add}
use Rattle.std.proofs.lemmas.List.Elements.{All-head, All-tail, All-take, All-drop}
use Rattle.std.proofs.lemmas.List.Sums.{fold-append}
use Rattle.std.specs.Str.{bytes_eq}
use Rattle.text_base.specs.Names.{is_name}
use Rattle.mps_model.specs.Valid.{marker_word}
use Rattle.text_base.proofs.NamePlaces.{place_some, bytes_same}
use Rattle.mps_words.specs.InsideCodes.{AreBytes, HaveCodes, IsFound, IsShort, code_of, name_of, with_byte}
use Rattle.text_base.specs.Names.{place_of}
use Rattle.mps_words.proofs.CodeLemmas.{is_short_name, short_code, short_above, name_back, place_by_code, named}

-- bytes as the digits of a number
abbrev value : List ℕ → ℕ
value bytes = fold with_byte 0 bytes

-- one more place
power_more : (b : ℕ) (bytes : List ℕ) → 256 ^ length bytes * 256 ≡ 256 ^ length (b ∷ bytes)
power_more b bytes = sym (pow_more 256 (length bytes)) ∙ ap (λ (k : ℕ). 256 ^ k) (omega arith)

-- the digits behind a number
value_behind : (n : ℕ) (bytes : List ℕ) → fold with_byte n bytes ≡ n * 256 ^ length bytes + value bytes
value_behind n [] = omega arith
value_behind n (b ∷ bytes) =
    let p = 256 ^ length bytes in
    let second : (0 * 256 + b) * p + value bytes ≡ value (b ∷ bytes) = sym (value_behind (0 * 256 + b) bytes) in
    let apart : (n * 256 + b) * p + value bytes ≡ n * (p * 256) + ((0 * 256 + b) * p + value bytes) = omega arith in
    value_behind (n * 256 + b) bytes ∙ apart ∙ ap (λ (v : ℕ). n * (p * 256) + v) second ∙ ap (λ (q : ℕ). n * q + value (b ∷ bytes)) (power_more b bytes)

value_below : (bytes : List ℕ) → AreBytes bytes → value bytes < 256 ^ length bytes
value_below [] h = omega arith
value_below (b ∷ bytes) h =
    let byte : b ≤ 255 = omega (arith, All-head (λ (c : ℕ). c < 256) b bytes h) in
    let less = value_below bytes (All-tail (λ (c : ℕ). c < 256) b bytes h) in
    let whole : value (b ∷ bytes) ≡ (0 * 256 + b) * 256 ^ length bytes + value bytes = value_behind (0 * 256 + b) bytes in
    let most : b * 256 ^ length bytes ≤ 255 * 256 ^ length bytes = mul-le-mul_right (256 ^ length bytes) byte in
    omega (arith, less, whole, most, power_more b bytes)

pow_bits : (n : ℕ) → 2 ^ (8 * n) ≡ 256 ^ n
pow_bits zero = refl
pow_bits (suc n) =
    let more : 2 ^ (8 * suc n) ≡ 2 ^ (8 * n) * 2 ^ 8 = ap (λ (k : ℕ). 2 ^ k) (omega arith) ∙ pow-add 2 (8 * n) 8 in
    let last : 256 ^ n * 256 ≡ 256 ^ suc n = sym (pow_more 256 n) ∙ ap (λ (k : ℕ). 256 ^ k) (omega arith) in
    omega (arith, more, last, pow_bits n)

-- the first digits are left where the last ones are taken away
value_front : (front behind : List ℕ) → AreBytes behind → value (front ++ behind) / 2 ^ (8 * length behind) ≡ value front
value_front front behind h =
    let whole : value (front ++ behind) ≡ value front * 256 ^ length behind + value behind = fold-append with_byte 0 front behind ∙ value_behind (value front) behind in
    ap (λ (n : ℕ). n / 2 ^ (8 * length behind)) whole
    ∙ ap (λ (n : ℕ). (value front * 256 ^ length behind + value behind) / n) (pow_bits (length behind))
    ∙ div-mul-add (value front) (256 ^ length behind) (value behind) (value_below behind h)

-- the first bytes of the number of the first n
head_front : (n : ℕ) (text : List ℕ) (head size : ℕ) → AreBytes text → n ≤ length text → head ≡ value (take n text) → size ≤ n → head / 2 ^ (8 * n - 8 * size) ≡ value (take size text)
head_front n text head size h long is few =
    let front = take size text in
    let after = drop size text in
    let behind = take (n - size) after in
    let all : n ≡ size + (n - size) = omega (arith, few) in
    let parts : take n text ≡ front ++ behind = ap (λ (k : ℕ). take k text) all ∙ take-add size (n - size) text in
    let bits : 8 * n - 8 * size ≡ 8 * length behind = omega (arith, few, long, length-drop size text, length-take-le (n - size) after (omega (arith, few, long, length-drop size text))) in
    let bytes : AreBytes behind = All-take (λ (c : ℕ). c < 256) (n - size) after (All-drop (λ (c : ℕ). c < 256) size text h) in
    ap (λ (k : ℕ). head / 2 ^ k) bits ∙ ap (λ (k : ℕ). k / 2 ^ (8 * length behind)) (is ∙ ap value parts)
    ∙ value_front front behind bytes

-- the first byte of a text with a head
first_byte : (text : List ℕ) (head : ℕ) → AreBytes text → 8 ≤ length text → head ≡ value (take 8 text) → head / 2 ^ 56 ≡ get_or text 0 0
first_byte [] head h long is = absurd (omega (arith, long))
first_byte (b ∷ text) head h long is = head_front 8 (b ∷ text) head 1 h long is (omega arith) ∙ omega arith

pub head_begins : (text : List ℕ) (head : ℕ) → AreBytes text → 8 ≤ length text → head ≡ value (take 8 text) → 0 < head / 2 ^ 56 → 0 < get_or text 0 0
head_begins text head h long is first = omega (arith, first, first_byte text head h long is)

-- the number of the first sixteen bytes
pub both_heads : (text : List ℕ) (head tail : ℕ) → 8 ≤ length (drop 8 text) → head ≡ value (take 8 text) → tail ≡ value (take 8 (drop 8 text))
    → head * 2 ^ 64 + tail ≡ value (take 16 text)
both_heads text head tail long front behind =
    let after = take 8 (drop 8 text) in
    let size : length after ≡ 8 = length-take-le 8 (drop 8 text) long in
    let parts : take 16 text ≡ take 8 text ++ after = take-add 8 8 text in
    let whole : value (take 8 text ++ after) ≡ value (take 8 text) * 256 ^ length after + value after = fold-append with_byte 0 (take 8 text) after ∙ value_behind (value (take 8 text)) after in
    let moved : value (take 8 text) * 256 ^ length after + value after ≡ value (take 8 text) * 2 ^ 64 + value after = ap (λ (k : ℕ). value (take 8 text) * 256 ^ k + value after) size in
    ap₂ (λ (a b : ℕ). a * 2 ^ 64 + b) front behind ∙ sym (ap value parts ∙ whole ∙ moved)

first_front : (text : List ℕ) (n : ℕ) → 0 < n → get_or (take n text) 0 0 ≡ get_or text 0 0
first_front text zero some = absurd (omega (arith, some))
first_front [] (suc n) some = refl
first_front (b ∷ text) (suc n) some = refl

-- the name that the first n bytes begin with
pub head_name : (n : ℕ) (text rest : List ℕ) (head size end code : ℕ) → AreBytes text → n ≤ length text → n ≤ 16
    → head ≡ value (take n text) → 0 < size → size ≤ n → 0 < get_or text 0 0 → size < length text → get_or text size 0 ≡ end
    → rest ≡ drop (size + 1) text → code ≡ head / 2 ^ (8 * n - 8 * size) → IsShort text end code rest
head_name n text rest head size end code h long most is some few first within last after own =
    let small : length (take size text) ≡ size = length-take-le size text (omega (arith, within)) in
    let begins : 0 < get_or (take size text) 0 0 = omega (arith, first, first_front text size some) in
    let short = is_short_name (take size text) begins (omega (arith, small, few, most)) in
    record {
      name = take size text;
      parts = sym (take-append-drop size text) ∙ ap (λ (bs : List ℕ). take size text ++ bs) (drop_more text size 0 within ∙ ap₂ (λ (b : ℕ) (bs : List ℕ). b ∷ bs) last (sym after));
      short = short;
      own = own ∙ head_front n text head size h long is few ∙ sym (short_code (take size text) short);
    }

-- ---- names that are known

front_bytes : (text name more : List ℕ) → AreBytes text → text ≡ name ++ more → AreBytes name
front_bytes text name more h parts = subst AreBytes (ap (take (length name)) parts ∙ take_at name more (length name) refl) (All-take (λ (b : ℕ). b < 256) (length name) text h)

-- the name of the code is what the text begins with
short_back : (text rest : List ℕ) (end code : ℕ) → AreBytes text → IsShort text end code rest → text ≡ name_of code ++ end ∷ rest
short_back text rest end code h s =
    let bytes = front_bytes text s.name (end ∷ rest) h s.parts in
    let back : name_of code ≡ s.name = ap name_of s.own ∙ name_back s.name bytes (short_above s.name s.short) in
    s.parts ∙ ap (λ (name : List ℕ). name ++ end ∷ rest) (sym back)

-- a name with another code is not the word of a marker line
other_word : (name : List ℕ) (code : ℕ) → code ≡ code_of name → code ≢ 2831991562391867943 → bytes_eq name marker_word ≡ false
other_word name code own other = by (bytes_eq name marker_word) refl
  where
    marker : code_of marker_word ≡ 2831991562391867943
    marker = short_code marker_word refl

    by : (t : Bool) → bytes_eq name marker_word ≡ t → bytes_eq name marker_word ≡ false
    by false is = is
    by true is = absurd (other (own ∙ ap code_of (bytes_same name marker_word is) ∙ marker))

-- a short name whose code stands at a place is found there
pub short_found : (names : List (List ℕ)) (codes text rest : List ℕ) (end code place : ℕ) → HaveCodes names codes
    → AreBytes text → IsShort text end code rest → code ≢ 2831991562391867943 → place < length codes
    → get_or codes place 0 ≡ code → IsFound names text end place rest
short_found names codes text rest end code place h bytes s other within here =
    let own = front_bytes text s.name (end ∷ rest) bytes s.parts in
    let at : place_of names s.name ≡ Some place = place_by_code names codes s.name place h own within (here ∙ s.own) (short_above s.name s.short) in
    let stands = place_some names s.name place at in
    record {
      name = s.name;
      parts = s.parts;
      is_name = named s.name (ap is_name stands.same ∙ h.named place [] stands.within);
      other = other_word s.name code s.own other;
      at = at;
    }

pub last_word : {A : Type 0} (o : Option A) (now : A → List ℕ) (text last : List ℕ) (code : ℕ) → AreBytes text
    → name_of code ≡ last → IfSome o (λ rest. IsShort text 32 code (now rest))
    → IfSome o (λ rest. text ≡ last ++ 32 ∷ now rest)
last_word None now text last code h is s = tt
last_word (Some rest) now text last code h is s = short_back text (now rest) 32 code h s ∙ ap (λ (name : List ℕ). name ++ 32 ∷ now rest) is
