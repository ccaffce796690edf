-- What is known of the words and of the head of a row without a fault: no word begins with `#`, and numbers are small.
use Rattle.std.proofs.Common.{◌≡◌, ℕ, zero, suc, ◌^◌, ◌<◌, ◌==◌, Bool, true, false, ◌&&◌, ◌||◌, cond, ℤ, List, [], ◌∷◌, drop, take, refl, arith, Option, Some, None, nat_lt, nat_le, length, ◌+◌}
use Rattle.std.specs.Prelude.{IfSome, slice_index, codes, option_map, option_and_then}
use Rattle.std.specs.List.{AllByRecursion, list_all, filter_map, cons_option}
use Rattle.std.specs.Str.Parse.{digits_value, signed_digits_value, without_leading_sign}
use Rattle.std.proofs.lemmas.Bool.{cond_both, ltb-true, and_parts}
use Rattle.text_base.specs.Words.{is_blank, ends_word, onto_word, words_of, row_of, word_at, up_to_comment, without_comment}
use Rattle.exact_numbers.specs.Numbers.{are_digits, has_31_bits, whole_of, signed_of}
use Rattle.std.specs.Str.{bytes_eq}
use Rattle.text_base.specs.Names.{is_name}
use Rattle.nl_model.specs.declared.header_counts.Counts.{Counts}
use Rattle.nl_lines.specs.declared.head.Head.{Head}
use Rattle.nl_lines.specs.declared.head.Head.TheVariants.{Body, Definition, DualGuesses, PrimalGuesses, Sides, Bounds, Terms, Slopes, Suffix}
use Rattle.nl_lines.specs.Heads.{letter_of, bare_head, numbered_head, of_two_numbers, counted_head, with_sense, definition_head, of_columns, of_kind, suffix_head, head_of, name_in, number_at}
use Rattle.nl_lines.specs.Tests.{is_suffix}

-- ---- comments

abbrev pub HasNoMark : List ℕ → Type 0
HasNoMark word = (slice_index word 0 == 35) ≡ false

abbrev HaveNoMarks : List (List ℕ) → Type 0
HaveNoMarks words = AllByRecursion HasNoMark words

-- all words, or all but the first, which may be the end of one that began before
abbrev AreUnmarked : Bool → List (List ℕ) → Type 0
AreUnmarked first words = HaveNoMarks (cond first words (drop 1 words))

with_first : (first : Bool) (word : List ℕ) (words : List (List ℕ)) → (first ≡ true → HasNoMark word) → HaveNoMarks words → AreUnmarked first (word ∷ words)
with_first true word words f h = (f refl, h)
with_first false word words f h = h

all_or_rest : (first : Bool) (words : List (List ℕ)) → HaveNoMarks words → AreUnmarked first words
all_or_rest first [] h = cond_both first [] [] HaveNoMarks (λ t. tt) (λ f. tt)
all_or_rest first (w ∷ words) h = with_first first w words (λ t. h.0) h.1

-- with a byte of a word in front
with_byte : (first begins : Bool) (b : ℕ) (words : List (List ℕ)) → (first ≡ true → (b == 35) ≡ false) → AreUnmarked begins words → AreUnmarked first (onto_word b begins words)
with_byte first begins b [] f h = with_first first (b ∷ []) [] f tt
with_byte first true b (w ∷ words) f h = with_first first (b ∷ []) (w ∷ words) f h
with_byte first false b (w ∷ words) f h = with_first first (b ∷ w) words f h

unmarked : (m : Bool) (line : List ℕ) → AreUnmarked (m || ends_word (up_to_comment m line)) (words_of (up_to_comment m line))
unmarked m [] = all_or_rest (m || true) [] tt
unmarked m (b ∷ bytes) = by (m && (b == 35)) (is_blank b) refl refl (unmarked (is_blank b) bytes)
  where
    by : (t u : Bool) → (m && (b == 35)) ≡ t → is_blank b ≡ u → AreUnmarked (is_blank b || ends_word (up_to_comment (is_blank b) bytes)) (words_of (up_to_comment (is_blank b) bytes))
        → AreUnmarked (m || ends_word (up_to_comment m (b ∷ bytes))) (words_of (up_to_comment m (b ∷ bytes)))
    by true u p q rest = rw p (all_or_rest (m || true) [] tt)
    by false true p q rest = rw (p, q) (all_or_rest (m || true) (words_of (up_to_comment true bytes)) (rw q at rest))
    by false false p q rest =
        rw (p, q) (with_byte (m || false) (ends_word (up_to_comment false bytes)) b (words_of (up_to_comment false bytes)) (λ e. grind (arith, p, e)) (rw q at rest))

first_ones : (n : ℕ) (words : List (List ℕ)) → HaveNoMarks words → HaveNoMarks (take n words)
first_ones zero words h = tt
first_ones (suc n) [] h = tt
first_ones (suc n) (w ∷ words) h = (h.0, first_ones n words h.1)

one_of : (words : List (List ℕ)) (i : ℕ) → HaveNoMarks words → HasNoMark (word_at words i)
one_of [] i h = refl
one_of (w ∷ words) zero h = h.0
one_of (w ∷ words) (suc i) h = one_of words i h.1

-- the words of a row do not begin with the mark of a comment
pub no_mark : (line : List ℕ) (i : ℕ) → HasNoMark (word_at (row_of (without_comment line)) i)
no_mark line i = one_of (row_of (without_comment line)) i (first_ones 12 (words_of (without_comment line)) (unmarked true line))

-- ---- numbers

whole_small : (word : List ℕ) → IfSome (whole_of word) (λ n. n < 2 ^ 31)
unfolding whole_of
whole_small word =
    let n = digits_value 10 word in
    cond_both (are_digits word && nat_lt n (2 ^ 31)) (Some n) None (λ o. IfSome o (λ n. n < 2 ^ 31)) (λ t. ltb-true n (2 ^ 31) (and_parts (are_digits word) _ t).1) (λ f. tt)

signed_small : (word : List ℕ) → IfSome (signed_of word) (λ z. has_31_bits z ≡ true)
unfolding signed_of
signed_small word =
    let digits = are_digits (without_leading_sign word) in
    let z = signed_digits_value 10 word in
    cond_both (digits && has_31_bits z) (Some z) None (λ o. IfSome o (λ z. has_31_bits z ≡ true)) (λ t. (and_parts digits _ t).1) (λ f. tt)

-- the options of a first line are small
pub options_small : (words : List (List ℕ)) → list_all has_31_bits (filter_map signed_of words) ≡ true
options_small [] = refl
options_small (w ∷ words) = by (signed_of w) (signed_small w) (options_small words)
  where
    by : (o : Option ℤ) → IfSome o (λ z. has_31_bits z ≡ true) → list_all has_31_bits (filter_map signed_of words) ≡ true → list_all has_31_bits (cons_option o (filter_map signed_of words)) ≡ true
    by None small more = more
    by (Some z) small more = rw small more

-- ---- heads

-- a suffix of such a head can be written
pub record IsGoodSuffix (kind n : ℕ) (name : List ℕ) : Type 0 where
  pub kind_small : kind < 256
  pub count : n < 2 ^ 31
  pub is : is_name name ≡ true
  pub no_comment : HasNoMark name
  pub no_sets : bytes_eq name (codes "sosno") ≡ false

abbrev pub IsGoodHead : Head → List ℕ → Type 0
IsGoodHead (Definition i j usage) name = usage < 2 ^ 31
IsGoodHead (DualGuesses n) name = n < 2 ^ 31
IsGoodHead (PrimalGuesses n) name = n < 2 ^ 31
IsGoodHead (Suffix kind n) name = IsGoodSuffix kind n name
IsGoodHead head name = Unit {0}

-- where it announces no special ordered sets
abbrev pub MayBeGood : List (List ℕ) → Head → Type 0
MayBeGood words h = (is_suffix h && bytes_eq (name_in words) (codes "sosno")) ≡ false → IsGoodHead h (name_in words)

module _ (c : Counts) (words : List (List ℕ)) (no_comment : HasNoMark (name_in words)) where
  abbrev G : Head → Type 0
  G h = MayBeGood words h

  abbrev Good : Option Head → Type 0
  Good o = IfSome o G

  branch : (b : Bool) (x y : Option Head) → (b ≡ true → Good x) → Good y → Good (cond b x y)
  branch b x y f g = cond_both b x y Good f (λ e. g)

  -- where a word is a number
  one : (word : List ℕ) (f : ℕ → Head) → ((n : ℕ) → n < 2 ^ 31 → G (f n)) → Good (option_map f (whole_of word))
  one word f each = by (whole_of word) (whole_small word)
    where
      by : (o : Option ℕ) → IfSome o (λ n. n < 2 ^ 31) → Good (option_map f o)
      by None small = tt
      by (Some n) small = each n small

  many : (word : List ℕ) (f : ℕ → Option Head) → ((n : ℕ) → n < 2 ^ 31 → Good (f n)) → Good (option_and_then f (whole_of word))
  many word f each = by (whole_of word) (whole_small word)
    where
      by : (o : Option ℕ) → IfSome o (λ n. n < 2 ^ 31) → Good (option_and_then f o)
      by None small = tt
      by (Some n) small = each n small

  abbrev own : List ℕ
  own = drop 1 (word_at words 0)

  bare : (h : Head) → G h → Good (bare_head h words)
  bare h g = branch (length words == 1 && (length (word_at words 0) == 1)) (Some h) None (λ e. g) tt

  numbered : (f : ℕ → Option Head) → ((n : ℕ) → n < 2 ^ 31 → Good (f n)) → Good (numbered_head f words)
  numbered f g = branch (length words == 1) _ None (λ e. many own f g) tt

  two : (f : ℕ → ℕ → Option Head) → ((i n : ℕ) → n < 2 ^ 31 → Good (f i n)) → Good (of_two_numbers f words)
  two f g = many own _ (λ i lt. many (word_at words 1) (f i) (g i))

  counted : (f : ℕ → ℕ → Option Head) → ((i n : ℕ) → n < 2 ^ 31 → Good (f i n)) → Good (counted_head f words)
  counted f g = branch (length words == 2) _ None (λ e. two f g) tt

  sensed : Good (counted_head with_sense words)
  sensed = counted with_sense (λ k sense small. branch (nat_le sense 1) _ None (λ le no. tt) tt)

  defined : Good (definition_head words)
  defined = branch (length words == 3) _ None (λ e. two (λ i j. option_map (Definition i j) (number_at words 2)) (λ i j at. one (word_at words 2) (Definition i j) (λ u small no. small))) tt

  columns : Good (numbered_head (of_columns c) words)
  columns = numbered (of_columns c) (λ n lt. branch (n + 1 == c.n_var) _ None (λ same no. tt) tt)

  suffix : Good (suffix_head words)
  suffix =
      branch (length words == 3 && is_name (word_at words 2)) _ None
      (λ e. two of_kind (λ kind n small. branch (nat_lt kind 256) _ None
      (λ few no. record { kind_small = ltb-true kind 256 few; count = small; is = (and_parts (length words == 3) _ e).1; no_comment = no_comment; no_sets = no }) tt)) tt

  pub good_head : Good (head_of c words)
  unfolding head_of
  good_head =
      let l = letter_of words in
      branch (l == 67) _ _ (λ e. numbered (λ i. Some (Body i)) (λ n lt no. tt))
      (branch (l == 79) _ _ (λ e. sensed)
      (branch (l == 86) _ _ (λ e. defined)
      (branch (l == 100) _ _ (λ e. numbered (λ n. Some (DualGuesses n)) (λ n lt no. lt))
      (branch (l == 120) _ _ (λ e. numbered (λ n. Some (PrimalGuesses n)) (λ n lt no. lt))
      (branch (l == 114) _ _ (λ e. bare Sides (λ no. tt))
      (branch (l == 98) _ _ (λ e. bare Bounds (λ no. tt))
      (branch (l == 107) _ _ (λ e. columns)
      (branch (l == 74) _ _ (λ e. counted (λ i n. Some (Terms i n)) (λ i n small no. tt))
      (branch (l == 71) _ _ (λ e. counted (λ k n. Some (Slopes k n)) (λ k n small no. tt))
      (branch (l == 83) _ None (λ e. suffix) tt))))))))))
