-- The written lines of suffixes are read back.
use Rattle.std.proofs.Common.{◌≡◌, ◌∙◌, ℕ, suc, ◌+◌, ◌-◌, ◌<◌, ◌≤◌, ◌^◌, Bool, true, false, not, ◌&&◌, ◌||◌, List, [], ◌∷◌, ◌++◌, length, map, refl, sym, ap, ap₂, subst, arith, ◌==◌, nat_lt, nat_le}
use Rattle.std.specs.Prelude.{codes}
use Rattle.std.specs.List.{AllByRecursion, flat_map, sum_by}
use Rattle.std.specs.Fmt.{decimal}
use Rattle.std.proofs.lemmas.Bool.{lt-ltb, le-leb, leb-true, ltb-true, and_parts, lt-leb, not-true}
use Rattle.std.proofs.lemmas.Bool.Decides.{nat_tests}
use Rattle.std.proofs.lemmas.List.{append-nil, append_assoc}
use Rattle.std.proofs.lemmas.List.Sums.{sum_by-cons}
use Rattle.text_base.specs.Names.{is_name}
use Rattle.text_base.specs.Words.{row_of}
use Rattle.exact_numbers.specs.declared.dec.Dec.{Dec}
use Rattle.sol_files.specs.declared.awaited.Awaited.TheVariants.{Tail, Name, Table, Values}
use Rattle.sol_files.specs.declared.awaited.SuffixHead.{SuffixHead}
use Rattle.sol_files.specs.declared.suffix.SolSuffix.{SolSuffix}
use Rattle.sol_files.specs.Sol.{Sol}
use Rattle.sol_files.specs.Progress.{Progress}
use Rattle.sol_files.specs.Built.{with_suffix}
use Rattle.text_base.specs.Cut.{IsTextLine}
use Rattle.sol_files.specs.Rows.{pair_in}
use Rattle.sol_files.specs.Tests.{row_tests, tail_tests, line_tests_at, has_index}
use Rattle.nl_model.specs.declared.suffix_kinds.Objects.{Objects}
use Rattle.nl_model.specs.declared.suffix_kinds.Objects.TheVariants.{Variables, Constraints, Objectives, Problem}
use Rattle.nl_model.specs.SuffixKinds.{object_limit, objects_of, wants_whole, count_among}
use Rattle.exact_numbers.specs.Numbers.{is_whole}
use Rattle.sol_files.specs.Steps.{after_row, after_at, named_suffix, rest_awaits}
use Rattle.sol_files.specs.Written.{head_line, value_line, suffix_lines, are_values, IsWritableSuffix}
use Rattle.exact_numbers.specs.Values.{text_of}
use Rattle.sol_files.proofs.LastLemmas.{change_last-end, last_of-end}
use Rattle.written_texts.specs.Words.{IsWord}
use Rattle.written_texts.proofs.WordLemmas.{row-spaced}
use Rattle.written_texts.proofs.LineLemmas.{one-spaced, text-line}
use Rattle.sol_files.proofs.ShortWords.{IsShortWord, word-decimal, word-text}
use Rattle.written_texts.proofs.NumbersRead.{whole_of-decimal, are_digits-decimal, dec_of-text}
use Rattle.sol_files.proofs.Reached.{IsReached, AreWords, also, at, reached_more, reached_row}

-- ---- the first line

abbrev head_of : SolSuffix → SuffixHead
head_of x =
    record {
      kind = x.kind;
      value_count = length x.values;
      name_len = x.name_len;
      table_len = x.table_len;
      table_lines = length x.table;
    }

-- the numbers of the first line can be read
record HasNumbers (x : SolSuffix) : Type 0 where
  pub kind : x.kind < 256
  pub values : length x.values < 2 ^ 31
  pub name_len : x.name_len < 2 ^ 31
  pub table_len : x.table_len < 2 ^ 31
  pub table : length x.table < 2 ^ 31

small_kind : (x : SolSuffix) → HasNumbers x → x.kind < 2 ^ 31
small_kind x h = let k = h.kind in omega arith

are_head_words : (x : SolSuffix) → HasNumbers x → AreWords (codes "suffix" ∷ decimal x.kind ∷ decimal (length x.values) ∷ decimal x.name_len ∷ decimal x.table_len ∷ decimal (length x.table) ∷ [])
are_head_words x h =
    let word : (n : ℕ) → n < 2 ^ 31 → IsShortWord (decimal n) = λ n lt. word-decimal n (omega arith) in
    record {
      some = omega arith;
      few = omega arith;
      each = (
        record { is = record { some = omega arith; bytes = refl }; short = omega arith },
        (
          word x.kind (small_kind x h),
          (
            word (length x.values) h.values,
            (word x.name_len h.name_len, (word x.table_len h.table_len, (word (length x.table) h.table, tt))),
          ),
        ),
      );
    }

head_reached : (lines : List (List ℕ)) (s : Sol) (d p c t v : ℕ) (x : SolSuffix) → HasNumbers x → c < 1024 → t + length x.table ≤ 65536 → IsReached lines (at Tail s d p c t v)
    → IsReached (lines ++ head_line x ∷ []) (at (Name (head_of x)) s d p (c + 1) (t + length x.table) v)
unfolding row_tests tail_tests after_row
head_reached lines s d p c t v x h room tables g =
    let kind = small_kind x h in
    reached_row lines (at Tail s d p c t v) (at (Name (head_of x)) s d p (c + 1) (t + length x.table) v)
    (codes "suffix" ∷ decimal x.kind ∷ decimal (length x.values) ∷ decimal x.name_len ∷ decimal x.table_len ∷ decimal (length x.table) ∷ []) g refl (are_head_words x h)
    (rw (
      are_digits-decimal x.kind kind,
      are_digits-decimal (length x.values) h.values,
      are_digits-decimal x.name_len h.name_len,
      are_digits-decimal x.table_len h.table_len,
      are_digits-decimal (length x.table) h.table,
      whole_of-decimal x.kind kind,
      whole_of-decimal (length x.values) h.values,
      whole_of-decimal x.name_len h.name_len,
      whole_of-decimal x.table_len h.table_len,
      whole_of-decimal (length x.table) h.table,
      lt-ltb x.kind 256 h.kind,
      lt-leb 1024 c room,
      le-leb (t + length x.table) 65536 tables,
    ) refl)
    (rw (
      whole_of-decimal x.kind kind,
      whole_of-decimal (length x.values) h.values,
      whole_of-decimal x.name_len h.name_len,
      whole_of-decimal x.table_len h.table_len,
      whole_of-decimal (length x.table) h.table,
    ) refl)

-- ---- the name

word_name : (word : List ℕ) → is_name word ≡ true → IsWord word
word_name word h =
    let parts = and_parts _ _ h in
    let sizes = and_parts (not (length word == 0)) (nat_le (length word) 255) parts.0 in
    record { some = grind (arith, nat_tests, sizes.0); bytes = parts.1 }

name_short : (word : List ℕ) → is_name word ≡ true → length word ≤ 65536
name_short word h =
    let most : length word ≤ 255 = leb-true (length word) 255 (and_parts _ _ (and_parts _ _ h).0).1 in
    omega (arith, most)

name_reached : (lines : List (List ℕ)) (s : Sol) (d p c t v : ℕ) (head : SuffixHead) (name : List ℕ) → is_name name ≡ true → IsReached lines (at (Name head) s d p c t v)
    → IsReached (lines ++ name ∷ []) (at (rest_awaits head.table_lines head.value_count) (with_suffix s (named_suffix head name)) d p c t v)
unfolding line_tests_at after_at
name_reached lines s d p c t v head word h g =
    let w = word_name word h in
    let row : row_of word ≡ word ∷ [] = row-spaced (word ∷ []) (omega arith) (w, tt) in
    reached_more lines (at (Name head) s d p c t v) (at (rest_awaits head.table_lines head.value_count) (with_suffix s (named_suffix head word)) d p c t v) word g
    (text-line (word ∷ []) (one-spaced (word ∷ []) (w, tt) (name_short word h))) (rw (row, h) refl) (rw row refl)

-- ---- the table

-- a suffix with more of its table
abbrev with_table : SolSuffix → List (List ℕ) → SolSuffix
with_table x more = record x { table = x.table ++ more }

abbrev with_more : SolSuffix → List (ℕ × Dec) → SolSuffix
with_more x more = record x { values = x.values ++ more }

tables_some : (k n : ℕ) → rest_awaits (suc k) n ≡ Table (suc k) n
tables_some k n = rw (lt-ltb 0 (suc k) (omega arith)) refl

values_some : (n : ℕ) → rest_awaits 0 (suc n) ≡ Values (suc n)
values_some n = rw (lt-ltb 0 (suc n) (omega arith)) refl

table_reached : (lines : List (List ℕ)) (s : Sol) (d p c t v n : ℕ) (x : SolSuffix) (rest : List (List ℕ))
    → AllByRecursion IsTextLine rest → IsReached lines (at (rest_awaits (length rest) n) (with_suffix s x) d p c t v)
    → IsReached (lines ++ rest) (at (rest_awaits 0 n) (with_suffix s (with_table x rest)) d p c t v)
unfolding line_tests_at after_at
table_reached lines s d p c t v n x [] all g =
    subst (λ ls. IsReached ls (at (rest_awaits 0 n) (with_suffix s (with_table x [])) d p c t v)) (sym (append-nil lines))
    (also lines (at (rest_awaits 0 n) (with_suffix s x) d p c t v) _ (ap (λ ls. at (rest_awaits 0 n) (with_suffix s (record x { table = ls })) d p c t v) (sym (append-nil x.table))) g)
table_reached lines s d p c t v n x (line ∷ rest) all g =
    let less : suc (length rest) - 1 ≡ length rest = omega arith in
    let here = also lines _ (at (Table (suc (length rest)) n) (with_suffix s x) d p c t v) (ap (λ a. at a (with_suffix s x) d p c t v) (tables_some (length rest) n)) g in
    let one = reached_more lines (at (Table (suc (length rest)) n) (with_suffix s x) d p c t v)
    (at (rest_awaits (length rest) n) (with_suffix s (with_table x (line ∷ []))) d p c t v) line here all.0 refl
    (rw (less, change_last-end (λ y. with_table y (line ∷ [])) s.suffixes x) refl) in
    subst (λ ls. IsReached ls (at (rest_awaits 0 n) (with_suffix s (with_table x (line ∷ rest))) d p c t v)) (append_assoc lines (line ∷ []) rest)
    (also _ _ _ (ap (λ ls. at (rest_awaits 0 n) (with_suffix s (record x { table = ls })) d p c t v)
    (append_assoc x.table (line ∷ []) rest)) (table_reached (lines ++ line ∷ []) s d p c t v n
    (with_table x (line ∷ [])) rest all.1 one))

-- ---- the values

abbrev limit_of : Sol → SolSuffix → ℕ
limit_of s x = object_limit s.n_var s.n_con 256 x.kind

-- what is asked of one value
record IsValue (s : Sol) (x : SolSuffix) (t : ℕ × Dec) : Type 0 where
  pub below : nat_lt t.0 (limit_of s x) ≡ true
  pub fresh : has_index x.values t.0 ≡ false
  pub whole : (wants_whole x.kind && not (is_whole t.1)) ≡ false

is_value : (s : Sol) (x : SolSuffix) (t : ℕ × Dec) (more : List (ℕ × Dec)) → are_values (limit_of s x) (wants_whole x.kind) x.values (t ∷ more) ≡ true
    → IsValue s x t × (are_values (limit_of s x) (wants_whole x.kind) (x.values ++ t ∷ []) more ≡ true)
unfolding are_values
is_value s x t more h =
    let two = and_parts _ _ h in
    let one = and_parts _ _ two.0 in
    let place = and_parts _ _ one.0 in
    (record { below = place.0; fresh = not-true (has_index x.values t.0) place.1; whole = or_else (wants_whole x.kind) (is_whole t.1) one.1 }, two.1)
  where
    or_else : (a b : Bool) → (not a || b) ≡ true → (a && not b) ≡ false
    or_else false b e = refl
    or_else true true e = refl
    or_else true false e = absurd cc

value_reached : (lines : List (List ℕ)) (s : Sol) (d p c t v n : ℕ) (x : SolSuffix) (pair : ℕ × Dec) → IsValue s x pair
    → pair.0 < 2 ^ 31 → v < 2 ^ 22 → IsReached lines (at (Values (suc n)) (with_suffix s x) d p c t v)
    → IsReached (lines ++ value_line pair ∷ []) (at (rest_awaits 0 n) (with_suffix s (with_more x (pair ∷ []))) d p c t (v + 1))
unfolding row_tests after_row pair_in
value_reached lines s d p c t v n x pair fits small room g =
    let less : suc n - 1 ≡ n = omega arith in
    let last = last_of-end s.suffixes x in
    reached_row lines (at (Values (suc n)) (with_suffix s x) d p c t v) (at (rest_awaits 0 n) (with_suffix s (with_more x (pair ∷ []))) d p c t (v + 1)) (decimal pair.0 ∷ text_of pair.1 ∷ []) g refl
    (record { some = omega arith; few = omega arith; each = (word-decimal pair.0 (omega arith), (word-text pair.1, tt)) })
    (rw (last, are_digits-decimal pair.0 small, whole_of-decimal pair.0 small, dec_of-text pair.1, fits.below, fits.fresh, fits.whole, lt-leb (2 ^ 22) v room) refl)
    (rw (whole_of-decimal pair.0 small, dec_of-text pair.1, less, change_last-end (λ y. with_more y (pair ∷ [])) s.suffixes x) refl)

values_reached : (lines : List (List ℕ)) (s : Sol) (d p c t v : ℕ) (x : SolSuffix) (rest : List (ℕ × Dec))
    → are_values (limit_of s x) (wants_whole x.kind) x.values rest ≡ true → limit_of s x ≤ 2 ^ 20
    → v + length rest ≤ 2 ^ 22
    → IsReached lines (at (rest_awaits 0 (length rest)) (with_suffix s x) d p c t v) → IsReached (lines ++ map value_line rest) (at Tail (with_suffix s (with_more x rest)) d p c t (v + length rest))
values_reached lines s d p c t v x [] all most room g =
    let same : v ≡ v + 0 = omega arith in
    subst (λ ls. IsReached ls (at Tail (with_suffix s (with_more x [])) d p c t (v + 0))) (sym (append-nil lines))
    (also lines (at Tail (with_suffix s x) d p c t v) _ (ap₂ (λ xs m. at Tail (with_suffix s (record x { values = xs })) d p c t m) (sym (append-nil x.values)) same) g)
values_reached lines s d p c t v x (pair ∷ rest) all most room g =
    let two = is_value s x pair rest all in
    let place = ltb-true pair.0 (limit_of s x) two.0.below in
    let here = also lines _ (at (Values (suc (length rest))) (with_suffix s x) d p c t v) (ap (λ a. at a (with_suffix s x) d p c t v) (values_some (length rest))) g in
    let one = value_reached lines s d p c t v (length rest) x pair two.0 (omega (arith, place, most)) (omega arith) here in
    let same : (v + 1) + length rest ≡ v + suc (length rest) = omega arith in
    subst (λ ls. IsReached ls (at Tail (with_suffix s (with_more x (pair ∷ rest))) d p c t (v + suc (length rest)))) (append_assoc lines (value_line pair ∷ []) (map value_line rest))
    (also _ _ _ (ap₂ (λ xs m. at Tail (with_suffix s (record x { values = xs })) d p c t m) (append_assoc x.values (pair ∷ []) rest) same)
    (values_reached (lines ++ value_line pair ∷ []) s d p c t (v + 1) (with_more x (pair ∷ [])) rest two.1 most (omega arith) one))

-- ---- one suffix

most_objects : (n_var n_con kind : ℕ) → n_var ≤ 2 ^ 20 → n_con ≤ 2 ^ 20 → object_limit n_var n_con 256 kind ≤ 2 ^ 20
most_objects n_var n_con kind var con = by (objects_of kind)
  where
    by : (o : Objects) → count_among n_var n_con 256 o ≤ 2 ^ 20
    by Variables = var
    by Constraints = con
    by Objectives = omega arith
    by Problem = omega arith

pub suffix_reached : (lines : List (List ℕ)) (s : Sol) (d p c t v : ℕ) (x : SolSuffix)
    → IsWritableSuffix s.n_var s.n_con x → s.n_var ≤ 2 ^ 20 → s.n_con ≤ 2 ^ 20 → c < 1024 → t + length x.table ≤ 65536
    → v + length x.values ≤ 2 ^ 22
    → IsReached lines (at Tail s d p c t v) → IsReached (lines ++ suffix_lines x) (at Tail (with_suffix s x) d p (c + 1) (t + length x.table) (v + length x.values))
suffix_reached lines s d p c t v x h var con room tables values g =
    let numbers : HasNumbers x = record { kind = h.kind; values = omega arith; name_len = h.name_len; table_len = h.table_len; table = omega arith } in
    let head = head_reached lines s d p c t v x numbers room tables g in
    let named = name_reached (lines ++ head_line x ∷ []) s d p (c + 1) (t + length x.table) v (head_of x) x.name h.name head in
    let begun = named_suffix (head_of x) x.name in
    let table = table_reached ((lines ++ head_line x ∷ []) ++ x.name ∷ []) s d p (c + 1) (t + length x.table) v (length x.values) begun x.table h.table named in
    let all = values_reached (((lines ++ head_line x ∷ []) ++ x.name ∷ []) ++ x.table) s d p (c + 1)
    (t + length x.table) v (with_table begun x.table) x.values h.values (most_objects s.n_var s.n_con x.kind var con)
    values table in
    subst (λ ls. IsReached ls (at Tail (with_suffix s x) d p (c + 1) (t + length x.table) (v + length x.values))) (simp append_assoc) all

-- ---- all suffixes

-- the lines have no fault and say this, and nothing more must come
pub record IsSaid (lines : List (List ℕ)) (s : Sol) : Type 0 where
  pub last : Progress
  pub reached : IsReached lines last
  pub tail : last.awaited ≡ Tail
  pub sol : last.sol ≡ s

pub suffixes_reached : (lines : List (List ℕ)) (s : Sol) (d p c t v : ℕ) (rest : List SolSuffix) → AllByRecursion (IsWritableSuffix s.n_var s.n_con) rest → s.n_var ≤ 2 ^ 20 → s.n_con ≤ 2 ^ 20
    → c + length rest ≤ 1024 → t + sum_by (λ x. length x.table) rest ≤ 65536 → v + sum_by (λ x. length x.values) rest ≤ 2 ^ 22 → IsReached lines (at Tail s d p c t v)
    → IsSaid (lines ++ flat_map suffix_lines rest) (record s { suffixes = s.suffixes ++ rest })
suffixes_reached lines s d p c t v [] all var con room tables values g =
    record {
      last = at Tail s d p c t v;
      reached = subst (λ ls. IsReached ls (at Tail s d p c t v))
          (sym (append-nil lines)) g;
      tail = refl;
      sol = ap (λ xs. record s { suffixes = xs })
          (sym (append-nil s.suffixes));
    }
suffixes_reached lines s d p c t v (x ∷ rest) all var con room tables values g =
    let table_sum = sum_by-cons (λ y. length y.table) x rest in
    let value_sum = sum_by-cons (λ y. length y.values) x rest in
    let one = suffix_reached lines s d p c t v x all.0 var con (omega arith) (omega (arith, table_sum)) (omega (arith, value_sum)) g in
    let more = suffixes_reached (lines ++ suffix_lines x) (with_suffix s x) d p (c + 1) (t + length x.table)
    (v + length x.values) rest all.1 var con (omega arith) (omega (arith, table_sum)) (omega (arith, value_sum)) one
    in
    record {
      last = more.last;
      reached = subst (λ ls. IsReached ls more.last) (append_assoc lines (suffix_lines x) (flat_map suffix_lines rest)) more.reached;
      tail = more.tail;
      sol = more.sol ∙ ap (λ xs. record s { suffixes = xs }) (append_assoc s.suffixes (x ∷ []) rest);
    }
