-- The written header is read without a fault, and says its options and counts.
use Rattle.std.proofs.Common.{◌≡◌, ◌∙◌, ℕ, zero, suc, ◌+◌, ◌-◌, ◌^◌, ◌<◌, ◌≤◌, ◌==◌, max, Bool, true, false, not, ◌&&◌}
use Rattle.std.proofs.Common.{ℤ, List, [], ◌∷◌, ◌++◌, length, map, drop, get_or, refl, sym, ap, subst, arith, nat_lt}
use Rattle.std.proofs.Common.{nat_le, Option, None, lt_trans, lit<}
use Rattle.std.specs.Prelude.{IsTrue, slice_index_or, unwrap_or}
use Rattle.std.specs.List.{AllByRecursion, list_all, filter_map, flat_map}
use Rattle.std.specs.Fmt.{decimal, signed_decimal}
use Rattle.std.proofs.Math.Bool.{and-false}
use Rattle.std.proofs.lemmas.Bool.{ltb-true, leb-true, le-leb, le-ltb, eqb-true, eq-eqb, not-true, and_parts}
use Rattle.std.proofs.lemmas.Bool.Decides.{nat_tests}
use Rattle.std.proofs.lemmas.List.{length-map, map-append}
use Rattle.text_base.specs.Judged.{first_reason}
use Rattle.text_base.specs.Words.{word_at}
use Rattle.code_tables.specs.declared.field.Field.{Field}
use Rattle.code_tables.specs.Header.{header_rows, field_at}
use Rattle.nl_header.specs.Head.{header_line_fault, number_line_fault, words_fault, word_tests, field_tests}
use Rattle.nl_header.specs.Head.{must_be_zero, limit_of, lacks_number, rule_tests, first_line_tests, counts_in}
use Rattle.nl_header.specs.Head.{counts_by, options_in, number_in}
use Rattle.exact_numbers.specs.Numbers.{has_31_bits, signed_of, whole_of}
use Rattle.exact_numbers.proofs.NumberLemmas.{signed_of-signed_decimal}
use Rattle.nl_model.specs.declared.header_counts.Counts.{Counts}
use Rattle.nl_model.specs.HeaderRules.{are_options, numbers_of, are_numbers, has_no_refused, are_sizes_within}
use Rattle.nl_model.specs.HeaderRules.{are_shared_within, are_whole_within, are_definitions_within, are_counts}
use Rattle.nl_model.specs.HeaderRules.{is_header, AreCounts}
use Rattle.nl_model.specs.Options.{has_second_three}
use Rattle.nl_model.proofs.Headers.{counts_of_header}
use Rattle.text_base.specs.WordLines.{WordLine, spaced}
use Rattle.written_texts.specs.Words.{IsKeptWord, IsWritten}
use Rattle.nl_writer.specs.Written.{numbers, options_line, header_lines}
use Rattle.written_texts.proofs.WrittenWords.{word-decimal, word-lettered, word-signed_31}
use Rattle.written_texts.proofs.NumbersRead.{whole_of-decimal}
use Rattle.round_trips.proofs.Reached.{AreHeadFine, header_reached, IsReached, in_body}
use Rattle.text_base.proofs.AllLemmas.{all_append}
use Rattle.nl_lines.proofs.PieceLemmas.{some_are}
use Rattle.nl_lines.specs.Pieces.{Piece}
use Rattle.nl_segments.specs.Grammar.{is_in_header}

-- ---- the first line

abbrev pub IsSmall : ℤ → Type 0
IsSmall z = has_31_bits z ≡ true

pub all_from : {X : Type 0} (p : X → Bool) (xs : List X) → list_all p xs ≡ true → AllByRecursion (λ x. p x ≡ true) xs
all_from p [] e = tt
all_from p (x ∷ xs) e = let two = and_parts (p x) (list_all p xs) e in (two.0, all_from p xs two.1)

options_read : (options : List ℤ) → AllByRecursion IsSmall options → filter_map signed_of (map signed_decimal options) ≡ options
options_read [] all = refl
options_read (z ∷ options) all = rw (signed_of-signed_decimal z all.0) (ap (λ zs. z ∷ zs) (options_read options all.1))

words-signed : (options : List ℤ) → AllByRecursion IsSmall options → AllByRecursion IsKeptWord (map signed_decimal options)
words-signed [] all = tt
words-signed (z ∷ options) all = (word-signed_31 z all.0, words-signed options all.1)

options_written : (options : List ℤ) → length options ≤ 4 → AllByRecursion IsSmall options → IsWritten (options_line options)
options_written options few all =
    let count : length options < 2 ^ 31 = omega arith in
    record {
      some = omega arith;
      few = omega (arith, length-map options signed_decimal);
      each = (word-lettered 103 (length options) (omega arith) (lt_trans count (lit< tt)), words-signed options all);
    }

first_fine : (options : List ℤ) → length options ≤ 4 → has_second_three options ≡ false → AllByRecursion IsSmall options → header_line_fault [] (options_line options) ≡ None
unfolding header_line_fault first_line_tests
first_fine options few second all =
    let count : length options < 2 ^ 31 = omega arith in
    rw (whole_of-decimal (length options) count, options_read options all, length-map options signed_decimal, le-leb (length options) 4 few, eq-eqb (length options) (length options) refl, second) refl

options_said : (options : List ℤ) (lines : List WordLine) → AllByRecursion IsSmall options → options_in (options_line options ∷ lines) ≡ options
unfolding options_in
options_said options lines all = options_read options all

-- ---- lines of numbers

abbrev pub AreSmall : List ℕ → Type 0
AreSmall ns = AllByRecursion (λ n. n < 2 ^ 31) ns

numbers_words : (ns : List ℕ) → AreSmall ns → AllByRecursion IsKeptWord (numbers ns)
numbers_words [] all = tt
numbers_words (n ∷ ns) all = (word-decimal n (lt_trans all.0 (lit< tt)), numbers_words ns all.1)

-- the numbers of a line may stand where they do
abbrev pub AreFieldsFine : ℕ → ℕ → List ℕ → Type 0
AreFieldsFine line place [] = Unit {0}
AreFieldsFine line place (n ∷ ns) = (first_reason (field_tests (field_at line place) n) ≡ None) × AreFieldsFine line (place + 1) ns

words_fine : (line place : ℕ) (ns : List ℕ) → AreSmall ns → AreFieldsFine line place ns → words_fault line place (numbers ns) ≡ None
unfolding words_fault word_tests
words_fine line place [] all fine = refl
words_fine line place (n ∷ ns) all fine = rw (whole_of-decimal n all.0, fine.0) (words_fine line (place + 1) ns all.1 fine.1)

free_field : (f : Option Field) (n limit : ℕ) → must_be_zero f ≡ false → limit_of f ≡ limit → n ≤ limit → first_reason (field_tests f n) ≡ None
unfolding field_tests
free_field f n limit free is le = rw (free, is, le-ltb limit n le) refl

zero_field : (f : Option Field) (n : ℕ) → n ≡ 0 → first_reason (field_tests f n) ≡ None
unfolding field_tests
zero_field f n e = rw (e, and-false (must_be_zero f), le-ltb (limit_of f) 0 (omega arith)) refl

-- fields with no limit of their own
abbrev are_open : ℕ → ℕ → List ℕ → Bool
are_open line place [] = true
are_open line place (n ∷ ns) = not (must_be_zero (field_at line place)) && (limit_of (field_at line place) == 2 ^ 31) && are_open line (place + 1) ns

open_fields : (line place : ℕ) (ns : List ℕ) → are_open line place ns ≡ true → AreSmall ns → AreFieldsFine line place ns
open_fields line place [] e small = tt
open_fields line place (n ∷ ns) e small =
    let f = field_at line place in
    let both = and_parts (not (must_be_zero f) && (limit_of f == 2 ^ 31)) (are_open line (place + 1) ns) e in
    let this = and_parts (not (must_be_zero f)) (limit_of f == 2 ^ 31) both.0 in
    let lt : n < 2 ^ 31 = small.0 in
    (free_field f n (2 ^ 31) (not-true (must_be_zero f) this.0) (eqb-true (limit_of f) (2 ^ 31) this.1) (omega (arith, lt)), open_fields line (place + 1) ns both.1 small.1)

-- ---- what lines of numbers say

abbrev AreAllSmall : List (List ℕ) → Type 0
AreAllSmall rows = AllByRecursion AreSmall rows

no_word : whole_of [] ≡ None
unfolding whole_of
no_word = refl

number_read : (ns : List ℕ) (i : ℕ) → AreSmall ns → unwrap_or (whole_of (word_at (numbers ns) i)) 0 ≡ get_or ns i 0
number_read [] i small = rw no_word refl
number_read (n ∷ ns) zero small = rw (whole_of-decimal n small.0) refl
number_read (n ∷ ns) (suc i) small = number_read ns i small.1

-- the number that stands at a place of a line, of a first line and of rows of numbers
abbrev number_of : WordLine → List (List ℕ) → ℕ → ℕ → ℕ
number_of first rows zero place = number_in first place
number_of first rows (suc i) place = get_or (get_or rows i []) (place - 1) 0

row_read : (rows : List (List ℕ)) (i place : ℕ) → AreAllSmall rows → number_in (slice_index_or (map numbers rows) i []) place ≡ get_or (get_or rows i []) (place - 1) 0
row_read [] i place small = number_read [] (place - 1) tt
row_read (ns ∷ rows) zero place small = number_read ns (place - 1) small.0
row_read (ns ∷ rows) (suc i) place small = row_read rows i place small.1

line_read : (first : WordLine) (rows : List (List ℕ)) (i place : ℕ) → AreAllSmall rows → number_in (slice_index_or (first ∷ map numbers rows) i []) place ≡ number_of first rows i place
line_read first rows zero place small = refl
line_read first rows (suc i) place small = row_read rows i place small

abbrev counts_of : WordLine → List (List ℕ) → Counts
counts_of first rows = counts_by (λ line place. number_of first rows (line - 1) place)

counts_read : (first : WordLine) (rows : List (List ℕ)) → AreAllSmall rows → counts_in (first ∷ map numbers rows) ≡ counts_of first rows
unfolding counts_in
counts_read first rows small = ap counts_by (λ i line place. line_read first rows (line - 1) place small i)

-- rows that may come after a first line and other rows
data AreRowsFine (first : WordLine) : List (List ℕ) → List (List ℕ) → Type 0 where
  no_row : {before : List (List ℕ)} → AreRowsFine first before []
  row : {before rest : List (List ℕ)} {ns : List ℕ} → AreFieldsFine (length before + 2) 1 ns → lacks_number header_rows (length before + 2) (length ns) ≡ false
      → first_reason (rule_tests (length before + 2) (counts_of first (before ++ ns ∷ []))) ≡ None → AreRowsFine first (before ++ ns ∷ []) rest → AreRowsFine first before (ns ∷ rest)

row_fine : (first : WordLine) (before : List (List ℕ)) (ns : List ℕ) → AreAllSmall before → AreSmall ns
    → AreFieldsFine (length before + 2) 1 ns → lacks_number header_rows (length before + 2) (length ns) ≡ false
    → first_reason (rule_tests (length before + 2) (counts_of first (before ++ ns ∷ []))) ≡ None → header_line_fault (first ∷ map numbers before) (numbers ns) ≡ None
unfolding header_line_fault number_line_fault
row_fine first before ns smalls small fields long rule =
    let at : length (first ∷ map numbers before) + 1 ≡ length before + 2 = omega (arith, length-map before numbers) in
    let counts : counts_in ((first ∷ map numbers before) ++ numbers ns ∷ []) ≡ counts_of first (before ++ ns ∷ []) =
    ap (λ ls. counts_in (first ∷ ls)) (sym (map-append numbers before (ns ∷ []))) ∙ counts_read first (before ++ ns ∷ []) (all_append AreSmall before (ns ∷ []) smalls (small, tt)) in
    rw (some_are (length (map numbers before)), at, counts, words_fine (length before + 2) 1 ns small fields, length-map ns decimal, long) rule

rows_fine : (first : WordLine) (before rows : List (List ℕ)) → AreAllSmall before → AreAllSmall rows → AreRowsFine first before rows → AreHeadFine (first ∷ map numbers before) (map numbers rows)
rows_fine first before [] smalls small no_row = tt
rows_fine first before (ns ∷ rows) smalls small (row fields long rule more) = (
  row_fine first before ns smalls small.0 fields long rule,
  subst (λ ls. AreHeadFine (first ∷ ls) (map numbers rows)) (map-append numbers before (ns ∷ []))
      (rows_fine first (before ++ ns ∷ []) rows (all_append AreSmall before (ns ∷ []) smalls (small.0, tt)) small.1 more),
)

-- ---- the counts of a header

-- the numbers of lines 2 to 10
abbrev pub rows_of : Counts → List (List ℕ)
rows_of c =
    (c.n_var ∷ c.n_con ∷ c.n_obj ∷ c.n_ranges ∷ c.n_eqns ∷ [])
    ∷ (c.nlc ∷ c.nlo ∷ [])
    ∷ (c.nlnc ∷ c.lnc ∷ [])
    ∷ (c.nlvc ∷ c.nlvo ∷ c.nlvb ∷ [])
    ∷ (c.nwv ∷ c.nfunc ∷ c.arith ∷ c.flags ∷ [])
    ∷ (c.nbv ∷ c.niv ∷ c.nlvbi ∷ c.nlvci ∷ c.nlvoi ∷ [])
    ∷ (c.nzc ∷ c.nzo ∷ [])
    ∷ (c.row_name_len ∷ c.col_name_len ∷ [])
    ∷ (c.comb ∷ c.comc ∷ c.como ∷ c.comc1 ∷ c.como1 ∷ [])
    ∷ []

split_all : (ns ms : List ℕ) → AllByRecursion (λ n. nat_lt n (2 ^ 31) ≡ true) (ns ++ ms) → AreSmall ns × AllByRecursion (λ n. nat_lt n (2 ^ 31) ≡ true) ms
split_all [] ms all = (tt, all)
split_all (n ∷ ns) ms all = let more = split_all ns ms all.1 in ((ltb-true n (2 ^ 31) all.0, more.0), more.1)

small_rows : (rows : List (List ℕ)) → AllByRecursion (λ n. nat_lt n (2 ^ 31) ≡ true) (flat_map (λ ns. ns) rows) → AreAllSmall rows
small_rows [] all = tt
small_rows (ns ∷ rows) all = let two = split_all ns (flat_map (λ ns. ns) rows) all in (two.0, small_rows rows two.1)

-- the counts that are 0
pub record AreNone (c : Counts) : Type 0 where
  pub n_lcon : c.n_lcon ≡ 0
  pub nlnc : c.nlnc ≡ 0
  pub lnc : c.lnc ≡ 0
  pub nwv : c.nwv ≡ 0
  pub nfunc : c.nfunc ≡ 0

none_counts : (c : Counts) → has_no_refused c ≡ true → AreNone c
none_counts c e = record {
  n_lcon = grind (arith, nat_tests, e);
  nlnc = grind (arith, nat_tests, e);
  lnc = grind (arith, nat_tests, e);
  nwv = grind (arith, nat_tests, e);
  nfunc = grind (arith, nat_tests, e);
}

-- ---- the header

pub record IsHeaderReady (options : List ℤ) (c : Counts) : Type 0 where
  pub few : length options ≤ 4
  pub second : has_second_three options ≡ false
  pub all_small : AllByRecursion IsSmall options
  pub small : AreAllSmall (rows_of c)
  pub none : AreNone c
  pub counts : AreCounts c

pub header_ready : (options : List ℤ) (c : Counts) → IsTrue (is_header options c) → list_all has_31_bits options ≡ true → IsHeaderReady options c
unfolding is_header
header_ready options c h small =
    let two = and_parts (are_options options) (are_counts c) h in
    let front = and_parts (nat_le (length options) 4) (not (has_second_three options)) two.0 in
    let p5 = and_parts (are_numbers c && has_no_refused c && are_sizes_within c && are_shared_within c && are_whole_within c) (are_definitions_within c) two.1 in
    let p4 = and_parts (are_numbers c && has_no_refused c && are_sizes_within c && are_shared_within c) (are_whole_within c) p5.0 in
    let p3 = and_parts (are_numbers c && has_no_refused c && are_sizes_within c) (are_shared_within c) p4.0 in
    let p2 = and_parts (are_numbers c && has_no_refused c) (are_sizes_within c) p3.0 in
    let p1 = and_parts (are_numbers c) (has_no_refused c) p2.0 in
    let rows = rows_of c in
    let all = small_rows (get_or rows 0 [] ∷ (c.n_lcon ∷ []) ∷ drop 1 rows) (all_from (λ n. nat_lt n (2 ^ 31)) (numbers_of c) p1.0) in
    record {
      few = leb-true (length options) 4 front.0;
      second = not-true (has_second_three options) front.1;
      all_small = all_from has_31_bits options small;
      small = (all.0, all.1.1);
      none = none_counts c p1.1;
      counts = counts_of_header options c h;
    }

counts_said : (options : List ℤ) (c : Counts) → IsHeaderReady options c → counts_in (header_lines options c) ≡ c
unfolding counts_by
counts_said options c h = counts_read (options_line options) (rows_of c) h.small ∙ (λ i. record c { n_lcon = sym h.none.n_lcon i })

-- what holds of the first line and of a line of some numbers holds of each line
pub header_each : (P : WordLine → Type 0) (options : List ℤ) (c : Counts) → IsHeaderReady options c
    → P (options_line options) → ((ns : List ℕ) → 0 < length ns → length ns ≤ 12 → AreSmall ns → P (numbers ns))
    → AllByRecursion P (header_lines options c)
header_each P options c h first each = (
  first,
  rows (rows_of c) (
    omega arith,
    (
      omega arith,
      (
        omega arith,
        (
          omega arith,
          (omega arith, (omega arith, (omega arith, (omega arith, (omega arith, tt))))),
        ),
      ),
    ),
  ) h.small,
)
  where
    rows : (rs : List (List ℕ)) → AllByRecursion (λ ns. (0 < length ns) × (length ns ≤ 12)) rs → AreAllSmall rs → AllByRecursion P (map numbers rs)
    rows [] sizes small = tt
    rows (ns ∷ rs) sizes small = (each ns sizes.0.0 sizes.0.1 small.0, rows rs sizes.1 small.1)

lines_written : (options : List ℤ) (c : Counts) → IsHeaderReady options c → AllByRecursion IsWritten (header_lines options c)
lines_written options c h =
    header_each IsWritten options c h (options_written options h.few h.all_small)
    (λ ns some few all. record {
      some = omega (arith, length-map ns decimal);
      few =
          omega (arith, length-map ns decimal);
      each = numbers_words ns all;
    })

lines_fine : (options : List ℤ) (c : Counts) → IsHeaderReady options c → AreHeadFine [] (header_lines options c)
unfolding field_at header_rows lacks_number rule_tests counts_by
lines_fine options c h =
    let m = h.small in
    let k = h.counts in (
      first_fine options h.few h.second h.all_small,
      rows_fine (options_line options) [] (rows_of c) tt m
          (row (
            free_field (field_at 2 1) c.n_var (2 ^ 20) refl refl k.variables,
            (
              free_field (field_at 2 2) c.n_con (2 ^ 20) refl refl k.constraints,
              (
                free_field (field_at 2 3) c.n_obj 256 refl refl k.objectives,
                open_fields 2 4 (c.n_ranges ∷ c.n_eqns ∷ []) refl m.0.1.1.1,
              ),
            ),
          ) refl refl
          (row (open_fields 3 1 (c.nlc ∷ c.nlo ∷ []) refl m.1.0) refl refl
          (row (zero_field (field_at 4 1) c.nlnc h.none.nlnc, (zero_field (field_at 4 2) c.lnc h.none.lnc, tt)) refl refl
          (row (open_fields 5 1 (c.nlvc ∷ c.nlvo ∷ c.nlvb ∷ []) refl m.1.1.1.0) refl (rw (le-leb c.nlvb c.nlvc k.shared_in_constraints, le-leb c.nlvb c.nlvo k.shared_in_objectives) refl)
          (row (zero_field (field_at 6 1) c.nwv h.none.nwv, (zero_field (field_at 6 2) c.nfunc h.none.nfunc, open_fields 6 3 (c.arith ∷ c.flags ∷ []) refl m.1.1.1.1.0.1.1)) refl refl
          (row (open_fields 7 1 (c.nbv ∷ c.niv ∷ c.nlvbi ∷ c.nlvci ∷ c.nlvoi ∷ []) refl m.1.1.1.1.1.0) refl
          (rw (
            le-leb c.nlvbi c.nlvb k.whole_shared,
            le-leb c.nlvci (c.nlvc - c.nlvb) k.whole_in_constraints,
            le-leb c.nlvoi (c.nlvo - c.nlvc) k.whole_in_objectives,
            le-leb (max c.nlvc c.nlvo + c.nbv + c.niv) c.n_var k.grouped,
          ) refl)
          (row (free_field (field_at 8 1) c.nzc (2 ^ 22) refl refl k.terms, open_fields 8 2 (c.nzo ∷ []) refl m.1.1.1.1.1.1.0.1) refl refl
          (row (open_fields 9 1 (c.row_name_len ∷ c.col_name_len ∷ []) refl m.1.1.1.1.1.1.1.0) refl refl
          (row (open_fields 10 1 (c.comb ∷ c.comc ∷ c.como ∷ c.comc1 ∷ c.como1 ∷ []) refl m.1.1.1.1.1.1.1.1.0) refl
          (rw (le-leb (c.comb + c.comc + c.como + c.comc1 + c.como1) (2 ^ 20) k.defined) refl) no_row))))))))),
    )

-- the written header has these words, and is read as these options and counts
pub record HeaderSays (options : List ℤ) (c : Counts) (header : List WordLine) : Type 0 where
  pub written : AllByRecursion IsWritten (header_lines options c)
  pub reached : IsReached (map spaced (header_lines options c)) (in_body header [])
  pub past : (ps : List Piece) → is_in_header (in_body header ps) ≡ false
  pub options_are : options_in header ≡ options
  pub counts_are : counts_in header ≡ c

pub header_says : (options : List ℤ) (c : Counts) → IsHeaderReady options c → HeaderSays options c (header_lines options c)
header_says options c h = record {
  written = lines_written options c h;
  reached = header_reached (header_lines options c) (omega arith) (lines_written options c h) (lines_fine options c h);
  past = λ ps. refl;
  options_are = options_said options (map numbers (rows_of c)) h.all_small;
  counts_are = counts_said options c h;
}
