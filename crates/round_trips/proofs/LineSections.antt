-- Written intervals and the written numbers of columns are taken, one after the other.
use Rattle.std.proofs.Common.{◌≡◌, ◌∙◌, ℕ, ◌+◌, ◌<◌, ◌≤◌, Bool, true, false, not, ◌&&◌, ℤ, List, [], ◌∷◌, ◌++◌, length}
use Rattle.std.proofs.Common.{map, refl, sym, ap, ap₂, arith, Option, Some, None, length-append, zero, suc, ◌^◌, filter}
use Rattle.std.proofs.Common.{subst, nat_le, append-nil, lt_trans, lit<}
use Rattle.std.specs.Prelude.{codes}
use Rattle.std.specs.Ordering.{int_eq}
use Rattle.std.proofs.lemmas.Bool.Decides.{Decides-int_eq}
use Rattle.std.specs.Str.{bytes_eq}
use Rattle.text_base.specs.Judged.{first_reason}
use Rattle.exact_numbers.specs.declared.dec.Dec.{Dec}
use Rattle.exact_numbers.specs.Rational.{decimal_value}
use Rattle.nl_model.specs.declared.header_counts.Counts.{Counts}
use Rattle.linear_program.specs.declared.interval.Interval.{Interval}
use Rattle.std.proofs.Math.Bool.{and-false}
use Rattle.std.specs.List.{AllByRecursion, filter_map}
use Rattle.nl_model.specs.Draft.{Draft}
use Rattle.nl_model.specs.Kinds.{variable_kind}
use Rattle.nl_lines.specs.declared.awaited.Awaited.TheVariants.{Interval as IntervalLine, ColumnCount}
use Rattle.nl_lines.specs.declared.head.Head.{Head}
use Rattle.nl_lines.specs.declared.head.Head.TheVariants.{Sides, Bounds, ColumnCounts, Terms}
use Rattle.nl_lines.specs.Heads.{is_head, head_of, is_in_range}
use Rattle.nl_lines.specs.Rows.{row_words}
use Rattle.nl_lines.proofs.PieceLemmas.{longer}
use Rattle.written_texts.proofs.WordLemmas.{row-written}
use Rattle.exact_numbers.specs.Numbers.{dec_from, whole_of}
use Rattle.nl_lines.specs.Pieces.{Piece, awaited_in, line_kind, line_count, has_tree, piece_intervals, interval_in}
use Rattle.nl_lines.specs.Saying.{with_piece}
use Rattle.text_base.specs.Words.{word_at}
use Rattle.nl_lines.specs.Tests.{has_sides, is_empty, is_binary, is_within_unit, is_sides, is_linear, is_suffix}
use Rattle.nl_lines.specs.Tests.{column_counts, wants_unit, interval_form_tests, interval_tests, column_tests}
use Rattle.nl_lines.specs.Tests.{all_column_counts, are_column_counts}
use Rattle.exact_numbers.proofs.NumberLemmas.{dec_from-some}
use Rattle.exact_numbers.specs.Values.{text_of}
use Rattle.text_base.specs.WordLines.{WordLine}
use Rattle.written_texts.specs.Words.{IsKeptWord, IsWritten}
use Rattle.nl_writer.specs.Written.{is_same, sides_line, interval_line, interval_piece, lettered, column_lines, column_piece}
use Rattle.written_texts.proofs.WrittenWords.{word-text, plain-word, written-one, written-two, written-three, word-decimal}
use Rattle.round_trips.specs.InsideTaking.{row_at, rows_at, IsTaken, taken_none}
use Rattle.written_texts.proofs.NumbersRead.{dec_of-text, whole_of-decimal, are_digits-decimal}
use Rattle.round_trips.proofs.TakenLemmas.{taken_then, begun_piece, IsHeadFine, head_taken, number_head, IsLineFine, with_lines, AreLinesFine, lines_taken, lines_done, lines_no_nodes}
use Rattle.round_trips.specs.InsideStandings.{rank, IsStanding, Reaches}
use Rattle.round_trips.proofs.StandingMore.{added_reaches, not_repeated, standing_as, piece_added, reaches_none, standing_more, standing_up, same_standing}
use Rattle.round_trips.proofs.PairPieces.{uncounted, decimal_no_head}
use Rattle.nl_segments.proofs.PairHeld.{columns-append as columns_more}
use Rattle.std.proofs.lemmas.Bool.{eq-eqb, and_parts}
use Rattle.std.proofs.lemmas.List.Sums.{sum_by-cons, length-filter, count_by-le-length}
use Rattle.std.specs.Fmt.{decimal}
use Rattle.nl_model.specs.File.{Term}
use Rattle.nl_model.specs.Rules.{term_count, most_terms}
use Rattle.nl_model.specs.UseCounts.{terms_up_to}

-- a line that is read as this interval
record Reads (words : WordLine) (i : Interval) : Type 0 where
  written : IsWritten words
  no_head : is_head words ≡ false
  no_five : bytes_eq (word_at words 0) (codes "5") ≡ false
  sides : has_sides words ≡ true
  read : interval_in words ≡ Some i

digit_word : (b : ℕ) → 48 ≤ b → IsKeptWord (b ∷ [])
digit_word b low = plain-word (b ∷ []) (omega arith) (omega arith, tt)

-- numbers that are written with the same mantissa and exponent are the same
same_some : (a b : Dec) → is_same a b ≡ true → Some a ≡ Some b
same_some a b e =
    let parts = and_parts (int_eq a.m b.m) (int_eq a.e b.e) e in
    sym (dec_from-some a) ∙ ap₂ (λ m e. dec_from (decimal_value m e)) (same_int a.m b.m parts.0) (same_int a.e b.e parts.1) ∙ dec_from-some b
  where
    same_int : (x y : ℤ) → int_eq x y ≡ true → x ≡ y
    same_int x y e = let d = Decides-int_eq x y in d.0 e

reads : (lo hi : Option Dec) → Reads (sides_line lo hi) (record { lo = lo; hi = hi })
unfolding interval_in
reads None None = record { written = written-one (codes "3") (digit_word 51 (omega arith)); no_head = refl; no_five = refl; sides = refl; read = refl }
reads None (Some hi) = record {
  written = written-two (codes "1") (text_of hi) (digit_word 49 (omega arith))
      (word-text hi);
  no_head = refl;
  no_five = refl;
  sides = refl;
  read = rw (dec_of-text hi) refl;
}
reads (Some lo) None = record {
  written = written-two (codes "2") (text_of lo) (digit_word 50 (omega arith))
      (word-text lo);
  no_head = refl;
  no_five = refl;
  sides = refl;
  read = rw (dec_of-text lo) refl;
}
reads (Some lo) (Some hi) = by (is_same lo hi) refl
  where
    by : (b : Bool) → is_same lo hi ≡ b → Reads (sides_line (Some lo) (Some hi)) (record { lo = Some lo; hi = Some hi })
    by true e = rw e (record {
      written = written-two (codes "4") (text_of lo) (digit_word 52 (omega arith)) (word-text lo);
      no_head = refl;
      no_five = refl;
      sides = refl;
      read = rw (dec_of-text lo) (ap (λ o. Some (record { lo = Some lo; hi = o })) (same_some lo hi e));
    })
    by false e = rw e (record {
      written = written-three (codes "0") (text_of lo) (text_of hi) (digit_word 48 (omega arith)) (word-text lo) (word-text hi);
      no_head = refl;
      no_five = refl;
      sides = refl;
      read = rw (dec_of-text lo, dec_of-text hi) refl;
    })

-- the interval may come next in the piece p
pub record IsIntervalFine (c : Counts) (p : Piece) (i : Interval) : Type 0 where
  pub ordered : is_empty i ≡ false
  pub unit : (wants_unit c p && not (is_within_unit i)) ≡ false

tests_fine : (sides unit : Bool) (words : WordLine) (i : Interval) → Reads words i → is_empty i ≡ false
    → (unit && not (is_within_unit i)) ≡ false → first_reason (interval_form_tests sides unit words) ≡ None
unfolding interval_form_tests
tests_fine sides unit words i r e u = rw (r.no_five, and-false sides, r.sides, r.read, e, u) refl

interval_fine : (o : List ℤ) (c : Counts) (before : List Piece) (p : Piece) (i : Interval) → IsIntervalFine c p i
    → awaited_in c p ≡ IntervalLine → IsLineFine o c before p (interval_line i) IntervalLine
unfolding interval_tests
interval_fine o c before p i h awaited =
    let r = reads i.lo i.hi in
    record {
      written = r.written;
      is = r.no_head;
      awaited = awaited;
      fine = tests_fine (is_sides p.head) (wants_unit c p) (interval_line i) i r h.ordered h.unit;
    }

-- ---- whole pieces of intervals

interval_read : (n : ℕ) (i : Interval) → interval_in (row_words (row_at n (interval_line i))) ≡ Some i
interval_read n i = let r = reads i.lo i.hi in rw (row-written (interval_line i) r.written) r.read

intervals_read : (n : ℕ) (intervals : List Interval) → filter_map (λ r. interval_in (row_words r)) (rows_at n (map interval_line intervals)) ≡ intervals
intervals_read n [] = refl
intervals_read n (i ∷ intervals) = rw (interval_read n i) (ap (λ is. i ∷ is) (intervals_read (n + 1) intervals))

-- the piece of a head and the rows of these intervals
abbrev pub rows_of_intervals : ℕ → WordLine → Head → List Interval → Piece
rows_of_intervals n words head intervals = with_lines (begun_piece n words head) (n + 1) (map interval_line intervals)

-- a head that so many intervals follow
pub record IsIntervalHead (c : Counts) (head : Head) (count : ℕ) : Type 0 where
  pub kind : line_kind head ≡ IntervalLine
  pub size : line_count c head ≡ count
  pub alone : has_tree head ≡ false
  pub not_linear : is_linear head ≡ false
  pub no_suffix : is_suffix head ≡ false
  pub columns : (p : Piece) → column_counts p head ≡ []

-- ---- a section of intervals

intervals_reached : {o : List ℤ} {c : Counts} {before : List Piece} {d e : Draft}
    {n next after linear values nodes suffixes : ℕ} (words : WordLine) (head : Head) (intervals : List Interval)
    → IsHeadFine c before words head → IsIntervalHead c head (length intervals)
    → AreLinesFine interval_line (IsIntervalFine c) (begun_piece n words head) (n + 1) intervals → next ≤ after → rank head < after
    → (piece_intervals (rows_of_intervals n words head intervals) ≡ intervals → with_piece d (rows_of_intervals n words head intervals) ≡ e)
    → IsStanding o c before d next linear values nodes suffixes → Reaches o c before n (words ∷ map interval_line intervals) e after linear values nodes suffixes
intervals_reached {o = o} {c = c} {before = before} {n = n} {linear = linear} {values = values} {nodes = nodes} words head intervals h k fine up above said s =
    let p = rows_of_intervals n words head intervals in
    let lines = lines_taken o c before interval_line IntervalLine (IsIntervalFine c) (interval_fine o c before)
    (begun_piece n words head) (n + 1) intervals (record { kind = k.kind; lacks = omega (arith, k.size) }) fine in
    added_reaches p (k.columns p)
    (piece_added p (taken_then (head_taken h) refl lines) (lines_done c n words head interval_line intervals k.size k.alone) up above (said (intervals_read (n + 1) intervals))
    (uncounted is_linear p k.not_linear linear) (uncounted is_suffix p k.no_suffix values)
    (omega (arith, lines_no_nodes c n words head (map interval_line intervals) k.alone))
    (rw k.no_suffix (omega arith)) s)

-- ---- the intervals of constraints

sides_fine : (c : Counts) (p : Piece) (n : ℕ) (intervals : List Interval) → p.head ≡ Sides
    → AllByRecursion (λ i. is_empty i ≡ false) intervals → AreLinesFine interval_line (IsIntervalFine c) p n intervals
sides_fine c p n [] e ordered = tt
sides_fine c p n (i ∷ intervals) e ordered = (record { ordered = ordered.0; unit = rw e refl }, sides_fine c (longer p (row_at n (interval_line i))) (n + 1) intervals e ordered.1)

pub sides_reached : {o : List ℤ} {c : Counts} {before : List Piece} {d : Draft} {n linear values nodes suffixes : ℕ}
    (intervals : List Interval) → length intervals ≡ c.n_con → AllByRecursion (λ i. is_empty i ≡ false) intervals
    → d.sides ≡ []
    → IsStanding o c before d (rank Sides) linear values nodes suffixes
    → Reaches o c before n (interval_piece (codes "r") intervals) (record d { sides = intervals }) (rank Bounds)
    linear values nodes suffixes
unfolding head_of is_in_range
sides_reached {d = d} [] size ordered none s = reaches_none (standing_as s (omega arith) (λ j. record d { sides = none j }) refl refl refl refl)
sides_reached {c = c} {before = before} {d = d} {n = n} (i ∷ intervals) size ordered none s =
    intervals_reached (codes "r" ∷ []) Sides (i ∷ intervals)
    (record {
      written = written-one (codes "r") (digit_word 114 (omega arith));
      form = (refl, refl, refl);
      read =
          refl;
      done = s.done;
      fine = rw (not_repeated before Sides [] s.ranks) refl;
    })
    (record { kind = refl; size = sym size; alone = refl; not_linear = refl; no_suffix = refl; columns = λ p. refl })
    (sides_fine c (begun_piece n (codes "r" ∷ []) Sides) (n + 1) (i ∷ intervals) refl ordered) (omega arith) (omega arith) (λ all. ap₂ (λ xs ys. record d { sides = xs ++ ys }) none all) s

-- ---- the intervals of variables

-- each interval of a binary variable is within 0 and 1; the first is that of variable j
abbrev pub AreUnits : Counts → ℕ → List Interval → Type 0
AreUnits c j [] = Unit {0}
AreUnits c j (i ∷ intervals) = ((is_binary (variable_kind c j) && not (is_within_unit i)) ≡ false) × AreUnits c (j + 1) intervals

bounds_fine : (c : Counts) (p : Piece) (n j : ℕ) (intervals : List Interval) → p.head ≡ Bounds → length p.rows ≡ j → AllByRecursion (λ i. is_empty i ≡ false) intervals → AreUnits c j intervals
    → AreLinesFine interval_line (IsIntervalFine c) p n intervals
bounds_fine c p n j [] e k ordered units = tt
bounds_fine c p n j (i ∷ intervals) e k ordered units =
    let unit : (wants_unit c p && not (is_within_unit i)) ≡ false = rw (e, k) units.0 in (
      record { ordered = ordered.0; unit = unit },
      bounds_fine c (longer p (row_at n (interval_line i))) (n + 1) (j + 1)
          intervals e (omega (arith, length-append p.rows (row_at n (interval_line i) ∷ []), k)) ordered.1 units.1,
    )

pub bounds_reached : {o : List ℤ} {c : Counts} {before : List Piece} {d : Draft} {n linear values nodes suffixes : ℕ}
    (intervals : List Interval) → length intervals ≡ c.n_var → AllByRecursion (λ i. is_empty i ≡ false) intervals
    → AreUnits c 0 intervals → d.bounds ≡ []
    → IsStanding o c before d (rank Bounds) linear values nodes suffixes
    → Reaches o c before n (interval_piece (codes "b") intervals) (record d { bounds = intervals })
    (rank (ColumnCounts 0)) linear values nodes suffixes
unfolding head_of is_in_range
bounds_reached {d = d} [] size ordered units none s = reaches_none (standing_as s (omega arith) (λ j. record d { bounds = none j }) refl refl refl refl)
bounds_reached {c = c} {before = before} {d = d} {n = n} (i ∷ intervals) size ordered units none s =
    intervals_reached (codes "b" ∷ []) Bounds (i ∷ intervals)
    (record {
      written = written-one (codes "b") (digit_word 98 (omega arith));
      form = (refl, refl, refl);
      read = refl;
      done = s.done;
      fine = rw (not_repeated before Bounds [] s.ranks) refl;
    })
    (record { kind = refl; size = sym size; alone = refl; not_linear = refl; no_suffix = refl; columns = λ p. refl })
    (bounds_fine c (begun_piece n (codes "b" ∷ []) Bounds) (n + 1) 0 (i ∷ intervals) refl refl ordered units)
    (omega arith) (omega arith) (λ all. ap₂ (λ xs ys. record d { bounds = xs ++ ys }) none all) s

-- ---- the numbers of columns, a line each

abbrev pub count_line : ℕ → WordLine
count_line k = decimal k ∷ []

-- the numbers of n variables from j on
abbrev pub counts_from : List (List Term) → ℕ → ℕ → List ℕ
counts_from rows j zero = []
counts_from rows j (suc n) = terms_up_to rows j ∷ counts_from rows (j + 1) n

counts_lines : (rows : List (List Term)) (j n : ℕ) → map count_line (counts_from rows j n) ≡ column_lines rows j n
counts_lines rows j zero = refl
counts_lines rows j (suc n) = ap (λ ls. count_line (terms_up_to rows j) ∷ ls) (counts_lines rows (j + 1) n)

counts_size : (rows : List (List Term)) (j n : ℕ) → length (counts_from rows j n) ≡ n
counts_size rows j zero = refl
counts_size rows j (suc n) = ap suc (counts_size rows (j + 1) n)

pub counts_right : (rows : List (List Term)) (j n : ℕ) → are_column_counts rows j (counts_from rows j n) ≡ true
counts_right rows j zero = refl
counts_right rows j (suc n) = rw (eq-eqb (terms_up_to rows j) (terms_up_to rows j) refl) (counts_right rows (j + 1) n)

pub up_to_most : (rows : List (List Term)) (j : ℕ) → terms_up_to rows j ≤ term_count rows
up_to_most [] j = omega arith
up_to_most (ts ∷ rows) j =
    let early : Term → Bool = λ t. nat_le t.0 j in
    omega (arith, sum_by-cons (λ terms. length (filter early terms)) ts rows, sum_by-cons (length {A = Term}) ts rows, length-filter early ts, count_by-le-length early ts, up_to_most rows j)

-- a number of a line
pub record IsSmall (k : ℕ) : Type 0 where
  pub small : k < 2 ^ 31

counts_small : (rows : List (List Term)) (j n : ℕ) → term_count rows ≤ most_terms → AllByRecursion IsSmall (counts_from rows j n)
counts_small rows j zero few = tt
counts_small rows j (suc n) few = (record { small = let most = up_to_most rows j in omega arith }, counts_small rows (j + 1) n few)

count_fine : (k : ℕ) → k < 2 ^ 31 → first_reason (column_tests (count_line k)) ≡ None
unfolding column_tests
count_fine k small = rw (are_digits-decimal k small, whole_of-decimal k small) refl

number_line : (o : List ℤ) (c : Counts) (before : List Piece) (p : Piece) (k : ℕ) → IsSmall k → awaited_in c p ≡ ColumnCount → IsLineFine o c before p (count_line k) ColumnCount
number_line o c before p k h awaited = record {
  written = written-one (decimal k) (word-decimal k (lt_trans h.small (lit< tt)));
  is = decimal_no_head k [] h.small;
  awaited = awaited;
  fine = count_fine k h.small;
}

all_lines_fine : (p : Piece) (n : ℕ) (ks : List ℕ) → AllByRecursion IsSmall ks → AreLinesFine count_line (λ q k. IsSmall k) p n ks
all_lines_fine p n [] all = tt
all_lines_fine p n (k ∷ ks) all = (all.0, all_lines_fine (record p { rows = p.rows ++ row_at n (count_line k) ∷ [] }) (n + 1) ks all.1)

counts_read : (n : ℕ) (ks : List ℕ) → AllByRecursion IsSmall ks → filter_map (λ r. whole_of (word_at (row_words r) 0)) (rows_at n (map count_line ks)) ≡ ks
counts_read n [] all = refl
counts_read n (k ∷ ks) all =
    rw (row-written (count_line k) (written-one (decimal k) (word-decimal k (lt_trans all.0.small (lit< tt)))), whole_of-decimal k all.0.small) (ap (λ js. k ∷ js) (counts_read (n + 1) ks all.1))

-- ---- the piece of columns

-- written lines that are taken and hold these numbers of columns
pub record ReachesColumns (o : List ℤ) (c : Counts) (before : List Piece) (n : ℕ) (lines : List WordLine) (d : Draft) (next linear values nodes suffixes : ℕ) (counts : List ℕ) : Type 0 where
  pub after : List Piece
  pub taken : IsTaken o c before n lines after
  pub stands : IsStanding o c after d next linear values nodes suffixes
  pub columns : all_column_counts after ≡ all_column_counts before ++ counts

abbrev columns_of : ℕ → ℕ → List ℕ → Piece
columns_of n m ks = with_lines (begun_piece n (lettered (codes "k") m ∷ []) (ColumnCounts m)) (n + 1) (map count_line ks)

columns_taken : (o : List ℤ) (c : Counts) (before : List Piece) (d : Draft) (n m linear values nodes suffixes : ℕ)
    (rows : List (List Term)) → c.n_var ≤ 2 ^ 20 → c.n_var ≡ suc m → term_count rows ≤ most_terms
    → IsStanding o c before d (rank (ColumnCounts 0)) linear values nodes suffixes
    → ReachesColumns o c before n (column_piece (suc m) rows) d (rank (Terms 0 0)) linear values nodes suffixes (counts_from rows 0 m)
unfolding head_of is_in_range
columns_taken o c before d n m linear values nodes suffixes rows most e few s =
    let ks = counts_from rows 0 m in
    let words : WordLine = lettered (codes "k") m ∷ [] in
    let head = ColumnCounts m in
    let p0 = begun_piece n words head in
    let p = columns_of n m ks in
    let small = counts_small rows 0 m few in
    let size = counts_size rows 0 m in
    let lines = lines_taken o c before count_line ColumnCount (λ q k. IsSmall k) (number_line o c before) p0 (n + 1) ks
    (record { kind = refl; lacks = omega (arith, size) }) (all_lines_fine p0 (n + 1) ks small) in
    let low : m < 2 ^ 31 = omega (arith, most, e) in
    let fine = number_head 107 m head (omega arith) low (refl, refl, refl)
    (rw (whole_of-decimal m low, eq-eqb (m + 1) c.n_var (omega (arith, e))) refl) s.done
    (rw (not_repeated before head [] s.ranks) refl) in
    let taken = taken_then (head_taken fine) refl lines in
    let more = standing_more {after = rank (Terms 0 0)} p s (lines_done c n words head count_line ks (sym size) refl) (omega arith) (omega arith) in
    record {
      after = before ++ p ∷ [];
      taken = subst (λ ls. IsTaken o c before n (words ∷ ls) (before ++ p ∷ [])) (counts_lines rows 0 m) taken;
      stands = same_standing more refl (omega arith) (omega arith) (omega (arith, lines_no_nodes c n words head (map count_line ks) refl)) (omega arith);
      columns = columns_more before p ∙ ap (λ xs. all_column_counts before ++ xs) (counts_read (n + 1) ks small);
    }

-- the numbers of the piece of columns, which is there where there is a variable
abbrev pub counts_of_columns : ℕ → List (List Term) → List ℕ
counts_of_columns zero rows = []
counts_of_columns (suc m) rows = counts_from rows 0 m

pub columns_reached : {o : List ℤ} {c : Counts} {before : List Piece} {d : Draft} {n linear values nodes suffixes : ℕ}
    (k : ℕ) (rows : List (List Term)) → c.n_var ≤ 2 ^ 20 → c.n_var ≡ k → term_count rows ≤ most_terms
    → IsStanding o c before d (rank (ColumnCounts 0)) linear values nodes suffixes
    → ReachesColumns o c before n (column_piece k rows) d (rank (Terms 0 0)) linear values nodes suffixes
    (counts_of_columns k rows)
columns_reached {before = before} zero rows most e few s = record { after = before; taken = taken_none; stands = standing_up s (omega arith); columns = sym (append-nil (all_column_counts before)) }
columns_reached {o = o} {c = c} {before = before} {d = d} {n = n} {linear = linear} {values = values} {nodes = nodes} {suffixes = suffixes} (suc m) rows most e few s =
    columns_taken o c before d n m linear values nodes suffixes rows most e few s

-- these lines after others, and others after them
pub then_columns : {o : List ℤ} {c : Counts} {before : List Piece} {n : ℕ} {xs ys : List WordLine} {d e : Draft}
    {next after linear values nodes suffixes linear' values' nodes' suffixes' : ℕ} {counts : List ℕ}
    → Reaches o c before n xs d next linear values nodes suffixes
    → ((b : List Piece) → IsStanding o c b d next linear values nodes suffixes
    → ReachesColumns o c b (n + length xs) ys e after linear' values' nodes' suffixes' counts)
    → ReachesColumns o c before n (xs ++ ys) e after linear' values' nodes' suffixes' counts
then_columns {counts = counts} r then =
    let q = then r.after r.stands in
    record { after = q.after; taken = taken_then r.taken refl q.taken; stands = q.stands; columns = q.columns ∙ ap (λ ks. ks ++ counts) r.columns }

pub columns_then : {o : List ℤ} {c : Counts} {before : List Piece} {n : ℕ} {xs ys : List WordLine} {d e : Draft}
    {next after linear values nodes suffixes linear' values' nodes' suffixes' : ℕ} {counts : List ℕ}
    → ReachesColumns o c before n xs d next linear values nodes suffixes counts
    → ((b : List Piece) → IsStanding o c b d next linear values nodes suffixes
    → Reaches o c b (n + length xs) ys e after linear' values' nodes' suffixes')
    → ReachesColumns o c before n (xs ++ ys) e after linear' values' nodes' suffixes' counts
columns_then r then =
    let q = then r.after r.stands in
    record { after = q.after; taken = taken_then r.taken refl q.taken; stands = q.stands; columns = q.columns ∙ r.columns }
