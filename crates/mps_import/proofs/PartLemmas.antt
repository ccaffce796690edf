-- What the parts of a program are, and which fault it has.
use Rattle.std.proofs.Common.{◌≡◌, ℕ, suc, ◌+◌, ◌<◌, ◌≤◌, ◌^◌, ◌∙◌, sym, ap, ap₂, refl, arith, Bool, true, false, cond}
use Rattle.std.proofs.Common.{not, nat_eq, nat_lt, ◌&&◌, ◌||◌, if◌then◌else◌, List, [], ◌∷◌, ◌++◌, length, get_or, map}
use Rattle.std.proofs.Common.{drop, Option, Some, None, All}
use Rattle.std.proofs.lemmas.Bool.{lt-ltb, le-ltb, ltb-false, or_parts, le-leb}
use Rattle.std.proofs.lemmas.List.{length-map}
use Rattle.std.proofs.lemmas.List.Sums.{count_by-le-length, sum_by-cons}
use Rattle.std.specs.List.{count_by}
use Rattle.std.specs.Option.{option_map, option_or}
use Rattle.std.specs.Ordering.{is_eq, is_ne}
use Rattle.std.specs.declared.cmp.Ordering.{Ordering}
use Rattle.std.specs.declared.cmp.Ordering.TheVariants.{Less, Equal, Greater}
use Rattle.exact_numbers.specs.Rational.{ℚ}
use Rattle.linear_program.specs.Linear.{Interval}
use Rattle.exact_numbers.specs.declared.dec.Dec.{Dec}
use Rattle.exact_numbers.specs.Values.{dec_value, mantissa_of, exponent_of}
use Rattle.exact_numbers.proofs.Spelling.{decimal_of-decimal}
use Rattle.nl_model.specs.Trees.{number}
use Rattle.nl_model.specs.Draft.{Draft}
use Rattle.nl_model.specs.HeaderRules.{is_header}
use Rattle.nl_model.specs.Rules.{term_count}
use Rattle.linear_program.specs.declared.interval.Interval.{Interval as Sides}
use Rattle.linear_program.specs.declared.kind.Kind.{Kind}
use Rattle.linear_program.specs.declared.kind.Kind.TheVariants.{Continuous, Binary, Integer}
use Rattle.mps_model.specs.Built.{entry_of}
use Rattle.mps_model.specs.Mps.{MpsRow, Mps, row_interval, objective_row}
use Rattle.mps_import.specs.declared.build.Parts.{Parts}
use Rattle.mps_program.specs.declared.mps_fault.MpsFault.{MpsFault}
use Rattle.mps_program.specs.declared.mps_fault.MpsFault.TheVariants.{EmptyInterval, TooWide, TooLarge}
use Rattle.mps_import.specs.declared.rows.RowUse.{RowUse}
use Rattle.mps_import.specs.declared.rows.RowUse.TheVariants.{Unused, Objective, Constraint}
use Rattle.mps_program.specs.Kinds.{kind_by, column_kind, is_whole, is_zero_to_one}
use Rattle.mps_import.specs.InsideKinds.{is_kind, of_kind}
use Rattle.mps_program.specs.Decimals.{sides_from}
use Rattle.mps_import.specs.Decimals.{number_tree}
use Rattle.mps_import.specs.Faults.{is_too_large, import_fault}
use Rattle.mps_program.specs.Faults.{is_column_empty, first_wide, first_empty, both_sides}
use Rattle.mps_program.specs.Program.{is_constraint, constraints, values_of}
use Rattle.mps_import.specs.Import.{has_sides, constraint_terms, objective_terms, counts_with, import_counts, import_options}
use Rattle.mps_program.specs.Terms.{is_zero_dec}
use Rattle.mps_import.specs.InsideParts.{side_test, ArePartsOf}
use Rattle.mps_program.specs.Places.{places, listed, one_if}
use Rattle.mps_import.specs.InsideUses.{rank, use_of, is_hit, hits, with_term}
use Rattle.mps_import.specs.Variables.{columns_that, is_continuous, is_binary, is_integer, order_of_columns}
use Rattle.mps_program.proofs.FirstLemmas.{listed_at, listed_length, before_small, places_same}
use Rattle.mps_program.proofs.LoopLemmas.{drop_is}
use Rattle.mps_program.proofs.PlaceLemmas.{all_places, none_passes, all_parted, parts_length}
use Rattle.mps_import.proofs.TermLemmas.{few_terms}
use Rattle.mps_program.proofs.OrderLemmas.{row_back}

-- ---- tests
pub choose_equal : (wanted r : Bool) (o : Ordering) → wanted ≡ true → r ≡ is_eq o → r ≡ cond wanted is_eq is_ne o
choose_equal wanted r o e h = h ∙ ap (λ w. cond w is_eq is_ne o) (sym e)

pub choose_other : (wanted r : Bool) (o : Ordering) → wanted ≡ false → r ≡ is_eq o → not r ≡ cond wanted is_eq is_ne o
choose_other wanted r o e h = ap not h ∙ other o ∙ ap (λ w. cond w is_eq is_ne o) (sym e)
  where
    other : (o : Ordering) → not (is_eq o) ≡ is_ne o
    other Less = refl
    other Equal = refl
    other Greater = refl

-- ---- entries
module _ (es : List (ℕ × Dec)) (k : ℕ) (t : ℕ × Dec) (lt : k < length es) (is : t ≡ get_or es k t) where
  pub hit_step : (test : ℕ → Bool) → hits test (map entry_of (drop k es)) ≡ one_if (is_hit test (entry_of t)) + hits test (map entry_of (drop (k + 1) es))
  hit_step test = ap (λ ts. hits test (map entry_of ts)) (drop_is es k t lt is) ∙ sum_by-cons (λ e. one_if (is_hit test e)) (entry_of t) (map entry_of (drop (k + 1) es))

  -- the count with one entry more, of what the rows are
  pub count_step : (what : RowUse → Bool) (uses : List RowUse) (u : RowUse) (z : Bool) (before after : ℕ)
      → t.0 < length uses → u ≡ get_or uses t.0 Unused → z ≡ is_zero_dec t.1 → after ≡ before + one_if (what u && not z)
      → after + hits (λ i. what (get_or uses i Unused)) (map entry_of (drop (k + 1) es))
      ≡ before + hits (λ i. what (get_or uses i Unused)) (map entry_of (drop k es))
  count_step what uses u z before after within read none h =
      omega (arith, h, hit_step (λ i. what (get_or uses i Unused)), ap₂ (λ v y. one_if (what v && not y)) read none)

-- ---- drafts
pub only_terms : (z : Bool) (u : RowUse) (p : ℕ) (v : Dec) (d n : Draft) → n ≡ cond z d (with_term u p v d) → n ≡ record d { terms = n.terms; slopes = n.slopes }
only_terms z u p v d n e = e ∙ by z u ∙ ap (λ (x : Draft). record d { terms = x.terms; slopes = x.slopes }) (sym e)
  where
    by : (z : Bool) (u : RowUse) → cond z d (with_term u p v d) ≡ record d { terms = (cond z d (with_term u p v d)).terms; slopes = (cond z d (with_term u p v d)).slopes }
    by true u = refl
    by false Unused = refl
    by false Objective = refl
    by false (Constraint k) = refl

pub still_only : (a b c : Draft) → b ≡ record a { terms = b.terms; slopes = b.slopes } → c ≡ record b { terms = c.terms; slopes = c.slopes } → c ≡ record a { terms = c.terms; slopes = c.slopes }
still_only a b c e f = f ∙ ap (λ (x : Draft). record x { terms = c.terms; slopes = c.slopes }) e

-- ---- rows
pub use_is : (rows : List MpsRow) (i : ℕ) (b o : Bool) (n : ℕ) (u : RowUse)
    → u ≡ cond b (Constraint n) (cond o Objective Unused) → b ≡ is_constraint rows i → n ≡ rank rows i
    → o ≡ nat_eq i (objective_row rows) → u ≡ use_of rows i
use_is rows i b o n u h e g f = h ∙ (λ p. cond (e p) (Constraint (g p)) (cond (f p) Objective Unused))

-- ---- kinds
module _ (m : Mps Dec) (kinds : List Kind) (are : kinds ≡ listed (column_kind m) (length m.columns)) where
  kind_at : (j : ℕ) → j < length m.columns → get_or kinds j Continuous ≡ column_kind m j
  kind_at j lt = ap (λ ks. get_or ks j Continuous) are ∙ listed_at (column_kind m) (length m.columns) j Continuous lt

  kinds_length : length kinds ≡ length m.columns
  kinds_length = ap length are ∙ listed_length (column_kind m) (length m.columns)

  kind_places : (kind : Kind) (test : ℕ → Bool) → ((j : ℕ) → is_kind kind (column_kind m j) ≡ test j) → of_kind kind kinds ≡ places test (length m.columns)
  kind_places kind test h =
      ap (places (λ j. is_kind kind (get_or kinds j Continuous))) kinds_length
      ∙ places_same (λ j. is_kind kind (get_or kinds j Continuous)) test (length m.columns) (λ j lt. ap (is_kind kind) (kind_at j lt) ∙ h j)

  kind_test : (w z : Bool) → (is_kind Continuous (kind_by w z) ≡ not w) × (is_kind Binary (kind_by w z) ≡ (w && z)) × (is_kind Integer (kind_by w z) ≡ (w && not z))
  kind_test true true = (refl, refl, refl)
  kind_test true false = (refl, refl, refl)
  kind_test false z = (refl, refl, refl)

  pub binary_places : of_kind Binary kinds ≡ columns_that is_binary m
  binary_places = kind_places Binary (is_binary m) (λ j. (kind_test (is_whole m j) (is_zero_to_one m j)).1)

  pub integer_places : of_kind Integer kinds ≡ columns_that is_integer m
  integer_places = kind_places Integer (is_integer m) (λ j. (kind_test (is_whole m j) (is_zero_to_one m j)).2)

  pub order_is : of_kind Continuous kinds ++ (of_kind Binary kinds ++ of_kind Integer kinds) ≡ order_of_columns m
  unfolding order_of_columns
  order_is = ap₂ ◌++◌ (kind_places Continuous (is_continuous m) (λ j. (kind_test (is_whole m j) (is_zero_to_one m j)).0)) (ap₂ ◌++◌ binary_places integer_places)

pub kind_few : (kind : Kind) (kinds : List Kind) → length (of_kind kind kinds) ≤ length kinds
kind_few kind kinds = before_small (λ j. is_kind kind (get_or kinds j Continuous)) (length kinds)

pub all_columns : (m : Mps Dec) → All (λ j. j < length m.columns) (order_of_columns m)
unfolding order_of_columns
all_columns m = all_parted (is_whole m) (is_zero_to_one m) (λ j. j < length m.columns) (length m.columns) (λ j h. h)

-- ---- the first fault
module _ (m : Mps Dec) where
  pub large_fault : is_too_large m ≡ true → import_fault m ≡ Some TooLarge
  unfolding import_fault
  large_fault e = ap (λ b. if b then Some TooLarge else option_or (option_map TooWide (first_wide m)) (option_map EmptyInterval (first_empty m))) e

  pub wide_fault : (f : MpsFault) → is_too_large m ≡ false → option_map TooWide (first_wide m) ≡ Some f → import_fault m ≡ Some f
  unfolding import_fault
  wide_fault f e h = ap₂ (λ b w. if b then Some TooLarge else option_or w (option_map EmptyInterval (first_empty m))) e h

  pub empty_fault : (j : ℕ) → is_too_large m ≡ false → first_wide m ≡ None → first_empty m ≡ Some j → import_fault m ≡ Some (EmptyInterval j)
  unfolding import_fault
  empty_fault j e h g = λ p. if e p then Some TooLarge else option_or (option_map TooWide (h p)) (option_map EmptyInterval (g p))

  pub no_fault : is_too_large m ≡ false → first_wide m ≡ None → first_empty m ≡ None → import_fault m ≡ None
  unfolding import_fault
  no_fault e h g = λ p. if e p then Some TooLarge else option_or (option_map TooWide (h p)) (option_map EmptyInterval (g p))

  pub large_places : nat_lt (2 ^ 20) (length (constraints m.rows)) || nat_lt (2 ^ 20) (length m.columns) ≡ true → is_too_large m ≡ true
  unfolding is_too_large
  large_places e = ap (λ b. b || nat_lt (2 ^ 22) (term_count (constraint_terms m) + length (objective_terms m))) e

  pub large_terms : nat_lt (2 ^ 20) (length (constraints m.rows)) || nat_lt (2 ^ 20) (length m.columns) ≡ false
      → 2 ^ 22 < term_count (constraint_terms m) + length (objective_terms m) → is_too_large m ≡ true
  unfolding is_too_large
  large_terms e h = ap₂ (λ a b. a || b) e (lt-ltb (2 ^ 22) (term_count (constraint_terms m) + length (objective_terms m)) h)

  pub not_large : nat_lt (2 ^ 20) (length (constraints m.rows)) || nat_lt (2 ^ 20) (length m.columns) ≡ false
      → term_count (constraint_terms m) + length (objective_terms m) ≤ 2 ^ 22 → is_too_large m ≡ false
  unfolding is_too_large
  not_large e h = ap₂ (λ a b. a || b) e (le-ltb (2 ^ 22) (term_count (constraint_terms m) + length (objective_terms m)) h)

  -- what no fault shows
  module _ (clean : import_fault m ≡ None) where
    split : (b : Bool) (w e : Option ℕ) → (if b then Some TooLarge else option_or (option_map TooWide w) (option_map EmptyInterval e)) ≡ None → (b ≡ false) × (w ≡ None) × (e ≡ None)
    split true w e h = let r = h in cc
    split false None None h = (refl, refl, refl)
    split false (Some i) e h = let r = h in cc
    split false None (Some j) h = let r = h in cc

    none_of_them : (is_too_large m ≡ false) × (first_wide m ≡ None) × (first_empty m ≡ None)
    unfolding import_fault
    none_of_them = split (is_too_large m) (first_wide m) (first_empty m) clean

    pub clean_large : is_too_large m ≡ false
    clean_large = none_of_them.0

    pub clean_wide : first_wide m ≡ None
    clean_wide = none_of_them.1

    pub not_empty : (j : ℕ) → j < length m.columns → is_column_empty m j ≡ false
    not_empty j lt = none_passes (is_column_empty m) (length m.columns) none_of_them.2 j lt

    both_few : (nat_lt (2 ^ 20) (length (constraints m.rows)) ≡ false) × (nat_lt (2 ^ 20) (length m.columns) ≡ false)
    unfolding is_too_large
    both_few = or_parts (nat_lt (2 ^ 20) (length (constraints m.rows))) (nat_lt (2 ^ 20) (length m.columns))
        (or_parts (nat_lt (2 ^ 20) (length (constraints m.rows)) || nat_lt (2 ^ 20) (length m.columns)) _ clean_large).0

    pub few_constraints : length (constraints m.rows) ≤ 2 ^ 20
    few_constraints = ltb-false (2 ^ 20) (length (constraints m.rows)) both_few.0

    pub few_columns : length m.columns ≤ 2 ^ 20
    few_columns = ltb-false (2 ^ 20) (length m.columns) both_few.1

-- ---- the header
pub header_fits : (n c r e b i z o : ℕ) → n ≤ 2 ^ 20 → c ≤ 2 ^ 20 → r ≤ 2 ^ 20 → e ≤ 2 ^ 20 → b + i ≤ n → z + o ≤ 2 ^ 22 → is_header import_options (counts_with n c r e b i z o) ≡ true
unfolding is_header
header_fits n c r e b i z o hn hc hr he hb hz =
    rw (
      lt-ltb n (2 ^ 31) (omega (arith, hn)),
      lt-ltb c (2 ^ 31) (omega (arith, hc)),
      lt-ltb r (2 ^ 31) (omega (arith, hr)),
      lt-ltb e (2 ^ 31) (omega (arith, he)),
      lt-ltb b (2 ^ 31) (omega (arith, hn, hb)),
      lt-ltb i (2 ^ 31) (omega (arith, hn, hb)),
      lt-ltb z (2 ^ 31) (omega (arith, hz)),
      lt-ltb o (2 ^ 31) (omega (arith, hz)),
      le-leb n (2 ^ 20) hn,
      le-leb c (2 ^ 20) hc,
      le-leb z (2 ^ 22) (omega (arith, hz)),
      le-leb (0 + b + i) n (omega (arith, hb)),
    )
    refl

count_along : (f : ℕ → Sides) (s : Sides → Bool) (t : ℕ → Bool) (is : List ℕ) → All (λ i. s (f i) ≡ t i) is → count_by s (map f is) ≡ count_by t is
count_along f s t [] h = refl
count_along f s t (i ∷ is) h =
    sum_by-cons (λ x. cond (s x) 1 0) (f i) (map f is)
    ∙ omega (arith, ap (λ b. cond {A = ℕ} b 1 0) (h 0 i (omega arith)), count_along f s t is (λ k d lt. h (suc k) d (omega (arith, lt))), sum_by-cons (λ x. cond (t x) 1 0) i is)

pub row_below : (m : Mps Dec) → All (λ i. i < length m.rows) (constraints m.rows)
unfolding constraints
row_below m = all_places (λ j. j < length m.rows) (is_constraint m.rows) (length m.rows) (λ j h e. h)

module _ (m : Mps Dec) (p : Parts) (are : ArePartsOf m p) where
  pub counted_sides : (equal : Bool) → count_by (side_test equal) p.sides.items ≡ count_by (has_sides (cond equal is_eq is_ne) m) (constraints m.rows)
  counted_sides equal =
      ap (count_by (side_test equal)) are.sides
      ∙ count_along (λ i. sides_from (row_interval (values_of m) i)) (side_test equal) (has_sides (cond equal is_eq is_ne) m) (constraints m.rows)
      (λ k d lt. ap (λ (s : Interval). both_sides (cond equal is_eq is_ne) s.lower s.upper) (row_back m (clean_wide m are.clean) (get_or (constraints m.rows) k d) (row_below m k d lt)))

  pub sides_count : length p.sides.items ≡ length (constraints m.rows)
  sides_count = ap length are.sides ∙ length-map (constraints m.rows) (λ i. sides_from (row_interval (values_of m) i))

  pub counts_are : counts_with (length m.columns) (length p.sides.items) (count_by (side_test false) p.sides.items)
      (count_by (side_test true) p.sides.items) p.variables.binary p.variables.integer p.count.constraints
      p.count.objective ≡ import_counts m
  unfolding import_counts
  counts_are = λ q. counts_with (length m.columns) (sides_count q) (counted_sides false q) (counted_sides true q) (are.binary q) (are.integer q) (are.terms q) (are.slopes q)

  whole_few : p.variables.binary + p.variables.integer ≤ length m.columns
  whole_few = omega (arith, are.binary, are.integer, parts_length (is_whole m) (is_zero_to_one m) (length m.columns))

  pub header_there : is_header import_options (counts_with (length m.columns) (length p.sides.items)
      (count_by (side_test false) p.sides.items) (count_by (side_test true) p.sides.items) p.variables.binary
      p.variables.integer p.count.constraints p.count.objective) ≡ true
  header_there =
      header_fits (length m.columns) (length p.sides.items) (count_by (side_test false) p.sides.items)
      (count_by (side_test true) p.sides.items) p.variables.binary p.variables.integer p.count.constraints
      p.count.objective
      (few_columns m are.clean) sides_few (omega (arith, sides_few, count_by-le-length (side_test false) p.sides.items))
      (omega (arith, sides_few, count_by-le-length (side_test true) p.sides.items)) whole_few
      (omega (arith, are.terms, are.slopes, few_terms m (clean_large m are.clean)))
    where
      sides_few : length p.sides.items ≤ 2 ^ 20
      sides_few = omega (arith, sides_count, few_constraints m are.clean)

-- ---- the objective's number
pub number_is : (d : Dec) (x : ℚ) → dec_value d ≡ x → number (mantissa_of d) (exponent_of d) ≡ number_tree x
number_is d x e = sym (ap (λ (y : _). number y.mantissa y.exponent) (decimal_of-decimal d.m d.e d.spelled)) ∙ ap number_tree e
