-- What a body means with a row of numbers more.
use Rattle.std.proofs.Common.{◌≡◌, ◌∙◌, ℕ, ◌+◌, ◌-◌, ◌<◌, ◌≤◌, false, ℤ, List, [], ◌∷◌, ◌++◌, length, take, drop, Option, Some, None, refl, sym, ap, ap₂, arith, cond, inl, inr, ◌==◌}
use Rattle.std.specs.Prelude.{slice_get, codes}
use Rattle.std.specs.List.{filter_map, sum_by}
use Rattle.std.specs.Option.{option_map_or}
use Rattle.std.proofs.lemmas.List.{length_push, nil_from_length, drop_all}
use Rattle.exact_numbers.specs.declared.dec.Dec.{Dec}
use Rattle.exact_numbers.specs.Numbers.{whole_of}
use Rattle.sol_files.specs.declared.awaited.Awaited.{Awaited}
use Rattle.sol_files.specs.declared.awaited.Awaited.TheVariants.{OptionCount, Options, Constraints, DualCount, Variables, PrimalCount, Duals, Primals, Tail}
use Rattle.sol_files.specs.Rows.{Row, table_size, number_in, option_in, value_in, objno_in}
use Rattle.text_base.specs.Words.{begins}
use Rattle.sol_files.specs.Parts.{Piece, Body, row_number, option_count, constraint_count, dual_count, variable_count, primal_count}
use Rattle.sol_files.specs.Saying.{option_rows, dual_rows, primal_rows, rows_past, suffix_of, sol_of}
use Rattle.sol_files.specs.Progress.{Progress}
use Rattle.sol_files.specs.Steps.{listed, or_else, options_await, values_await, after_row}
use Rattle.sol_files.proofs.RowLemmas.{number-at, number-other, part_none, part_past, part_more, rest_none, rest_more}
use Rattle.sol_files.proofs.PlaceLemmas.{row_at, rows_left, body_left, Place, first, option, constraints, duals}
use Rattle.sol_files.proofs.PlaceLemmas.{variables, primals, dual, primal, past, place, after_counts, after_option_row}
use Rattle.sol_files.proofs.PlaceLemmas.{after_dual_row, after_primal_row, after_past_row}
use Rattle.std.proofs.lemmas.Bool.Decides.{eqb_tells}

-- how many table lines suffixes announce together, and how many values they have so far
abbrev pub table_total : List Piece → ℕ
table_total pieces = sum_by (λ p. table_size p.head) pieces

abbrev pub value_count_in : Piece → ℕ
value_count_in p = option_map_or (λ s. length s.values) (suffix_of p) 0

abbrev pub value_total : List Piece → ℕ
value_total pieces = sum_by value_count_in pieces

-- what a message and a body mean for the next line
unfoldable pub met : List (List ℕ) → Body → Progress
met message b =
    record {
      awaited = body_left b;
      is_held_back = false;
      sol = sol_of message b;
      dual_count = dual_count b.rows;
      primal_count = primal_count b.rows;
      suffix_count = length b.pieces;
      table_count = table_total b.pieces;
      value_count = value_total b.pieces;
    }

-- what rows of numbers mean
record Numbers : Type 0 where
  awaited : Awaited
  options : List ℤ
  n_con : ℕ
  duals : List Dec
  n_var : ℕ
  primals : List Dec
  objno : Option (ℤ × ℤ)
  dual_count : ℕ
  primal_count : ℕ

numbers_of : List Row → Numbers
numbers_of rows =
    record {
      awaited = rows_left rows;
      options = filter_map option_in (option_rows rows);
      n_con = constraint_count rows;
      duals = filter_map value_in (dual_rows rows);
      n_var = variable_count rows;
      primals = filter_map value_in (primal_rows rows);
      objno = slice_get (filter_map objno_in (rows_past rows)) 0;
      dual_count = dual_count rows;
      primal_count = primal_count rows;
    }

with_numbers : List (List ℕ) → Numbers → Progress
with_numbers message n =
    record {
      awaited = n.awaited;
      is_held_back = false;
      sol = record { message = message; options = n.options; n_con = n.n_con; duals = n.duals; n_var = n.n_var; primals = n.primals; objno = n.objno; suffixes = [] };
      dual_count = n.dual_count;
      primal_count = n.primal_count;
      suffix_count = 0;
      table_count = 0;
      value_count = 0;
    }

only_rows : List Row → Body
only_rows rows = record { rows = rows; pieces = [] }

met_rows : (message : List (List ℕ)) (rows : List Row) → met message (only_rows rows) ≡ with_numbers message (numbers_of rows)
unfolding met only_rows with_numbers numbers_of sol_of
met_rows message rows = refl

same_numbers : (x y : Numbers) → x.awaited ≡ y.awaited → x.options ≡ y.options → x.n_con ≡ y.n_con → x.duals ≡ y.duals
    → x.n_var ≡ y.n_var → x.primals ≡ y.primals → x.objno ≡ y.objno → x.dual_count ≡ y.dual_count
    → x.primal_count ≡ y.primal_count → x ≡ y
same_numbers x y a o c d v p n e f = λ i. record { awaited = a i; options = o i; n_con = c i; duals = d i; n_var = v i; primals = p i; objno = n i; dual_count = e i; primal_count = f i }

-- ---- numbers of rows

first_listed : {A : Type 0} (xs : List A) (o : Option A) → slice_get (xs ++ listed o) 0 ≡ or_else (slice_get xs 0) o
first_listed [] None = refl
first_listed [] (Some x) = refl
first_listed (x ∷ xs) o = refl

no_number : number_in [] 0 ≡ 0
unfolding whole_of
no_number = refl

module _ (rows : List Row) (row : Row) (begun : 0 < length rows) where
  option_count_kept : option_count (rows ++ row ∷ []) ≡ option_count rows
  option_count_kept = number-other rows row 0 (λ e. omega (arith, e))

  count_other : (j : ℕ) → (length rows ≡ option_count rows + j → ⊥) → row_number (rows ++ row ∷ []) (option_count (rows ++ row ∷ []) + j) ≡ row_number rows (option_count rows + j)
  count_other j ne = ap (λ k. row_number (rows ++ row ∷ []) (k + j)) option_count_kept ∙ number-other rows row (option_count rows + j) ne

  count_at : (j : ℕ) → length rows ≡ option_count rows + j → row_number (rows ++ row ∷ []) (option_count (rows ++ row ∷ []) + j) ≡ number_in row 0
  count_at j e = ap (λ k. row_number (rows ++ row ∷ []) (k + j)) option_count_kept ∙ number-at rows row (option_count rows + j) e

  options_same : option_count rows < length rows → filter_map option_in (option_rows (rows ++ row ∷ [])) ≡ filter_map option_in (option_rows rows)
  options_same lt = ap (λ k. filter_map option_in (take k (drop 1 (rows ++ row ∷ [])))) option_count_kept ∙ part_past option_in rows row 1 (option_count rows) (omega arith)

  options_more : length rows ≤ option_count rows → filter_map option_in (option_rows (rows ++ row ∷ [])) ≡ filter_map option_in (option_rows rows) ++ listed (option_in row)
  options_more le = ap (λ k. filter_map option_in (take k (drop 1 (rows ++ row ∷ [])))) option_count_kept ∙ part_more option_in rows row 1 (option_count rows) (omega arith) (omega arith)

  -- before the duals
  duals_none : length rows < option_count rows + 5 → filter_map value_in (dual_rows (rows ++ row ∷ [])) ≡ filter_map value_in (dual_rows rows)
  duals_none lt =
      let len = length_push rows row in
      part_none value_in (rows ++ row ∷ []) (option_count (rows ++ row ∷ []) + 5) (dual_count (rows ++ row ∷ [])) (omega (arith, option_count_kept))
      ∙ sym (part_none value_in rows (option_count rows + 5) (dual_count rows) (omega arith))

  primals_none : length rows < option_count rows + 5 → filter_map value_in (primal_rows (rows ++ row ∷ [])) ≡ filter_map value_in (primal_rows rows)
  primals_none lt =
      let len = length_push rows row in
      part_none value_in (rows ++ row ∷ []) (option_count (rows ++ row ∷ []) + 5 + dual_count (rows ++ row ∷ [])) (primal_count (rows ++ row ∷ [])) (omega (arith, option_count_kept))
      ∙ sym (part_none value_in rows (option_count rows + 5 + dual_count rows) (primal_count rows) (omega arith))

  past_none : (from from' : ℕ) → length rows < from → length rows ≤ from' → filter_map objno_in (drop from (rows ++ row ∷ [])) ≡ filter_map objno_in (drop from' rows)
  past_none from from' lt le = rest_none objno_in rows row from lt ∙ ap (filter_map objno_in) (drop_all from rows (omega arith) ∙ sym (drop_all from' rows le))

  objno_none : length rows < option_count rows + 5 → slice_get (filter_map objno_in (rows_past (rows ++ row ∷ []))) 0 ≡ slice_get (filter_map objno_in (rows_past rows)) 0
  objno_none lt =
      ap (λ xs. slice_get xs 0)
      (past_none (option_count (rows ++ row ∷ []) + 5 + dual_count (rows ++ row ∷ []) + primal_count (rows ++ row ∷ []))
      (option_count rows + 5 + dual_count rows + primal_count rows) (omega (arith, option_count_kept)) (omega arith))

  -- among the values
  module _ (late : option_count rows + 5 ≤ length rows) where
    dual_count_kept : dual_count (rows ++ row ∷ []) ≡ dual_count rows
    dual_count_kept = count_other 2 (λ e. omega (arith, e))

    primal_count_kept : primal_count (rows ++ row ∷ []) ≡ primal_count rows
    primal_count_kept = count_other 4 (λ e. omega (arith, e))

    dual_part : filter_map value_in (dual_rows (rows ++ row ∷ [])) ≡ filter_map value_in (take (dual_count rows) (drop (option_count rows + 5) (rows ++ row ∷ [])))
    dual_part = ap₂ (λ d k. filter_map value_in (take d (drop (k + 5) (rows ++ row ∷ [])))) dual_count_kept option_count_kept

    primal_part : filter_map value_in (primal_rows (rows ++ row ∷ [])) ≡ filter_map value_in (take (primal_count rows) (drop (option_count rows + 5 + dual_count rows) (rows ++ row ∷ [])))
    primal_part =
        ap₂ (λ p k. filter_map value_in (take p (drop (k + 5 + dual_count (rows ++ row ∷ [])) (rows ++ row ∷ [])))) primal_count_kept option_count_kept
        ∙ ap (λ d. filter_map value_in (take (primal_count rows) (drop (option_count rows + 5 + d) (rows ++ row ∷ [])))) dual_count_kept

    past_part : rows_past (rows ++ row ∷ []) ≡ drop (option_count rows + 5 + dual_count rows + primal_count rows) (rows ++ row ∷ [])
    past_part =
        ap₂ (λ p k. drop (k + 5 + dual_count (rows ++ row ∷ []) + p) (rows ++ row ∷ [])) primal_count_kept option_count_kept
        ∙ ap (λ d. drop (option_count rows + 5 + d + primal_count rows) (rows ++ row ∷ [])) dual_count_kept

    await_part : rows_left (rows ++ row ∷ []) ≡ row_at (option_count rows) (dual_count rows) (primal_count rows) (length rows + 1)
    await_part =
        ap₂ (λ k i. row_at k (dual_count (rows ++ row ∷ [])) (primal_count (rows ++ row ∷ [])) i) option_count_kept (length_push rows row)
        ∙ ap₂ (λ d p. row_at (option_count rows) d p (length rows + 1)) dual_count_kept primal_count_kept

    duals_more : length rows < option_count rows + 5 + dual_count rows → filter_map value_in (dual_rows (rows ++ row ∷ [])) ≡ filter_map value_in (dual_rows rows) ++ listed (value_in row)
    duals_more lt = dual_part ∙ part_more value_in rows row (option_count rows + 5) (dual_count rows) late lt

    duals_same : option_count rows + 5 + dual_count rows ≤ length rows → filter_map value_in (dual_rows (rows ++ row ∷ [])) ≡ filter_map value_in (dual_rows rows)
    duals_same le = dual_part ∙ part_past value_in rows row (option_count rows + 5) (dual_count rows) le

    primals_later : length rows < option_count rows + 5 + dual_count rows → filter_map value_in (primal_rows (rows ++ row ∷ [])) ≡ filter_map value_in (primal_rows rows)
    primals_later lt =
        primal_part
        ∙ part_none value_in (rows ++ row ∷ []) (option_count rows + 5 + dual_count rows) (primal_count rows) (omega (arith, length_push rows row))
        ∙ sym (part_none value_in rows (option_count rows + 5 + dual_count rows) (primal_count rows) (omega arith))

    primals_more : option_count rows + 5 + dual_count rows ≤ length rows
        → length rows < option_count rows + 5 + dual_count rows + primal_count rows
        → filter_map value_in (primal_rows (rows ++ row ∷ []))
        ≡ filter_map value_in (primal_rows rows) ++ listed (value_in row)
    primals_more le lt = primal_part ∙ part_more value_in rows row (option_count rows + 5 + dual_count rows) (primal_count rows) le lt

    primals_same : option_count rows + 5 + dual_count rows + primal_count rows ≤ length rows → filter_map value_in (primal_rows (rows ++ row ∷ [])) ≡ filter_map value_in (primal_rows rows)
    primals_same le = primal_part ∙ part_past value_in rows row (option_count rows + 5 + dual_count rows) (primal_count rows) le

    objno_later : length rows < option_count rows + 5 + dual_count rows + primal_count rows
        → slice_get (filter_map objno_in (rows_past (rows ++ row ∷ []))) 0
        ≡ slice_get (filter_map objno_in (rows_past rows)) 0
    objno_later lt = ap (λ rs. slice_get (filter_map objno_in rs) 0) past_part
        ∙ ap (λ xs. slice_get xs 0) (rest_none objno_in rows row
        (option_count rows + 5 + dual_count rows + primal_count rows) lt)

    objno_more : option_count rows + 5 + dual_count rows + primal_count rows ≤ length rows
        → slice_get (filter_map objno_in (rows_past (rows ++ row ∷ []))) 0
        ≡ or_else (slice_get (filter_map objno_in (rows_past rows)) 0) (objno_in row)
    objno_more le =
        ap (λ rs. slice_get (filter_map objno_in rs) 0) past_part ∙ ap (λ xs. slice_get xs 0) (rest_more objno_in rows row (option_count rows + 5 + dual_count rows + primal_count rows) le)
        ∙ first_listed (filter_map objno_in (rows_past rows)) (objno_in row)

-- ---- a row more

-- before any row, each number is 0
none_yet : (rows : List Row) (j : ℕ) → length rows ≡ 0 → row_number rows j ≡ 0
none_yet rows j z = rw (nil_from_length rows z) no_number

module _ (message : List (List ℕ)) (rows : List Row) (row : Row) where
  abbrev Meets : Awaited → Type 0
  Meets a = met message (only_rows (rows ++ row ∷ [])) ≡ after_row a (met message (only_rows rows)) row

  -- what the numbers become
  becomes : (n : Numbers) → numbers_of (rows ++ row ∷ []) ≡ n → met message (only_rows (rows ++ row ∷ [])) ≡ with_numbers message n
  becomes n e = met_rows message (rows ++ row ∷ []) ∙ ap (with_numbers message) e

  first_more : length rows ≡ 0 → Meets OptionCount
  unfolding after_row with_numbers numbers_of met only_rows sol_of
  first_more z =
      let count : (j : ℕ) → (j ≡ 0 → ⊥) → row_number (rows ++ row ∷ []) j ≡ row_number rows j = λ j ne. number-other rows row j (λ e. ne (omega (arith, e, z))) in
      let options : option_count (rows ++ row ∷ []) ≡ number_in row 0 = number-at rows row 0 z in
      let len : length (rows ++ row ∷ []) ≡ 1 = omega (arith, length_push rows row) in
      let other : (j : ℕ) → 0 < j → row_number (rows ++ row ∷ []) (option_count (rows ++ row ∷ []) + j) ≡ row_number rows (option_count rows + j) =
      λ j lt. count (option_count (rows ++ row ∷ []) + j) (λ e. omega (arith, e, lt)) ∙ none_yet rows (option_count (rows ++ row ∷ []) + j) z ∙ sym (none_yet rows (option_count rows + j) z) in
      becomes (record (numbers_of rows) { awaited = options_await (number_in row 0) })
      (same_numbers (numbers_of (rows ++ row ∷ [])) (record (numbers_of rows) { awaited = options_await (number_in row 0) })
      (ap₂ (λ k i. row_at k (dual_count (rows ++ row ∷ [])) (primal_count (rows ++ row ∷ [])) i) options len
      ∙ (after_counts (number_in row 0) (dual_count (rows ++ row ∷ [])) (primal_count (rows ++ row ∷ []))).0)
      (part_none option_in (rows ++ row ∷ []) 1 (option_count (rows ++ row ∷ [])) (omega arith) ∙ sym (part_none option_in rows 1 (option_count rows) (omega arith)))
      (other 1 (omega arith))
      (part_none value_in (rows ++ row ∷ []) (option_count (rows ++ row ∷ []) + 5) (dual_count (rows ++ row ∷ []))
      (omega arith) ∙ sym (part_none value_in rows (option_count rows + 5) (dual_count rows) (omega arith)))
      (other 3 (omega arith))
      (part_none value_in (rows ++ row ∷ []) (option_count (rows ++ row ∷ []) + 5 + dual_count (rows ++ row ∷ []))
      (primal_count (rows ++ row ∷ [])) (omega arith) ∙ sym
      (part_none value_in rows (option_count rows + 5 + dual_count rows) (primal_count rows) (omega arith)))
      (ap (λ rs. slice_get (filter_map objno_in rs) 0)
      (drop_all (option_count (rows ++ row ∷ []) + 5 + dual_count (rows ++ row ∷ []) + primal_count (rows ++ row ∷ []))
      (rows ++ row ∷ []) (omega arith) ∙ sym (drop_all (option_count rows + 5 + dual_count rows + primal_count rows)
      rows (omega arith))))
      (other 2 (omega arith))
      (other 4 (omega arith)))

  module _ (begun : 0 < length rows) where
    -- before the duals: number j is that of the row where the row is the one that gives it
    abbrev number_after : ℕ → ℕ → ℕ
    number_after i j = cond (j == i) (number_in row 0) (row_number rows (option_count rows + j))

    numbered : (i j : ℕ) → (length rows ≡ option_count rows + j → j ≡ i) → (j ≡ i → length rows ≡ option_count rows + j)
        → row_number (rows ++ row ∷ []) (option_count (rows ++ row ∷ []) + j) ≡ number_after i j
    numbered i j only there = elim (eqb_tells j i) [
      | inl same ↦ rw same.0 (count_at rows row begun j (there same.1))
      | inr other ↦ rw other.0 (count_other rows row begun j (λ e. other.1 (only e)))
    ]

    early : (i : ℕ) (a : Awaited) (options : List ℤ) → length rows < option_count rows + 5
        → ((j : ℕ) → 0 < j → length rows ≡ option_count rows + j → j ≡ i) → (0 < i → length rows ≡ option_count rows + i)
        → rows_left (rows ++ row ∷ []) ≡ a
        → filter_map option_in (option_rows (rows ++ row ∷ [])) ≡ options
        → met message (only_rows (rows ++ row ∷ []))
        ≡ with_numbers message (record (numbers_of rows) {
          awaited = a;
          options = options;
          n_con = number_after i 1;
          n_var = number_after i 3;
          dual_count = number_after i 2;
          primal_count = number_after i 4;
        })
    unfolding numbers_of
    early i a options lt only there e1 e2 =
        let n : (j : ℕ) → 0 < j → row_number (rows ++ row ∷ []) (option_count (rows ++ row ∷ []) + j)
        ≡ number_after i j = λ j some. numbered i j (only j some) (λ e. rw e (there (omega (arith, some, e)))) in
        becomes _
        (same_numbers (numbers_of (rows ++ row ∷ [])) _ e1 e2 (n 1 (omega arith)) (duals_none rows row begun lt)
        (n 3 (omega arith)) (primals_none rows row begun lt) (objno_none rows row begun lt) (n 2 (omega arith))
        (n 4 (omega arith)))

    -- the row that is awaited, by what the numbers become
    await_early : (k d p i : ℕ) → option_count rows ≡ k → length rows + 1 ≡ i → rows_left (rows ++ row ∷ []) ≡ row_at k (dual_count (rows ++ row ∷ [])) (primal_count (rows ++ row ∷ [])) i
    await_early k d p i e f = ap₂ (λ k i. row_at k (dual_count (rows ++ row ∷ [])) (primal_count (rows ++ row ∷ [])) i) (option_count_kept rows row begun ∙ e) (length_push rows row ∙ f)

    option_next : length rows ≤ option_count rows → Meets (Options ((option_count rows + 1) - length rows))
    unfolding after_row with_numbers numbers_of met only_rows sol_of
    option_next le =
        early 0 (options_await (((option_count rows + 1) - length rows) - 1))
        (filter_map option_in (option_rows rows) ++ listed (option_in row)) (omega arith)
        (λ j some e. absurd (omega (arith, some, e))) (λ some. absurd (omega arith))
        (await_early (option_count rows) 0 0 (length rows + 1) refl refl
        ∙ after_option_row (option_count rows) (dual_count (rows ++ row ∷ [])) (primal_count (rows ++ row ∷ []))
        (length rows) begun le)
        (options_more rows row begun le)

    constraints_next : length rows ≡ option_count rows + 1 → Meets Constraints
    unfolding after_row with_numbers numbers_of met only_rows sol_of
    constraints_next at =
        early 1 DualCount (filter_map option_in (option_rows rows)) (omega arith) (λ j some e. omega (arith, e)) (λ some. at)
        (await_early (option_count rows) 0 0 (option_count rows + 2) refl (omega arith) ∙ (after_counts (option_count rows) (dual_count (rows ++ row ∷ [])) (primal_count (rows ++ row ∷ []))).1)
        (options_same rows row begun (omega arith))

    duals_next : length rows ≡ option_count rows + 2 → Meets DualCount
    unfolding after_row with_numbers numbers_of met only_rows sol_of
    duals_next at =
        early 2 Variables (filter_map option_in (option_rows rows)) (omega arith) (λ j some e. omega (arith, e)) (λ some. at)
        (await_early (option_count rows) 0 0 (option_count rows + 3) refl (omega arith) ∙ (after_counts (option_count rows) (dual_count (rows ++ row ∷ [])) (primal_count (rows ++ row ∷ []))).2)
        (options_same rows row begun (omega arith))

    variables_next : length rows ≡ option_count rows + 3 → Meets Variables
    unfolding after_row with_numbers numbers_of met only_rows sol_of
    variables_next at =
        early 3 PrimalCount (filter_map option_in (option_rows rows)) (omega arith) (λ j some e. omega (arith, e)) (λ some. at)
        (await_early (option_count rows) 0 0 (option_count rows + 4) refl (omega arith) ∙ (after_counts (option_count rows) (dual_count (rows ++ row ∷ [])) (primal_count (rows ++ row ∷ []))).3)
        (options_same rows row begun (omega arith))

    primals_next : length rows ≡ option_count rows + 4 → Meets PrimalCount
    unfolding after_row with_numbers numbers_of met only_rows sol_of
    primals_next at =
        let duals : dual_count (rows ++ row ∷ []) ≡ dual_count rows = count_other rows row begun 2 (λ e. omega (arith, e)) in
        let primals : primal_count (rows ++ row ∷ []) ≡ number_in row 0 = count_at rows row begun 4 at in
        early 4 (values_await (dual_count rows) (number_in row 0)) (filter_map option_in (option_rows rows)) (omega arith) (λ j some e. omega (arith, e)) (λ some. at)
        (await_early (option_count rows) 0 0 (option_count rows + 5) refl (omega arith)
        ∙ (after_counts (option_count rows) (dual_count (rows ++ row ∷ [])) (primal_count (rows ++ row ∷ []))).4
        ∙ ap₂ values_await duals primals)
        (options_same rows row begun (omega arith))

    -- among the values
    late_next : (a : Awaited) (ds ps : List Dec) (objno : Option (ℤ × ℤ)) → (late : option_count rows + 5 ≤ length rows)
        → row_at (option_count rows) (dual_count rows) (primal_count rows) (length rows + 1) ≡ a
        → filter_map value_in (dual_rows (rows ++ row ∷ [])) ≡ ds
        → filter_map value_in (primal_rows (rows ++ row ∷ [])) ≡ ps
        → slice_get (filter_map objno_in (rows_past (rows ++ row ∷ []))) 0 ≡ objno
        → met message (only_rows (rows ++ row ∷ [])) ≡ with_numbers message (record (numbers_of rows) { awaited = a; duals = ds; primals = ps; objno = objno })
    unfolding numbers_of
    late_next a ds ps objno late e1 e2 e3 e4 =
        becomes _
        (same_numbers (numbers_of (rows ++ row ∷ [])) _ (await_part rows row begun late ∙ e1) (options_same rows row begun (omega arith))
        (count_other rows row begun 1 (λ e. omega (arith, e))) e2 (count_other rows row begun 3 (λ e. omega (arith, e))) e3 e4
        (dual_count_kept rows row begun late) (primal_count_kept rows row begun late))

    dual_next : option_count rows + 5 ≤ length rows → length rows < option_count rows + 5 + dual_count rows → Meets (Duals ((option_count rows + 5 + dual_count rows) - length rows))
    unfolding after_row with_numbers numbers_of met only_rows sol_of
    dual_next late lt =
        late_next (values_await (((option_count rows + 5 + dual_count rows) - length rows) - 1) (primal_count rows)) (filter_map value_in (dual_rows rows) ++ listed (value_in row)) _ _ late
        (after_dual_row (option_count rows) (dual_count rows) (primal_count rows) (length rows) late lt)
        (duals_more rows row begun late lt) (primals_later rows row begun late lt) (objno_later rows row begun late (omega arith))

    primal_next : option_count rows + 5 + dual_count rows ≤ length rows
        → length rows < option_count rows + 5 + dual_count rows + primal_count rows
        → Meets (Primals ((option_count rows + 5 + dual_count rows + primal_count rows) - length rows))
    unfolding after_row with_numbers numbers_of met only_rows sol_of
    primal_next le lt =
        let late : option_count rows + 5 ≤ length rows = omega arith in
        late_next (values_await 0 (((option_count rows + 5 + dual_count rows + primal_count rows) - length rows) - 1)) _ (filter_map value_in (primal_rows rows) ++ listed (value_in row)) _ late
        (after_primal_row (option_count rows) (dual_count rows) (primal_count rows) (length rows) le lt)
        (duals_same rows row begun late le) (primals_more rows row begun late le lt) (objno_later rows row begun late lt)

    past_next : rows_left rows ≡ Tail → begins row (codes "suffix") ≡ false → option_count rows + 5 + dual_count rows + primal_count rows ≤ length rows → Meets Tail
    unfolding after_row with_numbers numbers_of met only_rows sol_of
    past_next tail other le =
        let late : option_count rows + 5 ≤ length rows = omega arith in
        rw other
        (late_next (rows_left rows) _ _ (or_else (slice_get (filter_map objno_in (rows_past rows)) 0) (objno_in row)) late
        (after_past_row (option_count rows) (dual_count rows) (primal_count rows) (length rows) le ∙ sym tail)
        (duals_same rows row begun late (omega arith)) (primals_same rows row begun late le) (objno_more rows row begun late le))

  -- a row without a piece before it
  by_place : (a : Awaited) → rows_left rows ≡ a → (a ≡ Tail → begins row (codes "suffix") ≡ false) → Place (option_count rows) (dual_count rows) (primal_count rows) (length rows) a → Meets a
  by_place OptionCount e other (first z) = first_more z
  by_place (Options left) e other (option lt le) = option_next lt le
  by_place Constraints e other (constraints at) = constraints_next (omega arith) at
  by_place DualCount e other (duals at) = duals_next (omega arith) at
  by_place Variables e other (variables at) = variables_next (omega arith) at
  by_place PrimalCount e other (primals at) = primals_next (omega arith) at
  by_place (Duals left) e other (dual le lt) = dual_next (omega arith) le lt
  by_place (Primals left) e other (primal le lt) = primal_next (omega arith) le lt
  by_place Tail e other (past le) = past_next (omega arith) e (other refl) le
  by_place a e other h = elim h [ ]

  pub row_more : (rows_left rows ≡ Tail → begins row (codes "suffix") ≡ false)
      → met message (record { rows = rows ++ row ∷ []; pieces = [] })
      ≡ after_row (rows_left rows) (met message (record { rows = rows; pieces = [] })) row
  unfolding only_rows
  row_more other = by_place (rows_left rows) refl other (place (option_count rows) (dual_count rows) (primal_count rows) (length rows))
