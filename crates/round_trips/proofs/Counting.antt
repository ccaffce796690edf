-- How many entries a program has: at most as many as its linear program has coefficients, with some more.
use Rattle.std.proofs.Common.{◌≡◌, ◌∙◌, ℕ, zero, suc, ◌+◌, ◌<◌, ◌≤◌, ◌^◌, Bool, true, false, cond, if◌then◌else◌, List, [], ◌∷◌, ◌++◌, length, Option, Some, None, pos, refl, ap, arith}
use Rattle.std.specs.List.{sum_by}
use Rattle.std.proofs.lemmas.List.Sums.{sum_by-cons}
use Rattle.exact_numbers.specs.Rational.{ℚ, zero_ℚ, whole, ◌*ℚ◌}
use Rattle.exact_numbers.specs.Functions.{is_zero}
use Rattle.exact_numbers.proofs.RationalLaws.{*ℚ_zero}
use Rattle.exact_numbers.proofs.Tests.{is_zero-true}
use Rattle.linear_program.specs.Linear.{Form, Linear, Row, Variable, has_side, variable_count}
use Rattle.mps_model.specs.Mps.{Entry, Column}
use Rattle.mps_model.specs.Valid.{entry_count}
use Rattle.scaled_program.specs.Program.{ScaledRow, nonzero, exported_rows, scaled_row}
use Rattle.scaled_program.specs.ExportedProgram.{with_entry, entries_of, or_obj_zero, column_entries, columns_of}
use Rattle.round_trips.specs.Exportable.{IsExportable, form_count}

-- ---- sums over rows, and over columns

abbrev pub sums : {A : Type 0} → (A → ℕ) → List A → ℕ
sums f [] = 0
sums f (x ∷ xs) = f x + sums f xs

-- c j + .. + c (j + n - 1)
abbrev pub range_sum : (ℕ → ℕ) → ℕ → ℕ → ℕ
range_sum c j zero = 0
range_sum c j (suc n) = c j + range_sum c (suc j) n

pub sums-append : {A : Type 0} (f : A → ℕ) (xs ys : List A) → sums f (xs ++ ys) ≡ sums f xs + sums f ys
sums-append f [] ys = omega arith
sums-append f (x ∷ xs) ys = omega (arith, sums-append f xs ys)

sums-both : {A : Type 0} (f g : A → ℕ) (xs : List A) → sums (λ x. f x + g x) xs ≡ sums f xs + sums g xs
sums-both f g [] = refl
sums-both f g (x ∷ xs) = omega (arith, sums-both f g xs)

pub range_last : (c : ℕ → ℕ) (j n : ℕ) → range_sum c j (suc n) ≡ range_sum c j n + c (j + n)
range_last c j zero = let here : c (j + 0) ≡ c j = ap c (omega arith) in omega (arith, here)
range_last c j (suc n) =
    let step : c (suc j + n) ≡ c (j + suc n) = ap c (omega arith) in
    omega (arith, range_last c (suc j) n, step)

pub range_ones : (c : ℕ → ℕ) (j n : ℕ) → ((i : ℕ) → c i ≤ 1) → range_sum c j n ≤ n
range_ones c j zero h = omega arith
range_ones c j (suc n) h = omega (arith, h j, range_ones c (suc j) n h)

-- ---- the entries of columns

abbrev pub is_there : Option ℚ → ℕ
is_there None = 0
is_there (Some v) = 1

pub there_or_not : (o : Option ℚ) → is_there o ≤ 1
there_or_not None = omega arith
there_or_not (Some v) = omega arith

-- coefficient j is not 0
abbrev pub counted : (ℕ → ℚ) → ℕ → ℕ
counted c j = is_there (nonzero (c j))

with_one : (i : ℕ) (o : Option ℚ) (es : List (Entry ℚ)) → length (with_entry i o es) ≡ is_there o + length es
with_one i None es = omega arith
with_one i (Some v) es = omega arith

of_rows : (g : ScaledRow → Option ℚ) (i : ℕ) (rows : List ScaledRow) → length (entries_of g i rows) ≡ sums (λ r. is_there (g r)) rows
unfolding entries_of
of_rows g i [] = refl
of_rows g i (r ∷ rows) = with_one i (g r) (entries_of g (suc i) rows) ∙ ap (λ (n : ℕ). is_there (g r) + n) (of_rows g (suc i) rows)

or_one : (es : List (Entry ℚ)) → length (or_obj_zero es) ≤ 1 + length es
or_one [] = omega arith
or_one (e ∷ es) = omega arith

in_column : (objective : Form) (rows : List ScaledRow) (j : ℕ) → length (column_entries objective rows j) ≤ 1 + (counted objective.coefficient j + sums (λ r. counted r.coefficient j) rows)
in_column objective rows j =
    let own = entries_of (λ r. nonzero (r.coefficient j)) 1 rows in
    omega (arith, or_one (with_entry 0 (nonzero (objective.coefficient j)) own), with_one 0 (nonzero (objective.coefficient j)) own, of_rows (λ r. nonzero (r.coefficient j)) 1 rows)

-- a column for each variable, its entries in the objective and in the rows
abbrev pub most_entries : Form → List ScaledRow → ℕ → ℕ → ℕ
most_entries objective rows j n = n + (range_sum (counted objective.coefficient) j n + sums (λ r. range_sum (counted r.coefficient) j n) rows)

pub in_columns : (objective : Form) (rows : List ScaledRow) (j n : ℕ) (vs : List Variable) → length vs ≡ n → entry_count (columns_of objective rows j vs) ≤ most_entries objective rows j n
unfolding columns_of
in_columns objective rows j zero [] e = omega arith
in_columns objective rows j zero (v ∷ vs) e = absurd (omega (arith, e))
in_columns objective rows j (suc n) [] e = absurd (omega (arith, e))
in_columns objective rows j (suc n) (v ∷ vs) e =
    let first : Column ℚ = record { name = v.name; marked = v.whole; entries = column_entries objective rows j } in
    let more = columns_of objective rows (suc j) vs in
    omega (
      arith,
      in_column objective rows j,
      in_columns objective rows (suc j) n vs (omega (arith, e)),
      sum_by-cons (λ (c : Column ℚ). length c.entries) first more,
      sums-both (λ r. counted r.coefficient j) (λ r. range_sum (counted r.coefficient) (suc j) n) rows,
    )

-- ---- coefficients that are not 0

abbrev pub none_zero : ℚ → ℕ
none_zero x = if is_zero x then 0 else 1

no_zero : is_there (nonzero zero_ℚ) ≡ 0
unfolding whole
no_zero = refl

-- y is 0 where x is
less : (x y : ℚ) → (x ≡ zero_ℚ → y ≡ zero_ℚ) → is_there (nonzero y) ≤ none_zero x
less x y h = by (is_zero x) refl
  where
    by : (b : Bool) → is_zero x ≡ b → is_there (nonzero y) ≤ (if b then 0 else 1)
    by true e = let none : is_there (nonzero y) ≡ 0 = ap (λ (z : ℚ). is_there (nonzero z)) (h (is_zero-true x e)) ∙ no_zero in omega (arith, none)
    by false e = there_or_not (nonzero y)

-- the count of a form's coefficients, from the front
abbrev front_count : ℕ → Form → ℕ
front_count n f = range_sum (λ j. none_zero (f.coefficient j)) 0 n

counted_front : (n : ℕ) (f : Form) → front_count n f ≡ form_count n f
counted_front zero f = refl
counted_front (suc n) f =
    let last : none_zero (f.coefficient (0 + n)) ≡ none_zero (f.coefficient n) = ap (λ (j : ℕ). none_zero (f.coefficient j)) (omega arith) in
    omega (arith, range_last (λ j. none_zero (f.coefficient j)) 0 n, counted_front n f, last)

-- coefficients that are 0 where those of the form are
pub form_less : (c : ℕ → ℚ) (f : Form) (n : ℕ) → ((j : ℕ) → j < n → f.coefficient j ≡ zero_ℚ → c j ≡ zero_ℚ) → range_sum (counted c) 0 n ≤ form_count n f
form_less c f n h = omega (arith, counted_front n f, from 0 n (λ j lt. h j (omega (arith, lt))))
  where
    from : (j m : ℕ) → ((i : ℕ) → i < j + m → f.coefficient i ≡ zero_ℚ → c i ≡ zero_ℚ) → range_sum (counted c) j m ≤ range_sum (λ i. none_zero (f.coefficient i)) j m
    from j zero g = omega arith
    from j (suc m) g = omega (arith, less (f.coefficient j) (c j) (g j (omega arith)), from (suc j) m (λ i lt. g i (omega (arith, lt))))

-- of exported rows
exported_sums : (size : ScaledRow → ℕ) (own : Row → ℕ) → ((k : ℕ) (r : Row) → size (scaled_row k r) ≤ own r)
    → (factor : ℕ → ℕ) (i : ℕ) (rows : List Row) → sums size (exported_rows factor i rows) ≤ sums own rows
unfolding exported_rows
exported_sums size own less factor i [] = omega arith
exported_sums size own less factor i (r ∷ rows) = by (has_side r.side) (exported_sums size own less factor (suc i) rows)
  where
    rest : List ScaledRow
    rest = exported_rows factor (suc i) rows

    by : (there : Bool) → sums size rest ≤ sums own rows → sums size (cond there (scaled_row (factor i) r ∷ rest) rest) ≤ own r + sums own rows
    by true h = omega (arith, h, less (factor i) r)
    by false h = omega (arith, h)

pub exported_count : (factor : ℕ → ℕ) (n i : ℕ) (rows : List Row) → sums (λ r. range_sum (counted r.coefficient) 0 n) (exported_rows factor i rows) ≤ sums (λ r. form_count n r.body) rows
exported_count factor n i rows = exported_sums (λ r. range_sum (counted r.coefficient) 0 n) (λ r. form_count n r.body)
    (λ k r. form_less (scaled_row k r).coefficient r.body n (λ j lt none. ap (λ (x : ℚ). whole (pos k) *ℚ x) none
    ∙ *ℚ_zero (whole (pos k)))) factor i rows

sums_ones : {A : Type 0} (xs : List A) → sums (λ x. 1) xs ≡ length xs
sums_ones [] = refl
sums_ones (x ∷ xs) = omega (arith, sums_ones xs)

pub exported_rows_count : (factor : ℕ → ℕ) (i : ℕ) (rows : List Row) → length (exported_rows factor i rows) ≤ length rows
exported_rows_count factor i rows = omega (arith, exported_sums (λ r. 1) (λ r. 1) (λ k r. omega arith) factor i rows, sums_ones (exported_rows factor i rows), sums_ones rows)

-- ---- the coefficients of a linear program

summed : {A : Type 0} (f : A → ℕ) (xs : List A) → sum_by f xs ≡ sums f xs
summed f [] = refl
summed f (x ∷ xs) = sum_by-cons f x xs ∙ ap (λ (n : ℕ). f x + n) (summed f xs)

pub few_coefficients : (l : Linear) → IsExportable l → sums (λ r. form_count (variable_count l) r.body) l.rows + form_count (variable_count l) l.objective ≤ 2 ^ 23
few_coefficients l is = omega (arith, is.few_coefficients, summed (λ r. form_count (variable_count l) r.body) l.rows)
