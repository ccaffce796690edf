-- Names mean nothing.
use Rattle.std.proofs.Common.{◌≡◌, ◌∙◌, ℕ, zero, suc, ◌<◌, Bool, ◌||◌, List, [], ◌∷◌, length, map, get_or, refl, sym, ap, subst}
use Rattle.std.specs.Prelude.{IsTrue}
use Rattle.std.proofs.lemmas.List.{length-map}
use Rattle.exact_numbers.specs.Rational.{ℚ, ◌-ℚ◌}
use Rattle.exact_numbers.specs.Sums.{sum_below}
use Rattle.exact_numbers.proofs.Adding.{sum_below_same}
use Rattle.linear_program.specs.Linear.{IsInside, Interval, value_at}
use Rattle.exact_numbers.specs.declared.dec.Dec.{Dec}
use Rattle.exact_numbers.specs.Values.{dec_value}
use Rattle.mps_model.specs.declared.kinds.RowKind.{RowKind}
use Rattle.mps_model.specs.declared.kinds.RowKind.TheVariants.{N, L, G, E}
use Rattle.mps_model.specs.Mps.{MpsRow, Entry, Column, Mps, with_values, column_with, no_mps_row, no_column, column_at}
use Rattle.mps_model.specs.Mps.{part_of_row, row_value, row_interval, row_sides, rhs_at, at_row, column_interval}
use Rattle.mps_model.specs.Mps.{has_whole_record, is_whole_column, IsMpsFeasible, objective_row, mps_objective}
use Rattle.name_files.specs.Renamed.{named_row, named_column, with_names, HaveOneMeaning}

abbrev pub Naming : Type 0
Naming = List ℕ → List ℕ

-- what a change of each element keeps is kept at each place
pub kept_at : {X Y : Type 0} (h : X → X) (k : X → Y) (d : X) → ((x : X) → k (h x) ≡ k x) → (xs : List X) (i : ℕ) → k (get_or (map h xs) i d) ≡ k (get_or xs i d)
kept_at h k d e [] i = refl
kept_at h k d e (x ∷ xs) zero = e x
kept_at h k d e (x ∷ xs) (suc i) = kept_at h k d e xs i

pub same_objective_row : (name : Naming) (rows : List MpsRow) → objective_row (map (named_row name) rows) ≡ objective_row rows
unfolding objective_row
same_objective_row name [] = refl
same_objective_row name (r ∷ rows) = ap (λ (j : ℕ). elim r.kind [ N ↦ 0 | L ↦ suc j | G ↦ suc j | E ↦ suc j ]) (same_objective_row name rows)

-- values of a renamed program are those of the program, renamed
columns_valued : (name : Naming) (columns : List (Column Dec)) → map (column_with dec_value) (map (named_column name) columns) ≡ map (named_column name) (map (column_with dec_value) columns)
columns_valued name [] = refl
columns_valued name (c ∷ columns) = ap (λ (cs : List (Column ℚ)). named_column name (column_with dec_value c) ∷ cs) (columns_valued name columns)

pub valued : (row column : Naming) (m : Mps Dec) → with_values dec_value (with_names row column m) ≡ with_names row column (with_values dec_value m)
unfolding with_values with_names
valued row column m = ap (λ (cs : List (Column ℚ)). record (with_names row column (with_values dec_value m)) { columns = cs }) (columns_valued column m.columns)

-- all that the meaning of a program looks at
record LookAlike (m n : Mps ℚ) : Type 0 where
  rows : length m.rows ≡ length n.rows
  columns : length m.columns ≡ length n.columns
  interval : (i : ℕ) → row_interval m i ≡ row_interval n i
  value : (xs : List ℚ) (i : ℕ) → row_value m xs i ≡ row_value n xs i
  bounds : (j : ℕ) → column_interval m j ≡ column_interval n j
  whole : (j : ℕ) → is_whole_column m j ≡ is_whole_column n j

turned : (m n : Mps ℚ) → LookAlike m n → LookAlike n m
turned m n s =
    record {
      rows = sym s.rows;
      columns = sym s.columns;
      interval = λ i. sym (s.interval i);
      value = λ xs i. sym (s.value xs i);
      bounds = λ j. sym (s.bounds j);
      whole = λ j. sym (s.whole j);
    }

feasible : (m n : Mps ℚ) (xs : List ℚ) → LookAlike m n → IsMpsFeasible m xs → IsMpsFeasible n xs
feasible m n xs s f =
    record {
      rows = λ i lt. subst (λ (v : ℚ). IsInside (row_interval n i) v) (s.value xs i)
          (subst (λ (t : Interval). IsInside t (row_value m xs i)) (s.interval i)
          (f.rows i (subst (λ (k : ℕ). i < k) (sym s.rows) lt)));
      bounds = λ j lt. subst (λ (t : Interval). IsInside t (value_at xs j)) (s.bounds j) (f.bounds j (subst (λ (k : ℕ). j < k) (sym s.columns) lt));
      whole = λ j lt is. f.whole j (subst (λ (k : ℕ). j < k) (sym s.columns) lt) (subst (λ (b : Bool). IsTrue b) (sym (s.whole j)) is);
    }

entries_kept : (column : Naming) (columns : List (Column ℚ)) (j : ℕ) → (get_or (map (named_column column) columns) j no_column).entries ≡ (get_or columns j no_column).entries
entries_kept column columns j = kept_at (named_column column) (λ (c : Column ℚ). c.entries) no_column (λ c. refl) columns j

value_kept : (row column : Naming) (m : Mps ℚ) (xs : List ℚ) (i : ℕ) → row_value (with_names row column m) xs i ≡ row_value m xs i
unfolding with_names row_value
value_kept row column m xs i =
    ap (sum_below (λ j. part_of_row i (get_or (map (named_column column) m.columns) j no_column).entries (value_at xs j))) (length-map m.columns (named_column column))
    ∙ sum_below_same (λ j. part_of_row i (get_or (map (named_column column) m.columns) j no_column).entries
    (value_at xs j)) (λ j. part_of_row i (column_at m j).entries (value_at xs j)) (length m.columns)
    (λ j lt. ap (λ (es : List (Entry ℚ)). part_of_row i es (value_at xs j)) (entries_kept column m.columns j))

look_alike : (row column : Naming) (m : Mps ℚ) → LookAlike (with_names row column m) m
unfolding with_names
look_alike row column m =
    record {
      rows = length-map m.rows (named_row row);
      columns = length-map m.columns (named_column column);
      interval = λ i. ap (λ (k : RowKind). row_sides k (rhs_at m i) (at_row i m.ranges)) (kept_at (named_row row) (λ (r : MpsRow). r.kind) no_mps_row (λ r. refl) m.rows i);
      value = value_kept row column m;
      bounds = λ j. refl;
      whole = λ j. ap (λ (b : Bool). b || has_whole_record j m.bounds) (kept_at (named_column column) (λ (c : Column ℚ). c.marked) no_column (λ c. refl) m.columns j);
    }

objective_kept : (row column : Naming) (m : Mps ℚ) (xs : List ℚ) → mps_objective (with_names row column m) xs ≡ mps_objective m xs
unfolding with_names
objective_kept row column m xs = rw (same_objective_row row m.rows) (ap (λ (v : ℚ). v -ℚ rhs_at m (objective_row m.rows)) (value_kept row column m xs (objective_row m.rows)))

one_meaning : (row column : Naming) (m : Mps ℚ) → HaveOneMeaning (with_names row column m) m
unfolding with_names
one_meaning row column m =
    record {
      points = λ xs. (feasible (with_names row column m) m xs (look_alike row column m), feasible m (with_names row column m) xs (turned (with_names row column m) m (look_alike row column m)));
      objective = objective_kept row column m;
      sense = refl;
    }

pub same_meaning : (row column : Naming) (m : Mps Dec) → HaveOneMeaning (with_values dec_value (with_names row column m)) (with_values dec_value m)
same_meaning row column m = subst (λ (n : Mps ℚ). HaveOneMeaning n (with_values dec_value m)) (sym (valued row column m)) (one_meaning row column (with_values dec_value m))
