-- The text of a program is that of the program of its values.
use Rattle.std.proofs.Common.{◌≡◌, ℕ, zero, suc, ◌∙◌, ap, ap₂, refl, Bool, false, codes, List, [], ◌∷◌, ◌++◌, map, get_or}
use Rattle.text_base.specs.WordLines.{WordLine, indented, unless_empty, lines_text}
use Rattle.mps_model.specs.Mps.{MpsRow, Entry, Column, Bound, Mps, entry_with, column_with, bound_with, with_values, no_column}
use Rattle.mps_model.specs.Text.{section, bound_text, value_words, name_lines, sense_lines, row_line, entry_line}
use Rattle.mps_model.specs.Text.{entry_lines, column_lines, change_lines, markers_after, bound_line, mps_lines}
use Rattle.mps_model.specs.Text.{mps_text_by}

module _ {V W : Type 0} (text : W → List ℕ) (value : V → W) where
  abbrev text_of_value : V → List ℕ
  text_of_value x = text (value x)

  same_entries : (rows : List MpsRow) (word : List ℕ) (es : List (Entry V)) → entry_lines text rows word (map (entry_with value) es) ≡ entry_lines text_of_value rows word es
  same_entries rows word [] = refl
  same_entries rows word (e ∷ es) = ap (λ x. entry_line text_of_value rows word e ∷ x) (same_entries rows word es)

  same_columns : (rows : List MpsRow) (before : Bool) (i : ℕ) (cs : List (Column V)) → column_lines text rows before i (map (column_with value) cs) ≡ column_lines text_of_value rows before i cs
  unfolding column_lines
  same_columns rows before i [] = refl
  same_columns rows before i (c ∷ cs) =
      ap₂ (λ x y. change_lines before c.marked i ++ x ++ y) (same_entries rows c.name c.entries) (same_columns rows c.marked (markers_after before c.marked i) cs)

  column_name_kept : (cs : List (Column V)) (j : ℕ) → (get_or (map (column_with value) cs) j no_column).name ≡ (get_or cs j no_column).name
  column_name_kept [] j = refl
  column_name_kept (c ∷ cs) zero = refl
  column_name_kept (c ∷ cs) (suc j) = column_name_kept cs j

  same_bounds : (cs : List (Column V)) (bs : List (Bound V)) → map (bound_line text (map (column_with value) cs)) (map (bound_with value) bs) ≡ map (bound_line text_of_value cs) bs
  same_bounds cs [] = refl
  same_bounds cs (b ∷ bs) =
      ap₂ (λ x y. indented (bound_text b.kind ∷ codes "BND" ∷ x ∷ value_words b.kind (text (value b.value))) ∷ y) (column_name_kept cs b.column) (same_bounds cs bs)

  unless_map : {A B : Type 0} (f : A → B) (xs : List A) (lines : List WordLine) → unless_empty (map f xs) lines ≡ unless_empty xs lines
  unless_map f [] lines = refl
  unless_map f (x ∷ xs) lines = refl

  -- a program is written as the program of its values is
  same_lines : (m : Mps V) → mps_lines text (with_values value m) ≡ mps_lines text_of_value m
  unfolding mps_lines with_values
  same_lines m =
      let head = name_lines m.name ++ sense_lines m.maximise ++ section (codes "ROWS") ∷ map row_line m.rows in
      let ranges : unless_empty (map (entry_with value) m.ranges)
      (section (codes "RANGES") ∷ entry_lines text m.rows (codes "RNG") (map (entry_with value) m.ranges))
      ≡ unless_empty m.ranges (section (codes "RANGES") ∷ entry_lines text_of_value m.rows (codes "RNG") m.ranges) =
      unless_map (entry_with value) m.ranges _ ∙ ap (λ x. unless_empty m.ranges (section (codes "RANGES") ∷ x)) (same_entries m.rows (codes "RNG") m.ranges) in
      let bounds : unless_empty (map (bound_with value) m.bounds)
      (section (codes "BOUNDS") ∷ map (bound_line text (map (column_with value) m.columns))
      (map (bound_with value) m.bounds)) ≡ unless_empty m.bounds
      (section (codes "BOUNDS") ∷ map (bound_line text_of_value m.columns) m.bounds) =
      unless_map (bound_with value) m.bounds _ ∙ ap (λ x. unless_empty m.bounds (section (codes "BOUNDS") ∷ x)) (same_bounds m.columns m.bounds) in
      ap (λ x. x ++ section (codes "ENDATA") ∷ [])
      (ap₂ ◌++◌ (ap₂ ◌++◌ (ap₂ (λ x y. head ++ section (codes "COLUMNS") ∷ x ++ section (codes "RHS") ∷ y)
      (same_columns m.rows false 0 m.columns) (same_entries m.rows (codes "RHS") m.rhs)) ranges) bounds)

  pub text_by_values : (m : Mps V) → mps_text_by text (with_values value m) ≡ mps_text_by text_of_value m
  text_by_values m = ap lines_text (same_lines m)
