-- What the records of a program say of each row and column.
use Rattle.std.proofs.Common.{◌≡◌, if◌then◌else◌, ℕ, zero, suc, ◌+◌, ◌<◌, ◌∙◌, sym, ap, ap₂, refl, arith, Bool, true, false, cond, nat_eq, List, [], ◌∷◌, length, get_or, Option, Some, None}
use Rattle.std.proofs.lemmas.Bool.{eq-eqb, ne_eqb}
use Rattle.exact_numbers.specs.Rational.{ℚ, zero_ℚ, ◌+ℚ◌, ◌*ℚ◌, is_zero}
use Rattle.exact_numbers.specs.Sums.{sum_over}
use Rattle.exact_numbers.proofs.RationalLaws.{+ℚ_zero, zero-+ℚ, zero-*ℚ, is_zero-true}
use Rattle.linear_program.specs.Linear.{Form, Variable}
use Rattle.mps_model.specs.Mps.{Entry, at_row, part_of_row, or_zero, no_column}
use Rattle.scaled_program.specs.Program.{ScaledRow, nonzero}
use Rattle.scaled_program.specs.ExportedProgram.{with_entry, entries_of, or_obj_zero, column_entries, columns_of}

-- ---- zeros left out
pub nonzero_back : (x : ℚ) → or_zero (nonzero x) ≡ x
nonzero_back x = by (is_zero x) refl
  where
    by : (b : Bool) → is_zero x ≡ b → or_zero (if b then None else Some x) ≡ x
    by true e = sym (is_zero-true x e)
    by false e = refl

-- ---- records with one entry more
module _ (p i : ℕ) where
  pub at_row_same : (o : Option ℚ) (es : List (Entry ℚ)) → i ≡ p → at_row p es ≡ None → at_row p (with_entry i o es) ≡ o
  unfolding at_row
  at_row_same None es e none = none
  at_row_same (Some v) es e none = ap (λ b. cond b (Some v) (at_row p es)) (eq-eqb i p e)

  pub at_row_other : (o : Option ℚ) (es : List (Entry ℚ)) → (i ≡ p → ⊥) → at_row p (with_entry i o es) ≡ at_row p es
  unfolding at_row
  at_row_other None es e = refl
  at_row_other (Some v) es e = ap (λ b. cond b (Some v) (at_row p es)) (ne_eqb i p e)

  pub part_same : (o : Option ℚ) (es : List (Entry ℚ)) (x : ℚ) → i ≡ p → part_of_row p es x ≡ zero_ℚ → part_of_row p (with_entry i o es) x ≡ or_zero o *ℚ x
  unfolding part_of_row sum_over
  part_same None es x e none = none ∙ sym (zero-*ℚ x)
  part_same (Some v) es x e none = ap₂ (λ b t. cond b (v *ℚ x) zero_ℚ +ℚ t) (eq-eqb i p e) none ∙ +ℚ_zero (v *ℚ x)

  pub part_other : (o : Option ℚ) (es : List (Entry ℚ)) (x : ℚ) → (i ≡ p → ⊥) → part_of_row p (with_entry i o es) x ≡ part_of_row p es x
  unfolding part_of_row sum_over
  part_other None es x e = refl
  part_other (Some v) es x e = ap (λ b. cond b (v *ℚ x) zero_ℚ +ℚ part_of_row p es x) (ne_eqb i p e) ∙ zero-+ℚ (part_of_row p es x)

-- ---- records for each row
module _ (g : ScaledRow → Option ℚ) where
  pub at_row_before : (rows : List ScaledRow) (p i : ℕ) → p < i → at_row p (entries_of g i rows) ≡ None
  unfolding entries_of at_row
  at_row_before [] p i h = refl
  at_row_before (r ∷ rs) p i h = at_row_other p i (g r) (entries_of g (suc i) rs) (λ e. omega arith) ∙ at_row_before rs p (suc i) (omega arith)

  pub at_row_there : (rows : List ScaledRow) (p i k : ℕ) (d : ScaledRow) → p ≡ i + k → k < length rows → at_row p (entries_of g i rows) ≡ g (get_or rows k d)
  unfolding entries_of
  at_row_there [] p i k d e h = absurd (omega arith)
  at_row_there (r ∷ rs) p i zero d e h = at_row_same p i (g r) (entries_of g (suc i) rs) (omega arith) (at_row_before rs p (suc i) (omega arith))
  at_row_there (r ∷ rs) p i (suc k) d e h = at_row_other p i (g r) (entries_of g (suc i) rs) (λ e2. omega arith) ∙ at_row_there rs p (suc i) k d (omega arith) (omega arith)

  pub part_before : (rows : List ScaledRow) (p i : ℕ) (x : ℚ) → p < i → part_of_row p (entries_of g i rows) x ≡ zero_ℚ
  unfolding entries_of part_of_row sum_over
  part_before [] p i x h = refl
  part_before (r ∷ rs) p i x h = part_other p i (g r) (entries_of g (suc i) rs) x (λ e. omega arith) ∙ part_before rs p (suc i) x (omega arith)

  pub part_there : (rows : List ScaledRow) (p i k : ℕ) (d : ScaledRow) (x : ℚ) → p ≡ i + k → k < length rows → part_of_row p (entries_of g i rows) x ≡ or_zero (g (get_or rows k d)) *ℚ x
  unfolding entries_of
  part_there [] p i k d x e h = absurd (omega arith)
  part_there (r ∷ rs) p i zero d x e h = part_same p i (g r) (entries_of g (suc i) rs) x (omega arith) (part_before rs p (suc i) x (omega arith))
  part_there (r ∷ rs) p i (suc k) d x e h = part_other p i (g r) (entries_of g (suc i) rs) x (λ e2. omega arith) ∙ part_there rs p (suc i) k d x (omega arith) (omega arith)

-- ---- a column's entries
part_nil : (p : ℕ) (x : ℚ) → part_of_row p [] x ≡ zero_ℚ
unfolding part_of_row sum_over
part_nil p x = refl

part_zero : (p : ℕ) (x : ℚ) → part_of_row p (record { row = 0; value = zero_ℚ } ∷ []) x ≡ zero_ℚ
unfolding part_of_row sum_over
part_zero p x = ap (λ v. cond (nat_eq 0 p) v zero_ℚ +ℚ zero_ℚ) (zero-*ℚ x) ∙ both (nat_eq 0 p)
  where
    both : (b : Bool) → cond b zero_ℚ zero_ℚ +ℚ zero_ℚ ≡ zero_ℚ
    both true = +ℚ_zero zero_ℚ
    both false = +ℚ_zero zero_ℚ

pub part_or_obj : (p : ℕ) (es : List (Entry ℚ)) (x : ℚ) → part_of_row p (or_obj_zero es) x ≡ part_of_row p es x
part_or_obj p [] x = part_zero p x ∙ sym (part_nil p x)
part_or_obj p (e ∷ es) x = refl

module _ (objective : Form) (rows : List ScaledRow) (j : ℕ) (x : ℚ) where
  pub column_objective : part_of_row 0 (column_entries objective rows j) x ≡ objective.coefficient j *ℚ x
  column_objective =
      let es = entries_of (λ r. nonzero (r.coefficient j)) 1 rows in
      part_or_obj 0 (with_entry 0 (nonzero (objective.coefficient j)) es) x
      ∙ part_same 0 0 (nonzero (objective.coefficient j)) es x refl (part_before (λ r. nonzero (r.coefficient j)) rows 0 1 x (omega arith))
      ∙ ap (λ v. v *ℚ x) (nonzero_back (objective.coefficient j))

  pub column_row : (k : ℕ) (d : ScaledRow) → k < length rows → part_of_row (suc k) (column_entries objective rows j) x ≡ (get_or rows k d).coefficient j *ℚ x
  column_row k d h =
      let es = entries_of (λ r. nonzero (r.coefficient j)) 1 rows in
      part_or_obj (suc k) (with_entry 0 (nonzero (objective.coefficient j)) es) x
      ∙ part_other (suc k) 0 (nonzero (objective.coefficient j)) es x (λ e. omega arith)
      ∙ part_there (λ r. nonzero (r.coefficient j)) rows (suc k) 1 k d x (omega arith) h
      ∙ ap (λ v. v *ℚ x) (nonzero_back ((get_or rows k d).coefficient j))

-- ---- columns by number
module _ (objective : Form) (rows : List ScaledRow) where
  pub columns_length : (j : ℕ) (vs : List Variable) → length (columns_of objective rows j vs) ≡ length vs
  unfolding columns_of
  columns_length j [] = refl
  columns_length j (v ∷ vs) = ap suc (columns_length (suc j) vs)

  pub column_there : (j k : ℕ) (vs : List Variable) (d : Variable) → k < length vs →
      get_or (columns_of objective rows j vs) k no_column ≡ record { name = (get_or vs k d).name; marked = (get_or vs k d).whole; entries = column_entries objective rows (j + k) }
  unfolding columns_of
  column_there j k [] d h = absurd (omega arith)
  column_there j zero (v ∷ vs) d h = ap (λ i. record { name = v.name; marked = v.whole; entries = column_entries objective rows i }) (omega arith)
  column_there j (suc k) (v ∷ vs) d h =
      column_there (suc j) k vs d (omega arith)
      ∙ ap (λ i. record { name = (get_or vs k d).name; marked = (get_or vs k d).whole; entries = column_entries objective rows i }) (omega arith)
