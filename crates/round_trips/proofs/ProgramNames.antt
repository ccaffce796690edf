-- The rows and columns of the program of a linear program have names, no two the same.
use Rattle.std.proofs.Common.{◌≡◌, ◌≢◌, ◌∙◌, ℕ, zero, suc, ◌+◌, ◌<◌, ◌≤◌, ◌^◌, Bool, true, false, cond, List, [], ◌∷◌, ◌++◌, get_or, length, refl, sym, ap, arith}
use Rattle.std.specs.Prelude.{All}
use Rattle.std.specs.List.{AllPairs}
use Rattle.std.proofs.lemmas.List.Elements.{All-nil, All-cons, All-weaker, All-push}
use Rattle.std.proofs.lemmas.List.Kept.{AllPairs-cons}
use Rattle.std.proofs.lemmas.List.Quantifiers.{all_pairs_push}
use Rattle.text_base.specs.Names.{IsName}
use Rattle.linear_program.specs.Linear.{Row, Variable, has_side, no_row, no_variable}
use Rattle.linear_program.specs.Names.{row_name, variable_name}
use Rattle.mps_model.specs.Valid.{marker_word}
use Rattle.scaled_program.specs.Program.{ScaledRow, exported_rows, scaled_row, zdef_name, z_variable}
use Rattle.scaled_program.specs.ExportedProgram.{obj_name}
use Rattle.scaled_program.proofs.Names.{constraint_is_name, variable_is_name, z_is_name, zdef_is_name}
use Rattle.scaled_program.proofs.Names.{constraints_apart, variables_apart, constraint_not_obj, constraint_not_zdef}
use Rattle.scaled_program.proofs.Names.{constraint_not_marker, obj_not_zdef, zdef_not_marker, variable_not_z}

-- an element of a list is the same whatever the default
pub other_default : {A : Type 0} (xs : List A) (i : ℕ) (d e : A) → i < length xs → get_or xs i d ≡ get_or xs i e
other_default [] i d e lt = absurd (omega arith)
other_default (x ∷ xs) zero d e lt = refl
other_default (x ∷ xs) (suc i) d e lt = other_default xs i d e (omega (arith, lt))

-- each row is named by its number, of which the first is i
abbrev pub AreRowsFrom : ℕ → List Row → Type 0
AreRowsFrom i rs = (k : ℕ) → k < length rs → (get_or rs k no_row).name ≡ row_name (i + k)

abbrev pub AreVariables : List Variable → Type 0
AreVariables vs = (j : ℕ) → j < length vs → (get_or vs j no_variable).name ≡ variable_name j

-- named by a number from i on
abbrev pub IsRowFrom : ℕ → ScaledRow → Type 0
IsRowFrom i r = (k : ℕ) × (i ≤ k) × (k < 2 ^ 32) × (r.name ≡ row_name k)

abbrev pub AreApart : List ScaledRow → Type 0
AreApart rs = AllPairs (λ r s. r.name ≢ s.name) rs

record RowsFrom (i : ℕ) (rs : List ScaledRow) : Type 0 where
  named : All (IsRowFrom i) rs
  apart : AreApart rs

later : (i : ℕ) (r : ScaledRow) → IsRowFrom (suc i) r → IsRowFrom i r
later i r h = (h.0, omega (arith, h.1), h.2, h.3)

rows_more : (i : ℕ) (r : ScaledRow) (rs : List ScaledRow) → i < 2 ^ 32 → r.name ≡ row_name i → RowsFrom (suc i) rs → RowsFrom i (r ∷ rs)
rows_more i r rs lt e h = record {
  named = All-cons (IsRowFrom i) r rs (i, omega arith, lt, e) (All-weaker (IsRowFrom (suc i)) (IsRowFrom i) (later i) rs h.named);
  apart = AllPairs-cons (λ (x y : ScaledRow). x.name ≢ y.name) r rs (All-weaker (IsRowFrom (suc i)) (λ s. r.name ≢ s.name) (λ s from same. other s from same) rs h.named) h.apart;
}
  where
    other : (s : ScaledRow) → IsRowFrom (suc i) s → r.name ≢ s.name
    other s from same = absurd (omega (arith, from.1, constraints_apart i from.0 lt from.2 (sym e ∙ same ∙ from.3)))

exported_from : (factor : ℕ → ℕ) (i : ℕ) (rs : List Row) → AreRowsFrom i rs → i + length rs ≤ 2 ^ 32 → RowsFrom i (exported_rows factor i rs)
unfolding exported_rows
exported_from factor i [] own le = record { named = All-nil (IsRowFrom i); apart = λ a b d lt within. absurd (omega arith) }
exported_from factor i (r ∷ rs) own le =
    by (has_side r.side) (exported_from factor (suc i) rs (λ k lt. own (suc k) (omega (arith, lt)) ∙ ap row_name (omega arith)) (omega (arith, le)))
  where
    rest : List ScaledRow
    rest = exported_rows factor (suc i) rs

    here : r.name ≡ row_name i
    here = own 0 (omega arith) ∙ ap row_name (omega arith)

    by : (there : Bool) → RowsFrom (suc i) rest → RowsFrom i (cond there (scaled_row (factor i) r ∷ rest) rest)
    by true h = rows_more i (scaled_row (factor i) r) rest (omega (arith, le)) here h
    by false h = record { named = All-weaker (IsRowFrom (suc i)) (IsRowFrom i) (later i) rest h.named; apart = h.apart }

-- rows with names for a program
pub record AreNamedRows (rs : List ScaledRow) : Type 0 where
  pub named : All (λ r. IsName r.name) rs
  pub apart : AreApart rs
  pub not_obj : All (λ r. r.name ≢ obj_name) rs
  pub no_marker : All (λ r. r.name ≢ marker_word) rs

pub record AreNamedVariables (vs : List Variable) : Type 0 where
  pub named : All (λ v. IsName v.name) vs
  pub apart : AllPairs (λ v w. v.name ≢ w.name) vs

named_rows : (rs : List ScaledRow) → RowsFrom 0 rs → AreNamedRows rs
named_rows rs h = record {
  named = All-weaker (IsRowFrom 0) (λ r. IsName r.name) (λ r k. rw k.3 (constraint_is_name k.0 k.2)) rs h.named;
  apart = h.apart;
  not_obj = All-weaker (IsRowFrom 0) (λ r. r.name ≢ obj_name) (λ r k e. constraint_not_obj k.0 (sym k.3 ∙ e)) rs h.named;
  no_marker = All-weaker (IsRowFrom 0) (λ r. r.name ≢ marker_word) (λ r k e. constraint_not_marker k.0 (sym k.3 ∙ e)) rs h.named;
}

pub exported_named : (factor : ℕ → ℕ) (rs : List Row) → AreRowsFrom 0 rs → length rs ≤ 2 ^ 32 → AreNamedRows (exported_rows factor 0 rs)
exported_named factor rs own le = named_rows (exported_rows factor 0 rs) (exported_from factor 0 rs own (omega (arith, le)))

-- zdef as the last row
pub tied_named : (factor : ℕ → ℕ) (own : List Row) (r : ScaledRow) → AreRowsFrom 0 own → length own ≤ 2 ^ 32 → r.name ≡ zdef_name → AreNamedRows (exported_rows factor 0 own ++ r ∷ [])
tied_named factor own r numbered le e =
    let rs = exported_rows factor 0 own in
    let from = exported_from factor 0 own numbered (omega (arith, le)) in
    let h = named_rows rs from in
    let others : All (λ s. s.name ≢ r.name) rs = All-weaker (IsRowFrom 0) (λ s. s.name ≢ r.name) (λ s k same. constraint_not_zdef k.0 (sym k.3 ∙ same ∙ e)) rs from.named in
    record {
      named = All-push (λ (s : ScaledRow). IsName s.name) rs r h.named (rw e zdef_is_name);
      apart = all_pairs_push (λ (s t : ScaledRow). s.name ≢ t.name) rs r h.apart others;
      not_obj = All-push (λ (s : ScaledRow). s.name ≢ obj_name) rs r h.not_obj (λ same. obj_not_zdef (sym same ∙ e));
      no_marker = All-push (λ (s : ScaledRow). s.name ≢ marker_word) rs r h.no_marker (λ same. zdef_not_marker (sym e ∙ same));
    }

module _ (vs : List Variable) (own : AreVariables vs) (le : length vs ≤ 2 ^ 32) where
  name_at : (j : ℕ) (d : Variable) → j < length vs → (get_or vs j d).name ≡ variable_name j
  name_at j d lt = ap (λ (v : Variable). v.name) (other_default vs j d no_variable lt) ∙ own j lt

  variables_apart_all : AllPairs (λ v w. v.name ≢ w.name) vs
  variables_apart_all a b d lt within same =
      omega (arith, lt, variables_apart a b (omega (arith, lt, within, le)) (omega (arith, within, le)) (sym (name_at a d (omega (arith, lt, within))) ∙ same ∙ name_at b d within))

  pub variables_named : AreNamedVariables vs
  variables_named = record {
    named = λ j d lt. rw (name_at j d lt) (variable_is_name j (omega (arith, lt, le)));
    apart = variables_apart_all;
  }

  -- z as the last variable
  pub tied_variables_named : AreNamedVariables (vs ++ z_variable ∷ [])
  tied_variables_named = record {
    named = All-push (λ (v : Variable). IsName v.name) vs z_variable variables_named.named z_is_name;
    apart = all_pairs_push (λ (v w : Variable). v.name ≢ w.name) vs z_variable variables_apart_all (λ j d lt same. variable_not_z j (sym (name_at j d lt) ∙ same));
  }
