-- The rows of a linear program that is let go, one by one.
use Rattle.std.proofs.Common.{◌≡◌, ℕ, ◌+◌, ◌<◌, ◌≤◌, ◌∙◌, ap, subst, List, [], ◌∷◌, ◌++◌, length, get_or, drop, Option}
use Rattle.std.proofs.lemmas.List.{get_or_default}
use Rattle.linear_program.specs.declared.form.Form.{Form}
use Rattle.linear_program.specs.declared.interval.Interval.{Interval}
use Rattle.linear_program.specs.Forms.{form_terms}
use Rattle.linear_program.specs.Programs.{LinearValue, linear_value}
use Rattle.linear_program.proofs.ListLemmas.{first_left}
use Rattle.row_scaling.specs.declared.row.FactoredRow.{FactoredRow}
use Rattle.row_scaling.specs.Factored.{AreScaledRows, IsScaledAt, term_count_of}
use Rattle.row_scaling.specs.InsideMoves.{HasRows, IsRow}
use Rattle.row_scaling.proofs.LinearLemmas.{AreFirstRows, all_rows, one_row_more}

module _ (p : LinearValue) (bodies : List Form) (sides : List Interval) (h : HasRows p bodies sides) (i : ℕ) (b : Form)
    (rest : List Form) (s : Interval) (left : drop i bodies ≡ b ∷ rest) (within : i < length bodies)
    (at : s ≡ get_or sides i s) where
  pub row_there : IsRow p i b s
  row_there =
      record {
        linear = h.linear;
        below = subst (λ xs. i < length xs) h.bodies_are within;
        body_is = first_left bodies i b rest left ∙ ap (λ xs. get_or xs i b) h.bodies_are;
        side_is = at ∙ ap (λ xs. get_or xs i s) h.sides_are;
      }

  pub row_moved : (rows new : List (Option FactoredRow)) (o : Option FactoredRow) → AreFirstRows p rows i
      → new ≡ rows ++ o ∷ [] → IsScaledAt (linear_value p) i o → term_count_of o ≤ length (form_terms b)
      → AreFirstRows p new (i + 1)
  row_moved rows new o first e is few =
      one_row_more p rows new i o first row_there.below e is
      (λ d. subst (λ f. term_count_of o ≤ length (form_terms f)) (first_at d) few)
    where
      first_at : (d : Form) → b ≡ get_or p.bodies i d
      first_at d = row_there.body_is ∙ get_or_default p.bodies i b d row_there.below

pub all_moved : (p : LinearValue) (bodies : List Form) (sides : List Interval) (rows : List (Option FactoredRow))
    (i : ℕ) → HasRows p bodies sides → AreFirstRows p rows i → i ≡ length bodies → AreScaledRows (linear_value p) rows
all_moved p bodies sides rows i h first end = all_rows p rows i h.linear first (end ∙ ap length h.bodies_are)
