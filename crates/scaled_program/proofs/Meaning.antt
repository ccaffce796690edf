-- The scaled program of a linear program has its points and its objective.
use Rattle.std.proofs.Common.{◌≡◌, ℕ, suc, ◌<◌, ◌≤◌, ◌∙◌, sym, ap, ap₂, subst, refl, arith, true, false, cond, List, [], ◌∷◌, ◌++◌, length, length-append, get_or, ⊎_elim, ◌↔◌, All}
use Rattle.std.proofs.lemmas.Bool.{eq-eqb, ne_eqb, cases_lt}
use Rattle.std.proofs.Math.Seq.{get_or-append_seam}
use Rattle.std.proofs.Math.ListN.{get_or-append}
use Rattle.std.proofs.lemmas.List.Elements.{All-push}
use Rattle.exact_numbers.specs.Rational.{ℚ, zero_ℚ, one_ℚ, ◌+ℚ◌, ◌*ℚ◌, neg_ℚ, IsWhole}
use Rattle.exact_numbers.proofs.RationalLaws.{+ℚ_assoc, +ℚ_zero, zero-+ℚ, +ℚ-neg, zero-*ℚ, one-*ℚ, neg-*ℚ, +ℚ_cancel, ≤ℚ_of_same, ≤ℚ_antisymm}
use Rattle.exact_numbers.proofs.Adding.{sum_below_same, sum_below_suc, sum_below_all_zero}
use Rattle.linear_program.specs.Linear.{IsInside, Form, Row, RowHolds, Linear, IsLinear, IsFeasible, form_value, linear_part, value_at, no_variable, variable_count, objective_value}
use Rattle.scaled_program.specs.Meaning.{HasOrderedSides, IsScaledFeasible, ScaledHolds, scaled_objective}
use Rattle.scaled_program.specs.Program.{ScaledRow, exported_rows, scaled_and_tied, scaled_by, scaled_row, then_at, tie, z_form, z_variable}
use Rattle.scaled_program.proofs.Scaling.{ScaledIsOrdered, row_same, exported_same, exported_ordered, scaled_row_ordered}

-- ---- an objective with finite decimals
pub same_points : (f : Linear) (factor : ℕ → ℕ) (xs : List ℚ) → IsLinear f → ((i : ℕ) → 0 < factor i) → IsScaledFeasible (scaled_by f factor) xs ↔ IsFeasible f xs
same_points f factor xs linear above =
    let same = exported_same factor (variable_count f) xs 0 f.rows above in (
      λ s. record { relaxed = record { rows = same.0 s.rows; bounds = s.bounds }; whole = s.whole },
      λ s. record { rows = same.1 s.relaxed.rows; bounds = s.relaxed.bounds; whole = s.whole },
    )

pub same_objective : (f : Linear) (factor : ℕ → ℕ) (xs : List ℚ) → scaled_objective (scaled_by f factor) xs ≡ objective_value f xs
same_objective f factor xs = refl

pub same_sense : (f : Linear) (factor : ℕ → ℕ) → (scaled_by f factor).maximise ≡ f.maximise
same_sense f factor = refl

pub ordered : (f : Linear) (factor : ℕ → ℕ) → IsLinear f → ((i : ℕ) → 0 < factor i) → HasOrderedSides (scaled_by f factor)
ordered f factor linear above = exported_ordered factor 0 f.rows above linear.ordered

-- ---- a tied objective
module _ (n : ℕ) (xs : List ℚ) (z : ℚ) (count : length xs ≡ n) where
  first_values : (j : ℕ) → j < n → value_at (xs ++ z ∷ []) j ≡ value_at xs j
  first_values j h = get_or-append xs (z ∷ []) zero_ℚ j (omega arith)

  last_value : value_at (xs ++ z ∷ []) n ≡ z
  last_value = ap (λ i. value_at (xs ++ z ∷ []) i) (sym count) ∙ get_or-append_seam xs z [] zero_ℚ

  pub linear_more : (c d : ℕ → ℚ) → ((j : ℕ) → j < n → c j ≡ d j) → linear_part c (suc n) (xs ++ z ∷ []) ≡ linear_part d n xs +ℚ c n *ℚ z
  unfolding linear_part
  linear_more c d e =
      sum_below_suc (λ j. c j *ℚ value_at (xs ++ z ∷ []) j) n
      ∙ ap₂ ◌+ℚ◌
      (sum_below_same (λ j. c j *ℚ value_at (xs ++ z ∷ []) j) (λ j. d j *ℚ value_at xs j) n (λ j h. ap₂ ◌*ℚ◌ (e j h) (first_values j h)))
      (ap (λ v. c n *ℚ v) last_value)

  -- a row without z
  row_more : (r : Row) → r.body.coefficient n ≡ zero_ℚ → form_value r.body (suc n) (xs ++ z ∷ []) ≡ form_value r.body n xs
  row_more r e =
      ap (λ v. r.body.constant +ℚ v)
      (linear_more r.body.coefficient r.body.coefficient (λ j h. refl)
      ∙ ap (λ v. linear_part r.body.coefficient n xs +ℚ v) (ap (λ v. v *ℚ z) e ∙ zero-*ℚ z)
      ∙ +ℚ_zero (linear_part r.body.coefficient n xs))

  at_last : (v : ℚ) (c : ℕ → ℚ) → then_at n v c n ≡ v
  at_last v c = ap (λ b. cond b v (c n)) (eq-eqb n n refl)

  before_last : (v : ℚ) (c : ℕ → ℚ) (j : ℕ) → j < n → then_at n v c j ≡ c j
  before_last v c j h = ap (λ b. cond b v (c j)) (ne_eqb j n (λ e. omega arith))

  -- the objective less z
  tie_value : (o : Form) → form_value (tie n o).body (suc n) (xs ++ z ∷ []) ≡ form_value o n xs +ℚ neg_ℚ z
  tie_value o =
      ap (λ v. o.constant +ℚ v)
      (linear_more (then_at n (neg_ℚ one_ℚ) o.coefficient) o.coefficient (before_last (neg_ℚ one_ℚ) o.coefficient)
      ∙ ap (λ v. linear_part o.coefficient n xs +ℚ v) (ap (λ v. v *ℚ z) (at_last (neg_ℚ one_ℚ) o.coefficient) ∙ neg-*ℚ one_ℚ z ∙ ap neg_ℚ (one-*ℚ z)))
      ∙ sym (+ℚ_assoc o.constant (linear_part o.coefficient n xs) (neg_ℚ z))

  tie_holds : (o : Form) → RowHolds (suc n) (xs ++ z ∷ []) (tie n o) ↔ (z ≡ form_value o n xs)
  tie_holds o = (
    λ s.
        let none = sym (tie_value o) ∙ ≤ℚ_antisymm (form_value (tie n o).body (suc n) (xs ++ z ∷ [])) zero_ℚ s.below s.above in
        +ℚ_cancel z (form_value o n xs) (neg_ℚ z) (+ℚ-neg z ∙ sym none),
    λ e.
        let none = tie_value o ∙ ap (λ v. v +ℚ neg_ℚ z) (sym e) ∙ +ℚ-neg z in
        record { above = ≤ℚ_of_same zero_ℚ (form_value (tie n o).body (suc n) (xs ++ z ∷ [])) (sym none); below = ≤ℚ_of_same (form_value (tie n o).body (suc n) (xs ++ z ∷ [])) zero_ℚ none },
  )

  z_value : form_value (z_form n) (suc n) (xs ++ z ∷ []) ≡ z
  unfolding linear_part
  z_value =
      zero-+ℚ (linear_part (z_form n).coefficient (suc n) (xs ++ z ∷ []))
      ∙ linear_more (then_at n one_ℚ (λ j. zero_ℚ)) (λ j. zero_ℚ) (before_last one_ℚ (λ j. zero_ℚ))
      ∙ ap₂ ◌+ℚ◌ (sum_below_all_zero (λ j. zero_ℚ *ℚ value_at xs j) n (λ j h. zero-*ℚ (value_at xs j))) (ap (λ v. v *ℚ z) (at_last one_ℚ (λ j. zero_ℚ)) ∙ one-*ℚ z)
      ∙ zero-+ℚ z

pub one_more : {A : Type 0} (xs : List A) (x : A) → length (xs ++ x ∷ []) ≡ suc (length xs)
one_more xs x = length-append xs (x ∷ []) ∙ omega arith

module _ (f : Linear) (factor : ℕ → ℕ) (g : ℕ) (xs : List ℚ) (z : ℚ) (linear : IsLinear f) (above : (i : ℕ) → 0 < factor i) (some : 0 < g) (count : length xs ≡ variable_count f) where
  abbrev scaled : List ScaledRow
  scaled = exported_rows factor 0 f.rows ++ scaled_row g (tie (variable_count f) f.objective) ∷ []

  abbrev longer : List ℚ
  longer = xs ++ z ∷ []

  variables_more : length (f.variables ++ z_variable ∷ []) ≡ suc (variable_count f)
  variables_more = one_more f.variables z_variable

  variable_first : (j : ℕ) → j < variable_count f → get_or (f.variables ++ z_variable ∷ []) j no_variable ≡ get_or f.variables j no_variable
  variable_first j h = get_or-append f.variables (z_variable ∷ []) no_variable j h

  variable_last : get_or (f.variables ++ z_variable ∷ []) (variable_count f) no_variable ≡ z_variable
  variable_last = get_or-append_seam f.variables z_variable [] no_variable

  to_file : IsScaledFeasible (scaled_and_tied f factor g) longer → IsFeasible f xs × (z ≡ objective_value f xs)
  to_file s =
      let n = variable_count f in
      let first = exported_rows factor 0 f.rows in
      let t = scaled_row g (tie n f.objective) in
      let rows : All (ScaledHolds (suc n) longer) scaled = subst (λ i. All (ScaledHolds i longer) scaled) variables_more s.rows in
      let file = (exported_same factor (suc n) longer 0 f.rows above).0
      (λ k d h. subst (λ r. ScaledHolds (suc n) longer r) (get_or-append first (t ∷ []) d k h) (rows k d (omega (arith, one_more first t)))) in
      let last = subst (λ r. ScaledHolds (suc n) longer r) (get_or-append_seam first t [] t) (rows (length first) t (omega (arith, one_more first t))) in (
        record {
          relaxed = record {
            rows = λ k d h. subst (λ v. IsInside (get_or f.rows k d).side v) (row_more n xs z count (get_or f.rows k d) (linear.within k d h n (omega arith))) (file k d h);
            bounds = λ j h. subst (λ b. IsInside b (value_at xs j)) (ap (λ v. v.bound) (variable_first j h))
                (subst (λ x. IsInside (get_or (f.variables ++ z_variable ∷ []) j no_variable).bound x) (first_values n xs z count j h) (s.bounds j (omega (arith, variables_more))));
          };
          whole = λ j h w. subst (λ x. IsWhole x) (first_values n xs z count j h) (s.whole j (omega (arith, variables_more)) (ap (λ v. v.whole) (variable_first j h) ∙ w));
        },
        (tie_holds n xs z count f.objective).0 ((row_same g (suc n) longer (tie n f.objective) some).0 last),
      )

  from_file : IsFeasible f xs → z ≡ objective_value f xs → IsScaledFeasible (scaled_and_tied f factor g) longer
  from_file s e =
      let n = variable_count f in
      let first = exported_rows factor 0 f.rows in
      let t = scaled_row g (tie n f.objective) in
      let file : All (RowHolds (suc n) longer) f.rows = λ k d h. subst (λ v. IsInside (get_or f.rows k d).side v)
      (sym (row_more n xs z count (get_or f.rows k d) (linear.within k d h n (omega arith)))) (s.relaxed.rows k d h)
      in
      let rows = All-push (ScaledHolds (suc n) longer) first t
      ((exported_same factor (suc n) longer 0 f.rows above).1 file)
      ((row_same g (suc n) longer (tie n f.objective) some).1 ((tie_holds n xs z count f.objective).1 e)) in
      record {
        rows = subst (λ i. All (ScaledHolds i longer) scaled) (sym variables_more) rows;
        bounds = λ j h.
            ⊎_elim
            (λ (l : j < n). subst (λ b. IsInside b (value_at longer j)) (sym (ap (λ v. v.bound) (variable_first j l)))
            (subst (λ x. IsInside (get_or f.variables j no_variable).bound x) (sym (first_values n xs z count j l))
            (s.relaxed.bounds j l)))
            (λ (l : n ≤ j).
            let same : n ≡ j = omega (arith, variables_more) in
            subst (λ i. IsInside (get_or (f.variables ++ z_variable ∷ []) i no_variable).bound (value_at longer i)) same
            (subst (λ v. IsInside v.bound (value_at longer n)) (sym variable_last) (record { above = tt; below = tt })))
            (cases_lt j n);
        whole = λ j h w.
            ⊎_elim
            (λ (l : j < n). subst (λ x. IsWhole x) (sym (first_values n xs z count j l)) (s.whole j l (sym (ap (λ v. v.whole) (variable_first j l)) ∙ w)))
            (λ (l : n ≤ j).
            let same : n ≡ j = omega (arith, variables_more) in
            let no : false ≡ true = sym (ap (λ v. v.whole) variable_last) ∙ ap (λ i. (get_or (f.variables ++ z_variable ∷ []) i no_variable).whole) same ∙ w in
            cc)
            (cases_lt j n);
      }

  pub tied_points : IsScaledFeasible (scaled_and_tied f factor g) longer ↔ (IsFeasible f xs × (z ≡ objective_value f xs))
  tied_points = (to_file, λ s. from_file s.0 s.1)

module _ (f : Linear) (factor : ℕ → ℕ) (g : ℕ) where
  pub tied_ordered : IsLinear f → ((i : ℕ) → 0 < factor i) → 0 < g → HasOrderedSides (scaled_and_tied f factor g)
  tied_ordered linear above some =
      let t = scaled_row g (tie (variable_count f) f.objective) in
      All-push ScaledIsOrdered (exported_rows factor 0 f.rows) t (exported_ordered factor 0 f.rows above linear.ordered)
      (scaled_row_ordered g (tie (variable_count f) f.objective) some (≤ℚ_of_same zero_ℚ zero_ℚ refl))

  pub tied_objective : (xs : List ℚ) (z : ℚ) → length xs ≡ variable_count f → scaled_objective (scaled_and_tied f factor g) (xs ++ z ∷ []) ≡ z
  tied_objective xs z count =
      let n = variable_count f in
      ap (λ i. form_value (z_form n) i (xs ++ z ∷ [])) (one_more f.variables z_variable) ∙ z_value n xs z count

  pub tied_sense : (scaled_and_tied f factor g).maximise ≡ f.maximise
  tied_sense = refl
