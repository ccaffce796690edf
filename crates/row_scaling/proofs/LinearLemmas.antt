use Rattle.std.proofs.Common.{⊎_elim, length-append, ◌≡◌, ℕ, zero, suc, ◌+◌, ◌<◌, ◌≤◌, ◌∙◌, sym, ap, ap₂, refl, subst}
use Rattle.std.proofs.Common.{arith, true, false, IsTrue, List, [], ◌∷◌, ◌++◌, length, get_or, drop, Option, Some, None}
use Rattle.std.proofs.Common.{◌^◌, All, pos, Result, Ok, Err, IfErr, cond, nat_eq, append-nil, Bool, inl, inr, ◌≢◌, ◌⊎◌}
use Rattle.std.proofs.Common.{IfSome}
use Rattle.std.proofs.lemmas.List.{get_or_default, get_or_past}
use Rattle.std.proofs.Math.Seq.{get_or-append_seam}
use Rattle.std.proofs.Math.ListN.{get_or-append}
use Rattle.std.proofs.lemmas.Bool.{cases_lt, false_from_ne_true}
use Rattle.std.proofs.lemmas.List.Sums.{sum_by-cons, sum_by-append}
use Rattle.linear_program.specs.Intervals.{is_sided}
use Rattle.text_base.specs.Stopped.{IfFault}
use Rattle.text_base.specs.declared.stop.Stop.{Stop}
use Rattle.text_base.specs.declared.stop.Stop.TheVariants.{Fault, Memory}
use Rattle.linear_program.specs.Linear.{Row, Linear, variable_count, no_row, row_at, Form as LinearForm, row_at as row_of_program, has_side}
use Rattle.scaled_program.specs.Fits.{IsScaledProgramOf, ExportFits, RowFits, IsDecimal, ObjectiveFits, ScaledFits, factor_of_objective, IsObjectiveTooWide, factor_of_row}
use Rattle.scaled_program.specs.Program.{ScaledProgram, scaled_by, scaled_and_tied, scaled_row, tie, then_at, zdef_name, exported_rows, tie as tie_row, z_form, z_variable, is_exported}
use Rattle.linear_program.specs.declared.interval.Interval.{Interval}
use Rattle.linear_program.specs.declared.kind.Kind.{Kind}
use Rattle.linear_program.specs.Coefs.{AreBelow, Term, AreAscending}
use Rattle.linear_program.specs.declared.form.Form.{Form}
use Rattle.linear_program.specs.Forms.{form_terms, form_line, kept_constant}
use Rattle.linear_program.specs.Programs.{LinearValue, IsLinear, IsFormOver, linear_value, rows_from, variables_from, form_of as linear_form}
use Rattle.row_scaling.specs.declared.row.FactoredRow.{FactoredRow}
use Rattle.row_scaling.specs.declared.scale_fault.ScaleFault.{ScaleFault}
use Rattle.row_scaling.specs.declared.scale_fault.ScaleFault.TheVariants.{RowTooWide}
use Rattle.row_scaling.specs.Factored.{AreScaledRows, IsFactored, IsScaledAt, body_term_count, factor_for, row_for}
use Rattle.row_scaling.specs.Factored.{term_count_of, AreTiedFit, IsObjectiveTimes, IsTooWide, numbers_of}
use Rattle.row_scaling.specs.Factored.{IsTiedOrPlain, IsTiedTo}
use Rattle.row_scaling.specs.Scaled.{row_term_count, ScaledValue, IsRowOver, IsScaled, IsTie}
use Rattle.row_scaling.specs.Scaling.{HasScaleFault, HasLeastFactors, HasNoScaleFault, IsScaledOf}
use Rattle.row_scaling.proofs.SharedLemmas.{zero_decimal, zero_fits, one_not_zero}
use Rattle.std.proofs.lemmas.List.Elements.{All-nil, All-cons, All-head, All-tail}
use Rattle.exact_numbers.specs.Fits.{fits}
use Rattle.exact_numbers.specs.Rational.{ℚ, zero_ℚ, one_ℚ, whole, neg_ℚ, ◌*ℚ◌, ◌-ℚ◌}
use Rattle.exact_numbers.proofs.RationalLaws.{one-*ℚ, *ℚ_one, *ℚ-neg}
use Rattle.scaled_program.specs.Factor.{least_factor, objective_numbers, coefficients_below}
use Rattle.exact_numbers.specs.declared.frac.Frac.{Frac}
use Rattle.exact_numbers.specs.Values.{FitsDec, frac_value}
use Rattle.linear_program.specs.declared.too_wide.Wide.{Wide}
use Rattle.exact_numbers.proofs.Bridge.{frac_fits_lem}
use Rattle.row_scaling.specs.declared.objectives.TiedObjective.{TiedObjective}
use Rattle.row_scaling.specs.declared.row.ScaledObjective.{ScaledObjective}
use Rattle.row_scaling.specs.Fitting.{coefficients_in, NumberFits}
use Rattle.row_scaling.proofs.FitLemmas.{Finite, to_terms, from_terms, zero_finite, same_factor, all_map, number_of}
use Rattle.row_scaling.proofs.FitLemmas.{scaled_of, zero_number, times_fit, multiplier_some, times_below}
use Rattle.row_scaling.proofs.FitLemmas.{times_coefficient, times_length, times_sparse}
use Rattle.exact_numbers.proofs.Ring.{ring, v, num, ◌⊖◌, ◌⊗◌, opp}
use Rattle.row_scaling.specs.Exported.{scaled_as, exported_from, form_of, tied_row, tied_rows, tied_variables, written_form, scaled_row_of}
use Rattle.std.specs.Option.{option_map}
use Rattle.linear_program.specs.Decimals.{coefficient_of}
use Rattle.linear_program.proofs.ListLemmas.{rest_of}
use Rattle.row_scaling.specs.declared.row.Tie.{Tie}

-- The linear program of a linear program, row by row.

rows_there : (p i : ℕ) (bs : List Form) (ss : List Interval) (b : Form) (s : Interval) (r : Row) → i < length bs
    → length ss ≡ length bs → b ≡ get_or bs i b → s ≡ get_or ss i s → get_or (rows_from p bs ss) i r ≡ row_for (p + i) b s
rows_there p zero (x ∷ bs) (y ∷ ss) b s r h n e f = ap (λ k. row_for k x y) (omega arith) ∙ ap₂ (row_for (p + 0)) (sym e) (sym f)
rows_there p (suc i) (x ∷ bs) (y ∷ ss) b s r h n e f = rows_there (suc p) i bs ss b s r (omega (arith, h)) (omega (arith, n)) e f ∙ ap (λ k. row_for k b s) (omega arith)
rows_there p i bs ss b s r h n e f = absurd (omega (arith, h, n))

rows_count : (p : ℕ) (bs : List Form) (ss : List Interval) → length ss ≡ length bs → length (rows_from p bs ss) ≡ length bs
rows_count p [] ss n = refl
rows_count p (x ∷ bs) [] n = absurd (omega (arith, n))
rows_count p (x ∷ bs) (y ∷ ss) n = ap suc (rows_count (suc p) bs ss (omega (arith, n)))

variables_count : (j : ℕ) (bs : List Interval) (ks : List Kind) → length ks ≡ length bs → length (variables_from j bs ks) ≡ length bs
variables_count j [] ks n = refl
variables_count j (b ∷ bs) [] n = absurd (omega (arith, n))
variables_count j (b ∷ bs) (k ∷ ks) n = ap suc (variables_count (suc j) bs ks (omega (arith, n)))

module _ (l : LinearValue) (is : IsLinear l) where
  pub row_count : length (linear_value l).rows ≡ length l.bodies
  unfolding linear_value
  row_count = rows_count 0 l.bodies l.sides is.sides

  pub count_is : variable_count (linear_value l) ≡ length l.bounds
  unfolding linear_value
  count_is = variables_count 0 l.bounds l.kinds is.kinds

  module _ (i : ℕ) (b : Form) (s : Interval) (h : i < length l.bodies) (e : b ≡ get_or l.bodies i b) (f : s ≡ get_or l.sides i s) where
    pub row_is : row_at (linear_value l) i ≡ row_for i b s
    unfolding linear_value
    row_is = rows_there 0 i l.bodies l.sides b s no_row h is.sides e f ∙ ap (λ k. row_for k b s) (omega arith)

    form_over : IsFormOver (length l.bounds) b
    form_over = subst (IsFormOver (length l.bounds)) (sym e) (is.bodies i b h)

    body_below : AreBelow (variable_count (linear_value l)) (form_terms b)
    body_below = subst (λ n. AreBelow n (form_terms b)) (sym count_is) form_over

    pub not_exported : is_sided s ≡ false → IsTrue (is_exported (row_at (linear_value l) i)) → ⊥
    not_exported none t = let x : is_sided s ≡ true = sym (ap is_exported row_is) ∙ t in cc

    pub exported_row : (r : FactoredRow) → is_sided s ≡ true → ((n i : ℕ) → AreBelow n (form_terms b) → IsFactored n i (row_for i b s) r) → IsScaledAt (linear_value l) i (Some r)
    exported_row r some all = (ap is_exported row_is ∙ some, subst (λ w. IsFactored (variable_count (linear_value l)) i w r) (sym row_is) (all (variable_count (linear_value l)) i body_below))

    pub too_wide : is_sided s ≡ true → ((n i : ℕ) → AreBelow n (form_terms b) → ¬ RowFits n (row_for i b s) (factor_for n (row_for i b s))) → ¬ ExportFits (linear_value l) i
    too_wide some bad fits =
        let n = variable_count (linear_value l) in
        bad n i body_below (subst (λ w. RowFits n w (factor_for n w)) row_is (fits (ap is_exported row_is ∙ some)))

-- a scaled row fits, where it is exported
pub scaled_fits : (f : Linear) (i : ℕ) (o : Option FactoredRow) → IsScaledAt f i o → ExportFits f i
scaled_fits f i None h = λ t. absurd (h t)
scaled_fits f i (Some r) h = λ t. h.1.fits

-- ---- rows one by one
pub row_fault : (f : Linear) (i : ℕ) (stop : Stop ScaleFault) → ((k : ℕ) → k < i → ExportFits f k)
    → IfFault stop (λ fault. (fault ≡ RowTooWide i) × ¬ ExportFits f i) → IfFault stop (λ fault. HasScaleFault f fault)
row_fault f i (Fault x) before h = subst (HasScaleFault f) (sym h.0) (record { before = before; wide = h.1 })
row_fault f i Memory before h = tt

-- the first i rows
pub record AreFirstRows (l : LinearValue) (rows : List (Option FactoredRow)) (i : ℕ) : Type 0 where
  pub count : length rows ≡ i
  pub scaled : (k : ℕ) → k < i → IsScaledAt (linear_value l) k (get_or rows k None)
  pub few : row_term_count rows + body_term_count (drop i l.bodies) ≤ body_term_count l.bodies

pub one_row_more : (l : LinearValue) (rows new : List (Option FactoredRow)) (i : ℕ) (o : Option FactoredRow)
    → AreFirstRows l rows i → i < length l.bodies → new ≡ rows ++ o ∷ [] → IsScaledAt (linear_value l) i o →
    ((d : Form) → term_count_of o ≤ length (form_terms (get_or l.bodies i d))) → AreFirstRows l new (i + 1)
one_row_more l rows new i o a h e s few =
    let d = get_or l.bodies i l.objective in
    let split : body_term_count (drop i l.bodies) ≡ length (form_terms d) + body_term_count (drop (i + 1) l.bodies) =
    ap body_term_count (rest_of l.bodies i d h (get_or_default l.bodies i l.objective d h)) ∙ sum_by-cons (λ f. length (form_terms f)) d (drop (i + 1) l.bodies) in
    let more : row_term_count new ≡ row_term_count rows + term_count_of o =
    ap row_term_count e ∙ sum_by-append term_count_of rows (o ∷ []) ∙ ap (λ n. row_term_count rows + n) (sum_by-cons term_count_of o [] ∙ omega arith) in
    let bound = few l.objective in
    let was = a.few in
    record {
      count = ap length e ∙ length-append rows (o ∷ []) ∙ omega (arith, a.count);
      scaled = λ k g.
          ⊎_elim
          (λ (p : k < i). subst (IsScaledAt (linear_value l) k) (sym (ap (λ xs. get_or xs k None) e ∙ get_or-append rows (o ∷ []) None k (omega (arith, p, a.count)))) (a.scaled k p))
          (λ (p : i ≤ k).
          let same : i ≡ k = omega (arith, p, g) in
          subst (λ m. IsScaledAt (linear_value l) m (get_or new m None)) same
          (subst (IsScaledAt (linear_value l) i) (sym (ap (λ xs. get_or xs i None) e ∙ ap (λ m. get_or (rows ++ o ∷ []) m None) (sym a.count) ∙ get_or-append_seam rows o [] None)) s))
          (cases_lt k i);
      few = omega (arith, split, more, bound, was);
    }

pub before_fit : (l : LinearValue) (rows : List (Option FactoredRow)) (i : ℕ) → AreFirstRows l rows i → (k : ℕ) → k < i → ExportFits (linear_value l) k
before_fit l rows i a k h = scaled_fits (linear_value l) k (get_or rows k None) (a.scaled k h)

pub all_rows : (l : LinearValue) (rows : List (Option FactoredRow)) (i : ℕ) → IsLinear l → AreFirstRows l rows i → i ≡ length l.bodies → AreScaledRows (linear_value l) rows
all_rows l rows i is a e = record { count = a.count ∙ e ∙ sym (row_count l is); scaled = λ k h. a.scaled k (omega (arith, h, a.count)) }

-- An objective's numbers, by its coefficients and by its terms.

pub both_wide : (b : Form) (r : Result TiedObjective (Stop Wide)) → ¬ All (NumberFits one_ℚ) (numbers_of b)
    → IfErr r (λ stop. IfFault stop (λ w. ¬ AreTiedFit b)) → IfErr r (λ stop. IfFault stop (λ w. IsTooWide b))
both_wide b (Ok x) tied h = h
both_wide b (Err (Fault w)) tied h = record { tied = tied; wide = h }
both_wide b (Err Memory) tied h = tt

as_one : (x : Frac) → FitsDec (frac_value x) → NumberFits one_ℚ (frac_value x)
as_one x h = record { frac = ap fits (one-*ℚ (frac_value x)) ∙ frac_fits_lem x; dec = subst FitsDec (sym (one-*ℚ (frac_value x))) h }

all_as_one : (ts : List Term) → All FitsDec (coefficients_in ts) → All (NumberFits one_ℚ) (coefficients_in ts)
all_as_one [] h = All-nil (NumberFits one_ℚ)
all_as_one (t ∷ ts) h = All-cons (NumberFits one_ℚ) (frac_value t.1) (coefficients_in ts)
    (as_one t.1 (All-head FitsDec (frac_value t.1) (coefficients_in ts) h))
    (all_as_one ts (All-tail FitsDec (frac_value t.1) (coefficients_in ts) h))

of_one : (x : ℚ) → NumberFits one_ℚ x → FitsDec x
of_one x h = subst FitsDec (one-*ℚ x) h.dec

module _ (n : ℕ) (b : Form) (up : AreAscending 0 (form_terms b)) (below : AreBelow n (form_terms b)) where
  abbrev c : ℚ
  c = (form_line b).constant

  to : (P : ℚ → Type 0) → All P (objective_numbers n (linear_form b)) → All P (numbers_of b)
  to P h =
      All-cons P c (coefficients_in (form_terms b)) (All-head P c (coefficients_below (form_line b).coef n) h)
      (to_terms n (form_terms b) up below P (All-tail P c (coefficients_below (form_line b).coef n) h))

  from : (P : ℚ → Type 0) → P zero_ℚ → All P (numbers_of b) → All P (objective_numbers n (linear_form b))
  from P z h =
      All-cons P c (coefficients_below (form_line b).coef n) (All-head P c (coefficients_in (form_terms b)) h)
      (from_terms n (form_terms b) up below P z (All-tail P c (coefficients_in (form_terms b)) h))

  same_objective : least_factor (objective_numbers n (linear_form b)) ≡ least_factor (numbers_of b)
  same_objective = same_factor (objective_numbers n (linear_form b)) (numbers_of b) (λ k. to (Finite k)) (λ k. from (Finite k) (zero_finite k))

  decimal_to : All FitsDec (objective_numbers n (linear_form b)) → All (NumberFits one_ℚ) (numbers_of b)
  decimal_to h =
      let all = to FitsDec h in
      All-cons (NumberFits one_ℚ) c (coefficients_in (form_terms b))
      (as_one (kept_constant b.kept) (All-head FitsDec c (coefficients_in (form_terms b)) all))
      (all_as_one (form_terms b) (All-tail FitsDec c (coefficients_in (form_terms b)) all))

  decimal_from : All (NumberFits one_ℚ) (numbers_of b) → All FitsDec (objective_numbers n (linear_form b))
  decimal_from h = from FitsDec (subst FitsDec zero_decimal zero_fits) (all_map (numbers_of b) of_one h)

  tied_to : (g : ℕ) → g ≡ least_factor (numbers_of b) → g < 2 ^ 127 → All (ScaledFits g) (objective_numbers n (linear_form b)) → AreTiedFit b
  tied_to g e small h =
      record {
        small = subst (λ k. k < 2 ^ 127) e small;
        numbers = subst (λ k. All (NumberFits (whole (pos k))) (numbers_of b)) e (to (NumberFits (whole (pos g))) (all_map (objective_numbers n (linear_form b)) (number_of g) h));
      }

  tied_from : (g : ℕ) → least_factor (numbers_of b) ≡ g → AreTiedFit b → All (ScaledFits g) (objective_numbers n (linear_form b))
  tied_from g e h =
      all_map (objective_numbers n (linear_form b)) (scaled_of g)
      (from (NumberFits (whole (pos g))) (zero_number (whole (pos g)))
      (subst (λ k. All (NumberFits (whole (pos k))) (numbers_of b)) e h.numbers))

-- ---- the objective of a linear program
module _ (l : LinearValue) (is : IsLinear l) (up : AreAscending 0 (form_terms l.objective)) where
  pub objective_below : AreBelow (variable_count (linear_value l)) (form_terms l.objective)
  objective_below = subst (λ n. AreBelow n (form_terms l.objective)) (sym (count_is l is)) is.objective

  pub factor_is : factor_of_objective (linear_value l) ≡ least_factor (numbers_of l.objective)
  unfolding linear_value
  factor_is = same_objective (variable_count (linear_value l)) l.objective up objective_below

  pub decimal_there : IsDecimal (linear_value l) → All (NumberFits one_ℚ) (numbers_of l.objective)
  unfolding linear_value
  decimal_there h = decimal_to (variable_count (linear_value l)) l.objective up objective_below h

  pub decimal_back : All (NumberFits one_ℚ) (numbers_of l.objective) → IsDecimal (linear_value l)
  unfolding linear_value
  decimal_back h = decimal_from (variable_count (linear_value l)) l.objective up objective_below h

  pub tied_there : ObjectiveFits (linear_value l) → AreTiedFit l.objective
  unfolding linear_value
  tied_there h = tied_to (variable_count (linear_value l)) l.objective up objective_below (factor_of_objective (linear_value l)) factor_is h.factor h.parts

  pub tied_back : AreTiedFit l.objective → ObjectiveFits (linear_value l)
  unfolding linear_value
  tied_back h =
      record {
        factor = subst (λ k. k < 2 ^ 127) (sym factor_is) h.small;
        parts = tied_from (variable_count (linear_value l)) l.objective up objective_below (factor_of_objective (linear_value l)) (sym factor_is) h;
      }

-- all numbers of an objective times q fit
pub times_all : (q : ℚ) (b : Form) (o : ScaledObjective) → IsObjectiveTimes q b o → All (NumberFits q) (numbers_of b)
times_all q b o h = All-cons (NumberFits q) (form_line b).constant (coefficients_in (form_terms b)) h.constant (times_fit q (form_terms b) o.terms h.terms)

pub plain_as : (s : ScaledValue) → s.tie ≡ None → scaled_as s
    ≡ record {
      rows = exported_from 0 s.rows;
      objective = form_of s.objective;
      variables =
          variables_from 0 s.bounds s.kinds;
      maximise = s.maximise;
    }
unfolding scaled_as
plain_as s e =
    ap (λ o. let p : ScaledProgram = record {
      rows = exported_from 0 s.rows ++ tied_rows o s;
      objective =
          written_form o s;
      variables = variables_from 0 s.bounds s.kinds ++ tied_variables o;
      maximise = s.maximise;
    }
    in p) e
    ∙ ap₂ (λ rows vs. let p : ScaledProgram = record {
      rows = rows;
      objective = form_of s.objective;
      variables = vs;
      maximise = s.maximise;
    } in p) (append-nil (exported_from 0 s.rows))
    (append-nil (variables_from 0 s.bounds s.kinds))

one_coefficient : (n k j : ℕ) (objective form : LinearForm) → form.coefficient j ≡ whole (pos k) *ℚ objective.coefficient j →
    then_at n (neg_ℚ (whole (pos k))) form.coefficient j ≡ whole (pos k) *ℚ then_at n (neg_ℚ one_ℚ) objective.coefficient j
one_coefficient n k j objective form e =
    elim (nat_eq j n) as (λ b. cond b (neg_ℚ (whole (pos k))) (form.coefficient j) ≡ whole (pos k) *ℚ cond b (neg_ℚ one_ℚ) (objective.coefficient j))
    [ true ↦ sym (*ℚ-neg (whole (pos k)) one_ℚ ∙ ap neg_ℚ (*ℚ_one (whole (pos k)))) | false ↦ e ]

one_side : (k : ℕ) (c d : ℚ) → d ≡ whole (pos k) *ℚ c → neg_ℚ d ≡ whole (pos k) *ℚ (zero_ℚ -ℚ c)
one_side k c d e = ap neg_ℚ e ∙ ring (whole (pos k) ∷ c ∷ []) (opp (v 0 ⊗ v 1)) (v 0 ⊗ (num (pos 0) ⊖ v 1)) refl

pub tied_as_scaled : (n k : ℕ) (objective form : LinearForm) → form.constant ≡ whole (pos k) *ℚ objective.constant → ((j : ℕ) → form.coefficient j ≡ whole (pos k) *ℚ objective.coefficient j) →
    tied_row n (pos k) form ≡ scaled_row k (tie n objective)
tied_as_scaled n k objective form c e =
    λ i. record {
      name = zdef_name;
      coefficient = λ j. one_coefficient n k j objective form (e j) i;
      side = record { lower = Some (one_side k objective.constant form.constant c i); upper = Some (one_side k objective.constant form.constant c i) };
    }

-- The scaled program of a linear program.

-- ---- rows
-- row k times its factor, where it is exported
abbrev IsRowAt : (ℕ → ℕ) → ℕ → Row → Option FactoredRow → Type 0
IsRowAt factor k r None = ¬ IsTrue (is_exported r)
IsRowAt factor k r (Some x) = IsTrue (is_exported r) × (scaled_row_of k x.row ≡ scaled_row (factor k) r)

same_from : (factor : ℕ → ℕ) (p : ℕ) (os : List (Option FactoredRow)) (rs : List Row) → length os ≡ length rs
    → ((i k : ℕ) → k ≡ p + i → i < length os → IsRowAt factor k (get_or rs i no_row) (get_or os i None))
    → exported_from p os ≡ exported_rows factor p rs
unfolding exported_rows
same_from factor p [] [] n h = refl
same_from factor p (None ∷ os) (r ∷ rs) n h =
    let none : has_side r.side ≡ false = false_from_ne_true (has_side r.side) (h 0 p (omega arith) (omega arith)) in
    same_from factor (suc p) os rs (omega (arith, n)) (λ i k e l. h (suc i) k (omega (arith, e)) (omega (arith, l)))
    ∙ ap (λ b. cond b (scaled_row (factor p) r ∷ exported_rows factor (suc p) rs) (exported_rows factor (suc p) rs)) (sym none)
same_from factor p (Some x ∷ os) (r ∷ rs) n h =
    let first = h 0 p (omega arith) (omega arith) in
    ap₂ (λ y ys. y ∷ ys) first.1 (same_from factor (suc p) os rs (omega (arith, n)) (λ i k e l. h (suc i) k (omega (arith, e)) (omega (arith, l))))
    ∙ ap (λ b. cond b (scaled_row (factor p) r ∷ exported_rows factor (suc p) rs) (exported_rows factor (suc p) rs)) (sym first.0)
same_from factor p os rs n h = absurd (omega (arith, n))

row_at_of : (f : Linear) (i k : ℕ) (o : Option FactoredRow) → k ≡ i → IsScaledAt f i o → IsRowAt (factor_of_row f) k (row_of_program f i) o
row_at_of f i k None e h = h
row_at_of f i k (Some x) e h = subst (λ m. IsTrue (is_exported (row_of_program f i)) × (scaled_row_of m x.row ≡ scaled_row (factor_of_row f m) (row_of_program f i))) (sym e) (h.0, h.1.scaled)

module _ (f : Linear) (rows : List (Option FactoredRow)) (r : AreScaledRows f rows) where
  same_rows : exported_from 0 rows ≡ exported_rows (factor_of_row f) 0 f.rows
  same_rows = same_from (factor_of_row f) 0 rows f.rows r.count (λ i k e l. row_at_of f i k (get_or rows i None) (e ∙ omega arith) (r.scaled i l))

  not_past : (i : ℕ) → length rows ≤ i → IsTrue (is_exported (row_of_program f i)) → ⊥
  not_past i h t = let none : false ≡ true = sym (ap is_exported (get_or_past f.rows i no_row (omega (arith, h, r.count)))) ∙ t in cc

  all_fit : (i : ℕ) → ExportFits f i
  all_fit i = ⊎_elim (λ (h : i < length rows). scaled_fits f i (get_or rows i None) (r.scaled i h)) (λ (h : length rows ≤ i). λ t. absurd (not_past i h t)) (cases_lt i (length rows))

  factor_there : (i : ℕ) (o : Option FactoredRow) → IsScaledAt f i o → IsTrue (is_exported (row_of_program f i)) → option_map (λ x. x.factor) o ≡ Some (pos (factor_of_row f i))
  factor_there i None h t = absurd (h t)
  factor_there i (Some x) h t = ap Some h.1.factor

  no_factor : (i : ℕ) (o : Option FactoredRow) → IsScaledAt f i o → (IsTrue (is_exported (row_of_program f i)) → ⊥) → option_map (λ x. x.factor) o ≡ None
  no_factor i None h t = refl
  no_factor i (Some x) h t = absurd (t h.0)

  factors_there : (i : ℕ) → IsTrue (is_exported (row_of_program f i)) → option_map (λ x. x.factor) (get_or rows i None) ≡ Some (pos (factor_of_row f i))
  factors_there i t = ⊎_elim (λ (h : i < length rows). factor_there i (get_or rows i None) (r.scaled i h) t) (λ (h : length rows ≤ i). absurd (not_past i h t)) (cases_lt i (length rows))

  no_factors : (i : ℕ) → (IsTrue (is_exported (row_of_program f i)) → ⊥) → option_map (λ x. x.factor) (get_or rows i None) ≡ None
  no_factors i t = ⊎_elim (λ (h : i < length rows). no_factor i (get_or rows i None) (r.scaled i h) t)
      (λ (h : length rows ≤ i). ap (option_map (λ x. x.factor)) (get_or_past rows i None h)) (cases_lt i (length rows))

-- ---- the objective
abbrev pub value_of : LinearValue → List (Option FactoredRow) → ScaledObjective → Option Tie → ScaledValue
value_of l rows o t = record { rows = rows; objective = o; tie = t; maximise = l.maximise; bounds = l.bounds; kinds = l.kinds }

abbrev parts_of : List (Option FactoredRow) → ScaledObjective → Option Tie → Bool → List Interval → List Kind → ScaledValue
parts_of rows o t m bs ks = record { rows = rows; objective = o; tie = t; maximise = m; bounds = bs; kinds = ks }

pub same_value_of : (l : LinearValue) (rows : List (Option FactoredRow)) (o : ScaledObjective) (t : Option Tie)
    (m : Bool) (bs : List Interval) (ks : List Kind) → m ≡ l.maximise → bs ≡ l.bounds → ks ≡ l.kinds →
    parts_of rows o t m bs ks ≡ value_of l rows o t
same_value_of l rows o t m bs ks e f g = λ i. record { rows = rows; objective = o; tie = t; maximise = e i; bounds = f i; kinds = g i }

-- the multiplier of an objective, which is not 0
record HasTimes (l : LinearValue) (o : ScaledObjective) : Type 0 where
  q : ℚ
  some : q ≢ zero_ℚ
  times : IsObjectiveTimes q l.objective o

times_of : (l : LinearValue) (o : ScaledObjective) (t : Option Tie) → IsTiedOrPlain l.objective o t → HasTimes l o
times_of l o None h = record { q = one_ℚ; some = one_not_zero; times = h }
times_of l o (Some t) h = record { q = whole (pos (least_factor (numbers_of l.objective))); some = multiplier_some _ (numbers_of l.objective) refl; times = h.1.times }

tie_of : (l : LinearValue) (o : ScaledObjective) (t : Option Tie) → IsTiedOrPlain l.objective o t → IfSome t IsTie
tie_of l o None h = tt
tie_of l o (Some t) h = h.1.tie

module _ (l : LinearValue) (is : IsLinear l) (up : AreAscending 0 (form_terms l.objective)) where
  times_coefficients : (q : ℚ) (o : ScaledObjective) → IsObjectiveTimes q l.objective o → (j : ℕ) → coefficient_of o.terms j ≡ q *ℚ (form_line l.objective).coef j
  times_coefficients q o h j = times_coefficient q 0 (form_terms l.objective) o.terms h.terms up j

  plain_form : (o : ScaledObjective) → IsObjectiveTimes one_ℚ l.objective o → form_of o ≡ (linear_value l).objective
  unfolding linear_value
  plain_form o h =
      let constant = h.value ∙ one-*ℚ (form_line l.objective).constant in
      let coefficient : (j : ℕ) → coefficient_of o.terms j ≡ (form_line l.objective).coef j = λ j. times_coefficients one_ℚ o h j ∙ one-*ℚ ((form_line l.objective).coef j) in
      λ t. record { constant = constant t; coefficient = λ j. coefficient j t }

  module _ (rows : List (Option FactoredRow)) (r : AreScaledRows (linear_value l) rows) where
    over_at : (i : ℕ) (x : Option FactoredRow) → IsScaledAt (linear_value l) i x → IfSome x (λ y. IsRowOver (length l.bounds) y.row)
    over_at i None h = tt
    over_at i (Some x) h = subst (λ n. IsRowOver n x.row) (count_is l is) h.1.over

    pub is_scaled_program : (o : ScaledObjective) (t : Option Tie) → IsTiedOrPlain l.objective o t → row_term_count rows ≤ body_term_count l.bodies → IsScaled (value_of l rows o t)
    is_scaled_program o t h few =
        let m = times_of l o t h in
        let terms = times_length m.q (form_terms l.objective) o.terms m.times.terms in
        let bound = is.few_coefficients in
        let count = r.count ∙ row_count l is in
        record {
          rows = λ k d g. subst (λ x. IfSome x (λ y. IsRowOver (length l.bounds) y.row)) (get_or_default rows k None d g) (over_at k (get_or rows k None) (r.scaled k g));
          sparse = times_sparse m.q m.some 0 (form_terms l.objective) o.terms m.times.terms up;
          below = times_below m.q (length l.bounds) (form_terms l.objective) o.terms m.times.terms is.objective;
          tie = tie_of l o t h;
          kinds = is.kinds;
          few_rows = subst (λ n. n ≤ 2 ^ 20) (sym count) is.few_rows;
          few_columns = is.few_columns;
          few_terms = omega (arith, few, terms, bound);
        }

    plain_export : (o : ScaledObjective) → IsObjectiveTimes one_ℚ l.objective o → scaled_as (value_of l rows o None) ≡ scaled_by (linear_value l) (factor_of_row (linear_value l))
    unfolding linear_value
    plain_export o h =
        let rows_same = same_rows (linear_value l) rows r in
        let form = plain_form o h in
        plain_as (value_of l rows o None) refl ∙ (λ t. record { rows = rows_same t; objective = form t; variables = variables_from 0 l.bounds l.kinds; maximise = l.maximise })

    tied_same : (o : ScaledObjective) (t : Tie) → IsTiedTo l.objective o t →
        tied_row (length l.bounds) t.factor (form_of o) ≡ scaled_row (factor_of_objective (linear_value l)) (tie_row (variable_count (linear_value l)) (linear_value l).objective)
    unfolding linear_value
    tied_same o t h =
        let n = variable_count (linear_value l) in
        let g = factor_of_objective (linear_value l) in
        let e = factor_is l is up in
        ap (λ z. tied_row (length l.bounds) z (form_of o)) (h.factor ∙ ap pos (sym e))
        ∙ ap (λ m. tied_row m (pos g) (form_of o)) (sym (count_is l is))
        ∙ tied_as_scaled n g (linear_value l).objective (form_of o)
        (h.times.value ∙ ap (λ k. whole (pos k) *ℚ (form_line l.objective).constant) (sym e))
        (λ j. times_coefficients _ o h.times j ∙ ap (λ k. whole (pos k) *ℚ (form_line l.objective).coef j) (sym e))

    tied_export : (o : ScaledObjective) (t : Tie) → IsTiedTo l.objective o t
        → scaled_as (value_of l rows o (Some t)) ≡ scaled_and_tied (linear_value l) (factor_of_row (linear_value l))
        (factor_of_objective (linear_value l))
    unfolding scaled_as linear_value
    tied_export o t h =
        let rows_same = same_rows (linear_value l) rows r in
        let row = tied_same o t h in
        let count = sym (count_is l is) in
        λ i. record { rows = rows_same i ++ row i ∷ []; objective = z_form (count i); variables = variables_from 0 l.bounds l.kinds ++ z_variable ∷ []; maximise = l.maximise }

    program_of : (o : ScaledObjective) (t : Option Tie) → IsTiedOrPlain l.objective o t → IsScaledProgramOf (linear_value l) (scaled_as (value_of l rows o t))
    program_of o None h = record { plain = λ d. plain_export o h; tied = λ d. absurd (d (decimal_back l is up (times_all one_ℚ l.objective o h))) }
    program_of o (Some t) h = record { plain = λ d. absurd (h.0 (decimal_there l is up d)); tied = λ d. tied_export o t h.1 }

    factors_of : (o : ScaledObjective) (t : Option Tie) → IsTiedOrPlain l.objective o t → HasLeastFactors (linear_value l) (value_of l rows o t)
    factors_of o None h =
        record {
          exported = factors_there (linear_value l) rows r;
          others = no_factors (linear_value l) rows r;
          plain = λ d. refl;
          tied = λ d. absurd (d (decimal_back l is up (times_all one_ℚ l.objective o h)));
        }
    factors_of o (Some t) h =
        record {
          exported = factors_there (linear_value l) rows r;
          others = no_factors (linear_value l) rows r;
          plain = λ d. absurd (h.0 (decimal_there l is up d));
          tied = λ d. ap Some (h.1.factor ∙ ap pos (sym (factor_is l is up)));
        }

    pub is_scaled_of : (o : ScaledObjective) (t : Option Tie) → IsTiedOrPlain l.objective o t → IsScaledOf (linear_value l) (value_of l rows o t)
    is_scaled_of o t h = record { program = program_of o t h; factors = factors_of o t h }

    fits_of : (o : ScaledObjective) (t : Option Tie) → IsTiedOrPlain l.objective o t → IsDecimal (linear_value l) ⊎ ObjectiveFits (linear_value l)
    fits_of o None h = inl (decimal_back l is up (times_all one_ℚ l.objective o h))
    fits_of o (Some t) h = inr (tied_back l is up (record { small = h.1.small; numbers = times_all _ l.objective o h.1.times }))

    pub no_fault : (o : ScaledObjective) (t : Option Tie) → IsTiedOrPlain l.objective o t → HasNoScaleFault (linear_value l)
    no_fault o t h = record { rows = all_fit (linear_value l) rows r; objective = fits_of o t h }

    pub objective_fault : IsTooWide l.objective → IsObjectiveTooWide (linear_value l)
    objective_fault h = record { rows = all_fit (linear_value l) rows r; tied = λ d. h.tied (decimal_there l is up d); wide = λ w. h.wide (tied_there l is up w) }
