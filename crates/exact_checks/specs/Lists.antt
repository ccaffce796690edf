-- What lists of rows and columns say.
use Rattle.std.specs.Prelude.{◌≡◌, ℕ, ◌≤◌, ◌^◌, List, Option, Some, None, slice_get, length}
use Rattle.std.specs.Option.{option_map_or}
use Rattle.std.specs.Coded.{le_prop}
use Rattle.std.specs.Global.{Vec}
use native.Mathlib.Nat.{ℕ_set}
use Rattle.std.proofs.Math.IntN.{ℤ_set}
use Rattle.exact_numbers.specs.Rational.{ℚ}
use Rattle.linear_program.specs.Linear.{Form, Interval, unbounded}
use Rattle.linear_program.specs.Linear.{zero_form}
use Rattle.exact_numbers.specs.declared.dec.Dec.{Dec}
use Rattle.exact_numbers.specs.declared.frac.Frac.{Frac}
use Rattle.exact_numbers.specs.Values.{frac_value}
use Rattle.linear_program.specs.Intervals.{interval_of}
use Rattle.linear_program.specs.Coefs.{Term, coef_in}
use Rattle.exact_checks.specs.declared.form.Body.{Body}
use Rattle.exact_checks.specs.declared.form.Row.{Row}
use Rattle.exact_checks.specs.Terms.{AreTerms, AreTerms-prop, side_value}

abbrev pub form_of : Body → Form
form_of b = record { constant = frac_value b.constant; coefficient = coef_in b.terms }

unfoldable pub body_in : List Row → ℕ → Form
body_in rows i = option_map_or (λ (r : Row). form_of r.body) (slice_get rows i) zero_form

unfoldable pub side_in : List Row → ℕ → Interval
side_in rows i = option_map_or (λ (r : Row). interval_of r.side) (slice_get rows i) unbounded

-- the side at an index, where the list has one
unfoldable pub side_listed : List (Option Dec) → ℕ → Option ℚ
side_listed xs j = option_map_or side_value (slice_get xs j) None

-- the bounds that two lists say
abbrev pub bounds_in : List (Option Dec) → List (Option Dec) → ℕ → Interval
bounds_in lo hi j = record { lower = side_listed lo j; upper = side_listed hi j }

-- rows and an objective have coefficients of n variables, in order, and none is 0
pub record AreSound (n : ℕ) (rows : List Row) (objective : Body) : Type 0 where
  pub few_rows : length rows ≤ 2 ^ 20
  pub few_columns : n ≤ 2 ^ 20
  pub objective_terms : AreTerms 0 n objective.terms
  pub rows_terms : (i : ℕ) (r : Row) → slice_get rows i ≡ Some r → AreTerms 0 n r.body.terms

-- columns hold the coefficients of rows, in order, and none is 0; the costs are the objective's
-- coefficients
pub record AreTransposed (rows : List Row) (columns : List (Vec Term)) (costs : List Frac)
    (objective : Body) : Type 0 where
  pub columns_terms : (j : ℕ) (k : Vec Term) → slice_get columns j ≡ Some k
      → AreTerms 0 (length rows) k.items
  pub priced : (j : ℕ) (k : Frac) → slice_get costs j ≡ Some k
      → frac_value k ≡ coef_in objective.terms j
  pub same : (i j : ℕ) (k : Vec Term) → slice_get columns j ≡ Some k
      → coef_in k.items i ≡ (body_in rows i).coefficient j

ℚ_set : IsSet ℚ
ℚ_set = hlevel (ℕ_set, ℤ_set, le_prop)

pub AreSound-prop : (n : ℕ) (rows : List Row) (objective : Body)
    → IsProp (AreSound n rows objective)
AreSound-prop n rows objective = hlevel (AreTerms-prop, le_prop)

pub AreTransposed-prop : (rows : List Row) (columns : List (Vec Term)) (costs : List Frac)
    (objective : Body) → IsProp (AreTransposed rows columns costs objective)
AreTransposed-prop rows columns costs objective = hlevel (ℚ_set, AreTerms-prop)
