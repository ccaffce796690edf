-- The bound of a leaf: over the rows of a program and those of planes after them.
use Rattle.std.specs.Prelude.{◌≡◌, ℕ, suc, ◌<◌, ◌≤◌, ◌+◌, ◌++◌, Bool, List, [], ◌∷◌, length, if◌then◌else◌, slice_get, Option, Some, option_and_then}
use Rattle.exact_numbers.specs.Functions.{is_zero}
use Rattle.exact_numbers.specs.Rational.{ℚ}
use Rattle.linear_program.specs.Linear.{Linear, row_at, row_count, variable_count}
use Rattle.certificates.specs.Checked.{fitting, less_product}
use Rattle.linear_program.specs.Intervals.{interval_of}
use Rattle.linear_program.specs.Coefs.{Term, coef_in}
use Rattle.linear_program.specs.Numbers.{Pair, number_value}
use Rattle.exact_numbers.specs.declared.dec.Dec.{Dec}
use Rattle.exact_checks.specs.declared.costs.Costs.{Costs}
use Rattle.exact_checks.specs.declared.program.Program.{Program}
use Rattle.exact_checks.specs.declared.form.Row.{Row}
use Rattle.exact_checks.specs.Built.{AreWithin}
use Rattle.exact_checks.specs.Lists.{form_of}
use Rattle.exact_checks.specs.Sums.{AreZero, cost_count}
use Rattle.exact_checks.specs.Terms.{AreTerms}

-- the indices ascend, from `from` and below n
unfoldable pub AreIndices : ℕ → ℕ → List Pair → Type 0
AreIndices from n [] = Unit {0}
AreIndices from n (p ∷ ps) = (from ≤ p.0) × (p.0 < n) × AreIndices (suc p.0) n ps

-- what a leaf's bound needs: numbers of rows of the program and its planes, in ascending order;
-- planes, costs that are 0, and bounds, all over the program's variables
pub record CanBound (c : Program) (rows : List Row) (costs : Costs) (lo hi : List (Option Dec))
    (ps : List Pair) : Type 0 where
  pub pairs : AreIndices 0 (length c.rows.items + length rows) ps
  pub planes : AreWithin (length c.lower.items) rows
  pub zero : AreZero costs
  pub count : cost_count costs ≡ length c.lower.items
  pub lowers : length lo ≡ length c.lower.items
  pub uppers : length hi ≡ length c.lower.items

-- row i of the program is this row
pub record IsRowAt (f : Linear) (i : ℕ) (r : Row) : Type 0 where
  pub body : (row_at f i).body ≡ form_of r.body
  pub side : (row_at f i).side ≡ interval_of r.side
  pub terms : AreTerms 0 (variable_count f) r.body.terms

-- the rows that are held, with those of planes after them, are the program's
pub record HasRows (c : Program) (planes : List Row) (f : Linear) : Type 0 where
  pub rows : row_count f ≡ length (c.rows.items ++ planes)
  pub row : (i : ℕ) (r : Row) → slice_get (c.rows.items ++ planes) i ≡ Some r → IsRowAt f i r
  pub variables : variable_count f ≡ length c.lower.items

-- the goal is this sum, maximised or minimised
pub record IsGoal (maximise : Bool) (constant : ℚ) (terms : List Term) (f : Linear) : Type 0 where
  pub sense : f.maximise ≡ maximise
  pub sum : f.objective ≡ record { constant = constant; coefficient = coef_in terms }

-- the program that is held with the rows of planes after its own
pub record IsOver (c : Program) (planes : List Row) (f : Linear) : Type 0 where
  pub rows : row_count f ≡ length (c.rows.items ++ planes)
  pub row : (i : ℕ) (r : Row) → slice_get (c.rows.items ++ planes) i ≡ Some r → IsRowAt f i r
  pub variables : variable_count f ≡ length c.lower.items
  pub objective : f.objective ≡ form_of c.objective
  pub maximise : f.maximise ≡ c.maximise

-- a sum less the weight of a row times the coefficient there
abbrev pub lessened : Option ℚ → ℚ → ℚ → Option ℚ
lessened weight a s = if is_zero a then Some s else option_and_then (λ w. less_product s w a) weight

-- a step for each pair
abbrev pub run_pairs : (ℚ → ℕ → ℚ → Option ℚ) → Option ℚ → List Pair → Option ℚ
run_pairs step o [] = o
run_pairs step o (p ∷ ps) =
    run_pairs step (option_and_then (λ s. step s p.0 (number_value p.1)) o) ps

-- the step of a reduced cost
abbrev pub cost_act : Linear → ℕ → ℚ → ℕ → ℚ → Option ℚ
cost_act f j s i v = lessened (fitting v) ((row_at f i).body.coefficient j) s
