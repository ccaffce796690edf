-- When a linear program means a problem.
use Rattle.std.specs.Prelude.{◌≡◌, ◌↔◌, ℕ, ◌<◌, true, IsTrue, List, Some}
use Rattle.exact_numbers.specs.Rational.{ℚ}
use Rattle.linear_program.specs.Linear.{Linear, IsFeasible as IsFeasibleProgram, IsRelaxed as IsRelaxedProgram, form_value, objective_value, row_at, row_count, variable_at, variable_count}
use Rattle.certificates.specs.Says.{IsRowBroken, IsBoundBroken as IsBoundBrokenProgram, IsNotWhole as IsNotWholeProgram}
use Rattle.certificates.specs.Problem.{Problem, IsBoundBroken, IsConstraintBroken, IsFeasible, IsNotWhole, IsRelaxed}

-- Constraints and variables are as many; the same points are feasible, and so without the whole
-- variables; a point fails at the same constraints, bounds and whole variables; each body has a
-- value at each point; the objective is there, with the same sense and values.
pub record Means (f : Linear) (p : Problem) : Type 0 where
  pub constraints : p.constraints ≡ row_count f
  pub variables : p.variables ≡ variable_count f
  pub feasible : (xs : List ℚ) → IsFeasible p xs ↔ IsFeasibleProgram f xs
  pub relaxed : (xs : List ℚ) → IsRelaxed p xs ↔ IsRelaxedProgram f xs
  pub rows : (xs : List ℚ) (i : ℕ) → IsConstraintBroken p xs i ↔ IsRowBroken f xs i
  pub bounds : (xs : List ℚ) (j : ℕ) → IsBoundBroken p xs j ↔ IsBoundBrokenProgram f xs j
  pub whole : (xs : List ℚ) (j : ℕ) → IsNotWhole p xs j ↔ IsNotWholeProgram f xs j
  pub bodies : (xs : List ℚ) (i : ℕ) → i < p.constraints → (v : ℚ) × (p.body i xs ≡ Some v)
  pub there : IsTrue p.has_objective
  pub sense : p.maximises ≡ f.maximise
  pub value : (xs : List ℚ) → p.objective xs ≡ Some (objective_value f xs)

-- the problem that a linear program states
abbrev pub problem_in : Linear → Problem
problem_in f = record {
  constraints = row_count f;
  body = λ i xs. Some (form_value (row_at f i).body (variable_count f) xs);
  side = λ i. (row_at f i).side;
  variables = variable_count f;
  bound = λ j. (variable_at f j).bound;
  is_whole = λ j. (variable_at f j).whole;
  has_objective = true;
  objective = λ xs. Some (objective_value f xs);
  maximises = f.maximise;
}
