-- The problem that an .nl file states.
use Rattle.std.specs.Prelude.{ℕ}
use Rattle.certificates.specs.Problem.{Problem}
use Rattle.nl_model.specs.File.{File}
use Rattle.nl_model.specs.Expressions.{maximises}
use Rattle.nl_model.specs.FoldFaults.{has_objective}
use Rattle.nl_model.specs.Meaning.{body_value, bound_of, is_whole_variable, file_objective, side_of}

-- with objective k; a file without objectives minimises 0, as objective 0
abbrev pub problem_of : File → ℕ → Problem
problem_of f k = record {
  constraints = f.counts.n_con;
  body = body_value f;
  side = side_of f;
  variables = f.counts.n_var;
  bound = bound_of f;
  is_whole = is_whole_variable f;
  has_objective = has_objective f k;
  objective = file_objective f k;
  maximises = maximises f k;
}
