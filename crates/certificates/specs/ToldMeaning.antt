-- What is told of a certificate that holds, and what it means.
use Rattle.std.specs.Prelude.{◌≡◌, List, Option, Some, None, option_map}
use Rattle.exact_numbers.specs.Rational.{ℚ}
use Rattle.certificates.specs.Certificate.{Certificate, optimal as optimal_by, near as near_by, bounded as bounded_by, feasible as feasible_by, infeasible as infeasible_by, unbounded as unbounded_by}
use Rattle.certificates.specs.Problem.{Problem, IsBound, IsInfeasible, IsSolution, IsUnbounded}

-- a claim with the numbers that are told
pub data Told : Type 0 where
  optimal : ℚ → Told
  within : ℚ → ℚ → Told
  bound : ℚ → Told
  feasible : ℚ → Told
  infeasible : Told
  unbounded : Told

-- what it says of a problem, where xs is the point that the certificate gives
abbrev pub IsTrueOf : Problem → List ℚ → Told → Type 0
IsTrueOf p xs (optimal v) = IsSolution p xs v × IsBound p v
IsTrueOf p xs (within b v) = IsSolution p xs v × IsBound p b
IsTrueOf p xs (bound v) = IsBound p v
IsTrueOf p xs (feasible v) = IsSolution p xs v
IsTrueOf p xs infeasible = IsInfeasible p
IsTrueOf p xs unbounded = IsUnbounded p

-- ---- what is told of a certificate that holds, o being the value that its verdict has
abbrev pub without_value : Told → Option ℚ → Option Told
without_value t None = Some t
without_value t (Some v) = None

abbrev pub told_certificate : Certificate → Option ℚ → Option Told
told_certificate (optimal_by xs tree) o = option_map optimal o
told_certificate (near_by xs b tree) o = option_map (within b) o
told_certificate (bounded_by v tree) o = option_map bound o
told_certificate (feasible_by xs) o = option_map feasible o
told_certificate (infeasible_by tree) o = without_value infeasible o
told_certificate (unbounded_by xs ds) o = without_value unbounded o

-- something is told, and it is true
pub record IsToldTrue (p : Problem) (xs : List ℚ) (o : Option Told) : Type 0 where
  pub told : Told
  pub is_told : o ≡ Some told
  pub true_of : IsTrueOf p xs told
