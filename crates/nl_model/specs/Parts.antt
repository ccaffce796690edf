-- The parts of a tree, and what it is for a tree to be linear.
use Rattle.std.specs.Prelude.{◌≡◌, ◌⊎◌, ℕ, List, Some}
use Rattle.exact_numbers.specs.Rational.{◌+ℚ◌, ◌*ℚ◌}
use Rattle.exact_numbers.specs.Sums.{sum_below}
use Rattle.nl_model.specs.Faults.{coef, constant_of}
use Rattle.nl_model.specs.Trees.{Tree, number, variable, defined, operator, Trees, none, more, Definition, tree_value}
use Rattle.linear_program.specs.Lines.{Point}

-- u is the tree itself, or a part of one of its operands
abbrev mutual
  pub IsPart : Tree → Tree → Type 0
  IsPart u (number m e) = u ≡ number m e
  IsPart u (variable j) = u ≡ variable j
  IsPart u (defined i) = u ≡ defined i
  IsPart u (operator c ts) = (u ≡ operator c ts) ⊎ IsPartOfOne u ts

  pub IsPartOfOne : Tree → Trees → Type 0
  IsPartOfOne u none = ⊥
  IsPartOfOne u (more t ts) = IsPart u t ⊎ IsPartOfOne u ts

-- at every point it has its value at 0 and the sum of its coefficients times the n variables
abbrev pub IsLinearTree : ℕ → List Definition → Tree → Type 0
IsLinearTree n ds t =
    (at : Point) →
    tree_value ds t at ≡ Some (constant_of ds t +ℚ sum_below (λ j. coef ds t j *ℚ at j) n)
