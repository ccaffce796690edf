-- Programs of one row, with the verdicts that duals and proofs by branches give them.
use Rattle.std.specs.Prelude.{ℕ, zero, suc, [], ◌∷◌, false, true, Some, pos}
use Rattle.exact_numbers.specs.Rational.{ℚ, whole, zero_ℚ}
use Rattle.linear_program.specs.Linear.{Linear}
use Rattle.certificates.specs.Branch.{BranchTree, split, duals, weights}
use Rattle.certificates.specs.Parts.{bound, at_least}

abbrev pub number : ℕ → ℚ
number k = whole (pos k)

-- the coefficients a, b, 0, 0, ..
abbrev pub pair : ℚ → ℚ → ℕ → ℚ
pair a b zero = a
pair a b (suc zero) = b
pair a b (suc (suc n)) = zero_ℚ

-- minimise 2 x + 3 y, where x + y is at least 4, x from 0 to 3, and y at least 0
abbrev pub example : Linear
example =
    record {
      rows =
          record {
            name = [];
            body = record { constant = zero_ℚ; coefficient = pair (number 1) (number 1) };
            side = at_least (number 4);
          } ∷ [];
      variables =
          record {
            name = [];
            bound = record { lower = Some zero_ℚ; upper = Some (number 3) };
            whole = false;
          }
          ∷ record { name = []; bound = at_least zero_ℚ; whole = false }
          ∷ [];
      objective = record { constant = zero_ℚ; coefficient = pair (number 2) (number 3) };
      maximise = false;
    }

-- minimise x, a whole number from 0 to 5, where 2 x is at least 3
abbrev pub whole_example : Linear
whole_example =
    record {
      rows =
          record {
            name = [];
            body = record { constant = zero_ℚ; coefficient = pair (number 2) zero_ℚ };
            side = at_least (number 3);
          } ∷ [];
      variables =
          record {
            name = [];
            bound = record { lower = Some zero_ℚ; upper = Some (number 5) };
            whole = true;
          } ∷ [];
      objective = record { constant = zero_ℚ; coefficient = pair (number 1) zero_ℚ };
      maximise = false;
    }

-- x at most 1, by weights; x at least 2, by duals
abbrev pub example_tree : BranchTree
example_tree = split (bound 0 (pos 1)) (weights (number 1 ∷ [])) (duals [])
