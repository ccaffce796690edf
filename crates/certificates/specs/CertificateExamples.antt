-- Small programs, with certificates for what a solver says of them.
use Rattle.std.specs.Prelude.{ℕ, ℤ, pos, negsuc, Bool, true, false, List, [], ◌∷◌, Option, Some, None}
use Rattle.exact_numbers.specs.Rational.{ℚ, over, zero_ℚ}
use Rattle.linear_program.specs.Linear.{Interval, Linear, Row, Variable, value_at, unbounded as free}
use Rattle.certificates.specs.Branch.{BranchTree, split, duals, weights, row_side, bound_side, wide, open_gap}
use Rattle.certificates.specs.Certificate.{Certificate, optimal, near, bounded, infeasible, unbounded, at_point, not_whole, objective_wide, at_ray, at_leaf, ClaimOutcome, holds, fails, outcome}
use Rattle.certificates.specs.OneRowExamples.{number}
use Rattle.certificates.specs.Parts.{bound, plane, lemma, at_least, at_most}

-- the first numbers are coefficients, the others 0
abbrev pub row : List ℚ → Interval → Row
row cs side =
    record {
      name = [];
      body = record { constant = zero_ℚ; coefficient = value_at cs };
      side = side;
    }

abbrev pub variable : Interval → Bool → Variable
variable side whole = record { name = []; bound = side; whole = whole }

abbrev pub third : ℚ
third = over (pos 1) 3

abbrev pub half : ℚ
half = over (pos 1) 2

abbrev pub less_third : ℚ
less_third = over (negsuc 0) 3

abbrev pub less_one : ℚ
less_one = over (negsuc 0) 1

-- minimise x, free, where 3 x is at least 1; x is whole or not
abbrev pub least_third : Bool → Linear
least_third whole =
    record {
      rows = row (number 3 ∷ []) (at_least (number 1)) ∷ [];
      variables = variable free whole ∷ [];
      objective = record { constant = zero_ℚ; coefficient = value_at (number 1 ∷ []) };
      maximise = false;
    }

abbrev pub best_third : ℚ → ℚ → ClaimOutcome
best_third x y = outcome (least_third false) (optimal (x ∷ []) (duals (y ∷ [])))

-- x at most 0 by weights, x at least 1 by duals
abbrev pub best_whole : ℚ → ClaimOutcome
best_whole x =
    outcome (least_third true)
    (optimal (x ∷ []) (split (bound 0 (pos 0)) (weights (number 1 ∷ [])) (duals [])))

-- 12 a + 21 b + 33 c = 500, whole and free: the left side is divisible by 3
abbrev pub parity : Linear
parity =
    record {
      rows =
          row (number 12 ∷ number 21 ∷ number 33 ∷ [])
          (record { lower = Some (number 500); upper = Some (number 500) }) ∷ [];
      variables = variable free true ∷ variable free true ∷ variable free true ∷ [];
      objective = record { constant = zero_ℚ; coefficient = value_at [] };
      maximise = false;
    }

-- a third of the left side is at most 166 or at least 167, and neither can be
abbrev pub parity_tree : BranchTree
parity_tree =
    split (plane ((0, pos 4) ∷ (1, pos 7) ∷ (2, pos 11) ∷ []) (pos 166))
    (weights (third ∷ less_one ∷ []))
    (weights (less_third ∷ number 1 ∷ []))

-- maximise x + y, at least 0, x whole, where x - y is at most 2
abbrev pub endless : Linear
endless =
    record {
      rows = row (number 1 ∷ less_one ∷ []) (at_most (number 2)) ∷ [];
      variables =
          variable (at_least zero_ℚ) true ∷ variable (at_least zero_ℚ) false ∷ [];
      objective =
          record { constant = zero_ℚ; coefficient = value_at (number 1 ∷ number 1 ∷ []) };
      maximise = true;
    }

abbrev pub along : List ℚ → ClaimOutcome
along ds = outcome endless (unbounded [] ds)

-- a point that is not best, and a bound
abbrev pub near_third : ℚ → ℚ → ClaimOutcome
near_third x b = outcome (least_third false) (near (x ∷ []) b (duals (third ∷ [])))

-- maximise y, from 0 to 7, where y is at most 10 x and x is 0 or 1; y is variable 0, x variable 1
abbrev pub charged_with : List Row → Linear
charged_with rows =
    record {
      rows = row (number 1 ∷ over (negsuc 9) 1 ∷ []) (at_most zero_ℚ) ∷ rows;
      variables =
          variable (record { lower = Some zero_ℚ; upper = Some (number 7) }) false
          ∷ variable (record { lower = Some zero_ℚ; upper = Some (number 1) }) true
          ∷ [];
      objective = record { constant = zero_ℚ; coefficient = value_at (number 1 ∷ []) };
      maximise = true;
    }

-- with the lemma that y - 7 x is at most t, shown by its two parts
abbrev pub by_charge : ℚ → BranchTree → BranchTree
by_charge t rest =
    split (lemma ((0, number 1) ∷ (1, over (negsuc 6) 1) ∷ []) t)
    (split (bound 1 (pos 0)) (duals (number 1 ∷ [])) (duals []))
    rest

-- y is at most 7, by the lemma, which is row 1
abbrev pub charged : Linear
charged = charged_with []

abbrev pub charge_tree : ℚ → BranchTree
charge_tree t = by_charge t (duals (zero_ℚ ∷ number 1 ∷ []))

abbrev pub at_most_seven : BranchTree → ClaimOutcome
at_most_seven tree = outcome charged (bounded (number 7) tree)

-- y is not 7 x + 1 or more, by the lemma, which is row 2
abbrev pub overcharged : Linear
overcharged =
    charged_with (row (number 1 ∷ over (negsuc 6) 1 ∷ []) (at_least (number 1)) ∷ [])

abbrev pub overcharge : Certificate
overcharge = infeasible (by_charge zero_ℚ (weights (zero_ℚ ∷ number 1 ∷ less_one ∷ [])))

-- ---- how a fraction is told
abbrev pub value_told : ClaimOutcome → Option (ℤ × ℕ)
value_told (holds None) = None
value_told (holds (Some v)) = Some (v.top, v.bottom)
value_told (fails c) = None

abbrev pub gap_told : ClaimOutcome → Option (ℕ × ℤ × ℕ)
gap_told (holds v) = None
gap_told (fails (at_point g)) = None
gap_told (fails (not_whole j)) = None
gap_told (fails objective_wide) = None
gap_told (fails (at_ray g)) = None
gap_told (fails (at_leaf (row_side k i))) = None
gap_told (fails (at_leaf (bound_side k j))) = None
gap_told (fails (at_leaf (wide k))) = None
gap_told (fails (at_leaf (open_gap k b))) = Some (k, b.top, b.bottom)
