-- The MPS program of a linear program has its points and its objective: the scaled program has them, and the MPS program
-- has those of the scaled one.
use Rattle.std.proofs.Common.{◌≡◌, ℕ, ◌<◌, ◌∙◌, List, [], ◌∷◌, ◌++◌, length, ◌↔◌}
use Rattle.exact_numbers.specs.Rational.{ℚ}
use Rattle.linear_program.specs.Linear.{IsFeasible, IsLinear, Linear, objective_value, variable_count}
use Rattle.mps_model.specs.Mps.{IsMpsFeasible, mps_objective}
use Rattle.scaled_program.specs.Program.{scaled_and_tied, scaled_by}
use Rattle.scaled_program.proofs.Meaning.{ordered, same_points as scaled_points}
use Rattle.scaled_program.proofs.Meaning.{same_objective as scaled_objective_same}
use Rattle.scaled_program.proofs.Meaning.{tied_objective as tied_objective_same, tied_ordered}
use Rattle.scaled_program.proofs.Meaning.{tied_points as scaled_tied_points}
use Rattle.scaled_program.specs.ExportedProgram.{program, tied_program}
use Rattle.scaled_program.proofs.ExportedMeaning.{feasible_same, objective_is, sense_same}

pub same_points : (f : Linear) (factor : ℕ → ℕ) (xs : List ℚ) → IsLinear f → ((i : ℕ) → 0 < factor i) → IsMpsFeasible (program f factor) xs ↔ IsFeasible f xs
same_points f factor xs linear above =
    let written = feasible_same (scaled_by f factor) xs (ordered f factor linear above) in
    let scaled = scaled_points f factor xs linear above in
    (λ h. scaled.0 (written.0 h), λ h. written.1 (scaled.1 h))

pub same_objective : (f : Linear) (factor : ℕ → ℕ) (xs : List ℚ) → mps_objective (program f factor) xs ≡ objective_value f xs
same_objective f factor xs = objective_is (scaled_by f factor) xs ∙ scaled_objective_same f factor xs

pub same_sense : (f : Linear) (factor : ℕ → ℕ) → (program f factor).maximise ≡ f.maximise
same_sense f factor = sense_same (scaled_by f factor)

-- ---- a tied objective
module _ (f : Linear) (factor : ℕ → ℕ) (g : ℕ) where
  pub tied_points : (xs : List ℚ) (z : ℚ) → IsLinear f → ((i : ℕ) → 0 < factor i) → 0 < g → length xs ≡ variable_count f
      → IsMpsFeasible (tied_program f factor g) (xs ++ z ∷ []) ↔ (IsFeasible f xs × (z ≡ objective_value f xs))
  tied_points xs z linear above some count =
      let written = feasible_same (scaled_and_tied f factor g) (xs ++ z ∷ []) (tied_ordered f factor g linear above some) in
      let scaled = scaled_tied_points f factor g xs z linear above some count in
      (λ h. scaled.0 (written.0 h), λ h. written.1 (scaled.1 h))

  pub tied_objective : (xs : List ℚ) (z : ℚ) → length xs ≡ variable_count f → mps_objective (tied_program f factor g) (xs ++ z ∷ []) ≡ z
  tied_objective xs z count = objective_is (scaled_and_tied f factor g) (xs ++ z ∷ []) ∙ tied_objective_same f factor g xs z count

  pub tied_sense : (tied_program f factor g).maximise ≡ f.maximise
  tied_sense = sense_same (scaled_and_tied f factor g)
