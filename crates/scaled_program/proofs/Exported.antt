-- The law of export for the decimal program.
use Rattle.std.proofs.Common.{◌≡◌, ℕ, ◌<◌, ◌∙◌, sym, ap, subst, List, [], ◌∷◌, ◌++◌, length, ◌↔◌}
use Rattle.exact_numbers.specs.Rational.{ℚ}
use Rattle.linear_program.specs.Linear.{Linear, IsLinear, IsFeasible, objective_value, variable_count, row_at}
use Rattle.exact_numbers.specs.declared.dec.Dec.{Dec}
use Rattle.exact_numbers.specs.Values.{dec_value}
use Rattle.mps_model.specs.Mps.{Mps, with_values, IsMpsFeasible, mps_objective}
use Rattle.scaled_program.specs.Factor.{row_numbers, objective_numbers}
use Rattle.scaled_program.specs.ExportedProgram.{IsProgramOf}
use Rattle.scaled_program.specs.Fits.{IsDecimal, factor_of_row, factor_of_objective}
use Rattle.scaled_program.proofs.Factor.{factor_above}
use Rattle.scaled_program.proofs.Export.{same_points, same_objective, tied_points, tied_objective}

factors_above : (f : Linear) (i : ℕ) → 0 < factor_of_row f i
factors_above f i = factor_above (row_numbers (variable_count f) (row_at f i))

pub plain_points : (f : Linear) (m : Mps Dec) (xs : List ℚ) → IsLinear f → IsProgramOf f m → IsDecimal f → IsMpsFeasible (with_values dec_value m) xs ↔ IsFeasible f xs
plain_points f m xs linear p d = subst (λ t. IsMpsFeasible t xs ↔ IsFeasible f xs) (sym (p.plain d)) (same_points f (factor_of_row f) xs linear (factors_above f))

pub plain_objective : (f : Linear) (m : Mps Dec) (xs : List ℚ) → IsProgramOf f m → IsDecimal f → mps_objective (with_values dec_value m) xs ≡ objective_value f xs
plain_objective f m xs p d = ap (λ t. mps_objective t xs) (p.plain d) ∙ same_objective f (factor_of_row f) xs

pub tied_points_of : (f : Linear) (m : Mps Dec) (xs : List ℚ) (z : ℚ) → IsLinear f → IsProgramOf f m → ¬ IsDecimal f → length xs ≡ variable_count f →
    IsMpsFeasible (with_values dec_value m) (xs ++ z ∷ []) ↔ (IsFeasible f xs × (z ≡ objective_value f xs))
tied_points_of f m xs z linear p d count =
    subst (λ t. IsMpsFeasible t (xs ++ z ∷ []) ↔ (IsFeasible f xs × (z ≡ objective_value f xs))) (sym (p.tied d))
    (tied_points f (factor_of_row f) (factor_of_objective f) xs z linear (factors_above f) (factor_above (objective_numbers (variable_count f) f.objective)) count)

pub tied_objective_of : (f : Linear) (m : Mps Dec) (xs : List ℚ) (z : ℚ) → IsProgramOf f m → ¬ IsDecimal f → length xs ≡ variable_count f → mps_objective (with_values dec_value m) (xs ++ z ∷ []) ≡ z
tied_objective_of f m xs z p d count = ap (λ t. mps_objective t (xs ++ z ∷ [])) (p.tied d) ∙ tied_objective f (factor_of_row f) (factor_of_objective f) xs z count
