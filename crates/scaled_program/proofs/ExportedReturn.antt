-- The law of return, for the rows of the MPS program.
use Rattle.std.proofs.Common.{◌≡◌, ℕ, ◌<◌, ◌∙◌, sym, ap, List, [], ◌∷◌, ◌++◌, length, IsTrue}
use Rattle.exact_numbers.specs.Rational.{ℚ, ◌-ℚ◌, ◌*ℚ◌}
use Rattle.linear_program.specs.Linear.{IsLinear, Linear, form_value, row_at, variable_count}
use Rattle.mps_model.specs.Mps.{row_value}
use Rattle.scaled_program.specs.Program.{is_exported, scaled_and_tied, scaled_by}
use Rattle.scaled_program.specs.Return.{dual_of, place_of}
use Rattle.scaled_program.proofs.Return.{law_of_return as scaled_law, law_of_return_tied as scaled_law_tied, placed, placed_tied}
use Rattle.scaled_program.specs.ExportedProgram.{program, program_row, tied_program}
use Rattle.scaled_program.proofs.ExportedMeaning.{row_sum}

pub law_of_return : (f : Linear) (factor : ℕ → ℕ) (s w : ℚ) (i : ℕ) (xs : List ℚ) → i < length f.rows → IsTrue (is_exported (row_at f i)) →
    dual_of s w (factor i) *ℚ (form_value (row_at f i).body (variable_count f) xs -ℚ form_value (row_at f i).body (variable_count f) [])
    ≡ s *ℚ w *ℚ row_value (program f factor) xs (program_row f i)
law_of_return f factor s w i xs h e =
    scaled_law f factor s w i xs h e ∙ ap (λ t. s *ℚ w *ℚ t) (sym (row_sum (scaled_by f factor) xs (place_of f.rows i) (placed f factor i h e)))

pub law_of_return_tied : (f : Linear) (factor : ℕ → ℕ) (g : ℕ) (s w : ℚ) (i : ℕ) (xs : List ℚ) (z : ℚ) → IsLinear f
    → length xs ≡ variable_count f → i < length f.rows → IsTrue (is_exported (row_at f i)) →
    dual_of s w (factor i) *ℚ (form_value (row_at f i).body (variable_count f) xs -ℚ form_value (row_at f i).body (variable_count f) [])
    ≡ s *ℚ w *ℚ row_value (tied_program f factor g) (xs ++ z ∷ []) (program_row f i)
law_of_return_tied f factor g s w i xs z linear count h e =
    scaled_law_tied f factor g s w i xs z linear count h e ∙ ap (λ t. s *ℚ w *ℚ t) (sym (row_sum (scaled_and_tied f factor g) (xs ++ z ∷ []) (place_of f.rows i) (placed_tied f factor g i h e)))
