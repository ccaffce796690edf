-- Lists of the first elements of a sequence.
use Rattle.std.specs.Prelude.{ℕ, zero, suc, List, [], ◌∷◌}

-- n elements of a sequence, from element i on
unfoldable pub elements_from : {A : Type 0} → (ℕ → A) → ℕ → ℕ → List A
elements_from g i zero = []
elements_from g i (suc n) = g i ∷ elements_from g (suc i) n
