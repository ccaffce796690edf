-- Names in the order in which they came.
use Rattle.std.specs.Prelude.{ℕ, List, [], ◌∷◌}

-- the name of the last of these
unfoldable pub last_name : List (List ℕ) → List ℕ
last_name [] = []
last_name (n ∷ []) = n
last_name (n ∷ p ∷ names) = last_name (p ∷ names)
