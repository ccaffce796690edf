-- Marks of rows, of which the last ones are known to have none.
use Rattle.std.specs.Prelude.{◌≡◌, ℕ, ◌≤◌, Bool, false, List, get_or}

-- no row from this one on is marked
pub record NoneFrom (end : ℕ) (marks : List Bool) : Type 0 where
  pub none : (row : ℕ) → end ≤ row → get_or marks row false ≡ false
