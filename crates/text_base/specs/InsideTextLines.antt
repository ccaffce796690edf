-- A row of bytes that is cut into lines.
use Rattle.std.specs.Prelude.{◌≡◌, ◌≤◌, ℕ, zero, suc, List, [], ◌∷◌, slice_range}

-- the lines of a row of bytes: each goes from where the one before ends to its own end
abbrev pub cut_at : ℕ → List ℕ → List ℕ → List (List ℕ)
cut_at start bytes [] = []
cut_at start bytes (end ∷ ends) = slice_range bytes start end ∷ cut_at end bytes ends

-- where line i starts
abbrev pub start_at : ℕ → List ℕ → ℕ → ℕ
start_at start ends zero = start
start_at start [] (suc i) = start
start_at start (end ∷ ends) (suc i) = start_at end ends i

-- the ends do not fall, and the last one is the end of all bytes
abbrev pub AreEnds : ℕ → List ℕ → ℕ → Type 0
AreEnds start [] all = start ≡ all
AreEnds start (end ∷ ends) all = (start ≤ end) × AreEnds end ends all
