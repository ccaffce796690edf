-- Marks by stamps.
use Rattle.std.proofs.Common.{◌≡◌, ℕ, zero, suc, ◌+◌, ◌<◌, ◌≤◌, ◌==◌, Bool, true, false, List, [], ◌∷◌, length, replicate, slice_set, refl, ap, ap₂, arith}
use Rattle.std.specs.Prelude.{All}
use Rattle.std.proofs.lemmas.Bool.{eq-eqb, eqb-true}
use Rattle.text_base.specs.InsideStamps.{marked}

unlike : (a b : ℕ) → a < b → (a == b) ≡ false
unlike a b lt = by (a == b) refl
  where
    by : (t : Bool) → (a == b) ≡ t → (a == b) ≡ false
    by true e = absurd (let same = eqb-true a b e in omega arith)
    by false e = e

-- a mark more
pub marked_set : (s : ℕ) (xs : List ℕ) (i : ℕ) → marked s (slice_set xs i s) ≡ slice_set (marked s xs) i true
marked_set s [] i = refl
marked_set s (x ∷ xs) zero = ap (λ b. b ∷ marked s xs) (eq-eqb s s refl)
marked_set s (x ∷ xs) (suc i) = ap (λ bs. (x == s) ∷ bs) (marked_set s xs i)

-- no mark
pub none_marked : (s n : ℕ) → 0 < s → marked s (replicate n 0) ≡ replicate n false
none_marked s zero above = refl
none_marked s (suc n) above = ap₂ (λ b bs. b ∷ bs) (unlike 0 s above) (none_marked s n above)

pub past_marked : (s : ℕ) (xs : List ℕ) → All (λ x. x ≤ s) xs → marked (s + 1) xs ≡ replicate (length xs) false
past_marked s [] h = refl
past_marked s (x ∷ xs) h = ap₂ (λ b bs. b ∷ bs) (unlike x (s + 1) (omega (arith, h 0 0 (omega arith)))) (past_marked s xs (λ k d lt. h (suc k) d (omega (arith, lt))))
