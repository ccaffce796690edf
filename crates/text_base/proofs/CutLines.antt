-- A row of bytes that is cut into lines: one line more, and each line by its place.
use Rattle.std.proofs.Common.{◌≡◌, ◌∙◌, ℕ, zero, suc, ◌+◌, ◌-◌, ◌<◌, ◌≤◌, List, [], ◌∷◌, ◌++◌, length, take, drop, get_or, Some, refl, ap, arith}
use Rattle.std.specs.Prelude.{slice_get, slice_range}
use Rattle.std.proofs.lemmas.List.{take-append-le, drop-append-le, length-append, length-drop}
use Rattle.std.proofs.Math.Seq.{drop-append_seam, take-length}
use Rattle.text_base.specs.InsideTextLines.{cut_at, start_at, AreEnds}

pub length-cut_at : (start : ℕ) (bytes ends : List ℕ) → length (cut_at start bytes ends) ≡ length ends
length-cut_at start bytes [] = refl
length-cut_at start bytes (end ∷ ends) = omega (arith, length-cut_at end bytes ends)

pub ends-most : (start : ℕ) (ends : List ℕ) (all : ℕ) → AreEnds start ends all → start ≤ all
ends-most start [] all h = omega (arith, h)
ends-most start (end ∷ ends) all h = omega (arith, h.0, ends-most end ends all h.1)

-- a part of the front is a part of the whole
range-front : (bytes more : List ℕ) (from to : ℕ) → from ≤ to → to ≤ length bytes → slice_range (bytes ++ more) from to ≡ slice_range bytes from to
range-front bytes more from to le within =
    ap (take (to - from)) (drop-append-le from bytes more (omega arith)) ∙ take-append-le (to - from) (drop from bytes) more (omega (arith, length-drop from bytes))

range-back : (bytes more : List ℕ) → slice_range (bytes ++ more) (length bytes) (length bytes + length more) ≡ more
range-back bytes more =
    let n : (length bytes + length more) - length bytes ≡ length more = omega arith in
    ap (λ k. take k (drop (length bytes) (bytes ++ more))) n ∙ ap (take (length more)) (drop-append_seam bytes more) ∙ take-length more

-- the ends with one line more
pub ends-more : (start : ℕ) (ends : List ℕ) (all next : ℕ) → AreEnds start ends all → all ≤ next → AreEnds start (ends ++ next ∷ []) next
ends-more start [] all next h le = (omega (arith, h), refl)
ends-more start (end ∷ ends) all next h le = (h.0, ends-more end ends all next h.1 le)

-- the lines with one line more
pub cut-more : (start : ℕ) (bytes line ends : List ℕ) → AreEnds start ends (length bytes)
    → cut_at start (bytes ++ line) (ends ++ (length bytes + length line) ∷ []) ≡ cut_at start bytes ends ++ line ∷ []
cut-more start bytes line [] h = ap (λ (s : ℕ). slice_range (bytes ++ line) s (length bytes + length line) ∷ []) h ∙ ap (λ (l : List ℕ). l ∷ []) (range-back bytes line)
cut-more start bytes line (end ∷ ends) h =
    let first = range-front bytes line start end h.0 (ends-most end ends (length bytes) h.1) in
    ap (λ (l : List ℕ). l ∷ cut_at end (bytes ++ line) (ends ++ (length bytes + length line) ∷ [])) first
    ∙ ap (λ (ls : List (List ℕ)). slice_range bytes start end ∷ ls) (cut-more end bytes line ends h.1)

-- the line at a place
pub record LineAt (start : ℕ) (bytes ends : List ℕ) (i : ℕ) : Type 0 where
  pub ordered : start_at start ends i ≤ get_or ends i 0
  pub within : get_or ends i 0 ≤ length bytes
  pub line : slice_get (cut_at start bytes ends) i ≡ Some (slice_range bytes (start_at start ends i) (get_or ends i 0))

pub line-at : (start : ℕ) (bytes ends : List ℕ) (i : ℕ) → AreEnds start ends (length bytes) → i < length ends → LineAt start bytes ends i
line-at start bytes [] i h lt = absurd (omega arith)
line-at start bytes (end ∷ ends) zero h lt = record { ordered = h.0; within = ends-most end ends (length bytes) h.1; line = refl }
line-at start bytes (end ∷ ends) (suc i) h lt =
    let more = line-at end bytes ends i h.1 (omega arith) in record { ordered = more.ordered; within = more.within; line = more.line }

-- where a line starts that is not the first
pub start-next : (start : ℕ) (ends : List ℕ) (i : ℕ) → i < length ends → start_at start ends (suc i) ≡ get_or ends i 0
start-next start [] i lt = absurd (omega arith)
start-next start (end ∷ ends) zero lt = refl
start-next start (end ∷ ends) (suc i) lt = start-next end ends i (omega arith)

-- bytes and ends with one line more
pub record Pushed (bytes ends line : List ℕ) (new_bytes new_ends : List ℕ) : Type 0 where
  pub ends_are : AreEnds 0 new_ends (length new_bytes)
  pub lines : cut_at 0 new_bytes new_ends ≡ cut_at 0 bytes ends ++ line ∷ []

pub pushed : (bytes ends line new_bytes new_ends : List ℕ) → AreEnds 0 ends (length bytes) → new_bytes ≡ bytes ++ line
    → new_ends ≡ ends ++ length new_bytes ∷ [] → Pushed bytes ends line new_bytes new_ends
pushed bytes ends line new_bytes new_ends h b e =
    let len : length new_bytes ≡ length bytes + length line = ap length b ∙ length-append bytes line in
    rw (e, len, b) (record { ends_are = rw length-append (ends-more 0 ends (length bytes) (length bytes + length line) h (omega arith)); lines = cut-more 0 bytes line ends h })
