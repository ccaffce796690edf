-- What a call with a front of a piece says of the piece.
use Rattle.std.proofs.Common.{◌≡◌, ◌∙◌, ℕ, ◌≤◌, ◌<◌, List, ◌++◌, length, take, drop, arith, ap, sym, subst, Result, Ok, Err}
use Rattle.std.specs.Prelude.{min, IfOk, MatchResult}
use Rattle.std.proofs.lemmas.List.{take-append-le, take-append-drop, length-take}

pub take_in_front : (n m : ℕ) (xs : List ℕ) → n ≤ length (take m xs) → take n (take m xs) ≡ take n xs
take_in_front n m xs short = sym (take-append-le n (take m xs) (drop m xs) short) ∙ ap (take n) (take-append-drop m xs)

below_least : (n a b : ℕ) → n ≤ min a b → n ≤ b
below_least n a b h = grind arith

least_some : (a b : ℕ) → 0 < a → 0 < b → 0 < min a b
least_some a b p q = grind arith

pub front_bound : {E : Type 0} (r : Result ℕ E) (m : ℕ) (xs front : List ℕ) → front ≡ take m xs → IfOk r (λ n. n ≤ length front) → IfOk r (λ n. n ≤ length xs)
front_bound (Ok n) m xs front e h = below_least n m (length xs) (subst (λ l. n ≤ l) (ap length e ∙ length-take m xs) h)
front_bound (Err f) m xs front e h = tt

pub front_some : {E : Type 0} (r : Result ℕ E) (m : ℕ) (xs front : List ℕ) → front ≡ take m xs → (0 < length xs → 0 < m) → IfOk r (λ n. 0 < length front → 0 < n) → IfOk r (λ n. 0 < length xs → 0 < n)
front_some (Ok n) m xs front e some h = λ has. h (rw (e, length-take) (least_some m (length xs) (some has) has))
front_some (Err f) m xs front e some h = tt

pub front_bytes : {E : Type 0} (r : Result ℕ E) (m : ℕ) (xs front old new : List ℕ) → front ≡ take m xs → IfOk r (λ n. n ≤ length front)
    → MatchResult r (λ n. new ≡ old ++ take n front) (λ _. new ≡ old) → MatchResult r (λ n. new ≡ old ++ take n xs) (λ _. new ≡ old)
front_bytes (Ok n) m xs front old new e short h =
    h ∙ ap (λ l. old ++ l) (ap (take n) e ∙ take_in_front n m xs (subst (λ l. n ≤ length l) e short))
front_bytes (Err f) m xs front old new e short h = h
