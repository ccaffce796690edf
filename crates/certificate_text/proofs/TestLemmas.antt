-- What the tests of a row say, and what a call by these tests answers.
use Rattle.std.proofs.Common.{◌≡◌, ◌∙◌, ℕ, zero, suc, ◌<◌, ◌≤◌, Bool, true, false, nat_lt, List, Option, Some, None, is_none, is_some, Result, Ok, Err, refl, subst, arith}
use Rattle.std.proofs.lemmas.Bool.{lt-ltb, ltb-false}
use Rattle.text_base.specs.Judged.{Takes, first_reason}
use Rattle.text_base.specs.declared.stop.Stop.{Stop}
use Rattle.text_base.specs.declared.stop.Stop.TheVariants.{Fault, Memory}

-- ---- options

pub is_there : {A : Type 0} (o : Option A) → is_none o ≡ false → is_some o ≡ true
is_there None e = absurd cc
is_there (Some x) e = refl

pub some_there : {A : Type 0} (o : Option A) → is_some o ≡ true → (x : A) × (o ≡ Some x)
some_there None e = absurd cc
some_there (Some x) e = (x, refl)

-- ---- how many are left

pub zero_left : (n : ℕ) → nat_lt 0 n ≡ false → n ≡ 0
zero_left n e = (let le = ltb-false 0 n e in omega (arith, le))

pub some_left : (n m : ℕ) → n ≡ m → 0 < n → nat_lt 0 m ≡ true
some_left n m e h = lt-ltb 0 m (subst (λ k. 0 < k) e h)

pub none_left : (n m : ℕ) → n ≡ m → n ≤ 0 → nat_lt 0 m ≡ false
none_left n m e h = by m (subst (λ k. k ≤ 0) e h)
  where
    by : (k : ℕ) → k ≤ 0 → nat_lt 0 k ≡ false
    by zero le = refl
    by (suc k) le = absurd (omega (arith, le))

-- ---- what a call answers

-- where no test holds, both come to the same
pub takes_next : {R A : Type 0} (tests : List (Bool × R)) (next other new : A) (r : Result (Unit {0}) (Stop R))
    → (first_reason tests ≡ None → next ≡ other) → Takes tests next r new → Takes tests other r new
takes_next tests next other new (Ok u) same h = (h.0, h.1 ∙ same h.0)
takes_next tests next other new (Err (Fault reason)) same h = h
takes_next tests next other new (Err Memory) same h = tt
