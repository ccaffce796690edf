-- The first test that holds, of lists of tests.
use Rattle.std.proofs.Common.{◌≡◌, ◌∙◌, Bool, true, false, List, [], ◌∷◌, ◌++◌, Option, Some, None, Result, Ok, Err, refl, sym}
use Rattle.std.specs.List.{AllByRecursion}
use Rattle.text_base.specs.declared.stop.Stop.{Stop}
use Rattle.text_base.specs.declared.stop.Stop.TheVariants.{Fault, Memory}
use Rattle.text_base.specs.Judged.{first_reason, Takes}

-- ---- one test

-- no reason: the first test does not hold, and the others give none
pub none_head : {R : Type 0} (b : Bool) (r : R) (tests : List (Bool × R)) → first_reason ((b, r) ∷ tests) ≡ None → (b ≡ false) × (first_reason tests ≡ None)
none_head true r tests e = absurd cc
none_head false r tests e = (refl, e)

-- no reason: no test holds
pub none_each : {R : Type 0} (tests : List (Bool × R)) → first_reason tests ≡ None → AllByRecursion (λ t. t.0 ≡ false) tests
none_each [] e = tt
none_each (x ∷ xs) e = let h = none_head x.0 x.1 xs e in (h.0, none_each xs h.1)

-- ---- two lists of tests

-- a reason of the first list is that of both
pub reason_before : {R : Type 0} (xs ys : List (Bool × R)) (r : R) → first_reason xs ≡ Some r → first_reason (xs ++ ys) ≡ Some r
reason_before [] ys r e = absurd cc
reason_before (x ∷ xs) ys r e = by x.0 refl (reason_before xs ys r)
  where
    by : (t : Bool) → x.0 ≡ t → (first_reason xs ≡ Some r → first_reason (xs ++ ys) ≡ Some r) → first_reason ((x ∷ xs) ++ ys) ≡ Some r
    by true s rest = rw s (rw s at e)
    by false s rest = rw s (rest (rw s at e))

-- where the first list gives none, the second one decides
pub reason_after : {R : Type 0} (xs ys : List (Bool × R)) → first_reason xs ≡ None → first_reason (xs ++ ys) ≡ first_reason ys
reason_after [] ys e = refl
reason_after (x ∷ xs) ys e = by x.0 refl (reason_after xs ys)
  where
    by : (t : Bool) → x.0 ≡ t → (first_reason xs ≡ None → first_reason (xs ++ ys) ≡ first_reason ys) → first_reason ((x ∷ xs) ++ ys) ≡ first_reason ys
    by true s rest = absurd (let wrong : Some x.1 ≡ None = rw s at e in cc)
    by false s rest = rw s (rest (rw s at e))

-- where both give none, so does the first
pub none_first : {R : Type 0} (xs ys : List (Bool × R)) → first_reason (xs ++ ys) ≡ None → first_reason xs ≡ None
none_first [] ys e = refl
none_first (x ∷ xs) ys e = by x.0 refl (none_first xs ys)
  where
    by : (t : Bool) → x.0 ≡ t → (first_reason (xs ++ ys) ≡ None → first_reason xs ≡ None) → first_reason (x ∷ xs) ≡ None
    by true s rest = absurd (let wrong : Some x.1 ≡ None = rw s at e in cc)
    by false s rest = rw s (rest (rw s at e))

-- and so does the second
pub none_second : {R : Type 0} (xs ys : List (Bool × R)) → first_reason (xs ++ ys) ≡ None → first_reason ys ≡ None
none_second xs ys e = sym (reason_after xs ys (none_first xs ys e)) ∙ e

-- both give none
pub none_both : {R : Type 0} (xs ys : List (Bool × R)) → first_reason xs ≡ None → first_reason ys ≡ None → first_reason (xs ++ ys) ≡ None
none_both xs ys e f = reason_after xs ys e ∙ f

-- where the first lists give the same, and the second ones do where the first give none, both do
pub same_reasons : {R : Type 0} (xs xs' ys ys' : List (Bool × R)) → first_reason xs ≡ first_reason xs' → (first_reason xs ≡ None → first_reason ys ≡ first_reason ys')
    → first_reason (xs ++ ys) ≡ first_reason (xs' ++ ys')
same_reasons {R} xs xs' ys ys' e f = by (first_reason xs) refl
  where
    by : (o : Option R) → first_reason xs ≡ o → first_reason (xs ++ ys) ≡ first_reason (xs' ++ ys')
    by None s = reason_after xs ys s ∙ f s ∙ sym (reason_after xs' ys' (sym e ∙ s))
    by (Some r) s = reason_before xs ys r s ∙ sym (reason_before xs' ys' r (sym e ∙ s))

-- ---- reasons that stand for others

-- ---- what calls answer

-- where the tests before give none, the tests after decide
pub takes_after : {R A : Type 0} (xs ys : List (Bool × R)) (next new : A) (result : Result (Unit {0}) (Stop R)) → first_reason xs ≡ None → Takes ys next result new
    → Takes (xs ++ ys) next result new
takes_after xs ys next new (Ok u) none h = (none_both xs ys none h.0, h.1)
takes_after xs ys next new (Err (Fault r)) none h = reason_after xs ys none ∙ h
takes_after xs ys next new (Err Memory) none h = tt
