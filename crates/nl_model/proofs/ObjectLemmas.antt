-- The objects of suffixes, by their kinds.
use Rattle.std.proofs.Common.{◌≡◌, ◌∙◌, ℕ, zero, suc, ◌%◌, ◌<◌, ◌==◌, true, false, cond, eqb, refl, sym, ap, arith}
use Rattle.std.proofs.lemmas.Bool.{eqb-true, eqb-false, eq-eqb}
use Rattle.std.proofs.lemmas.Bool.Decides.{nat_tests}
use Rattle.nl_model.specs.declared.suffix_kinds.Objects.{Objects}
use Rattle.nl_model.specs.declared.suffix_kinds.Objects.TheVariants.{Variables, Constraints, Objectives, Problem}
use Rattle.nl_model.specs.SuffixKinds.{has_same_objects, is_for_objectives, objects_of}

-- ---- kinds for the same objects

pub same_objects-comm : (a b : ℕ) → has_same_objects a b ≡ has_same_objects b a
same_objects-comm a b = turned (a % 4) (b % 4)
  where
    turned : (i k : ℕ) → (i == k) ≡ (k == i)
    turned i k = grind (arith, nat_tests)

pub same_objects-self : (a : ℕ) → has_same_objects a a ≡ true
same_objects-self a = eq-eqb (a % 4) (a % 4) refl

pub same_objects-class : (a b c : ℕ) → has_same_objects a b ≡ true → has_same_objects a c ≡ has_same_objects b c
same_objects-class a b c e = ap (λ r. eqb r (c % 4)) (eqb-true (a % 4) (b % 4) e)

-- ---- the objects

by_number : ℕ → Objects
by_number r = cond (r == 0) Variables (cond (r == 1) Constraints (cond (r == 2) Objectives Problem))

number : Objects → ℕ
number Variables = 0
number Constraints = 1
number Objectives = 2
number Problem = 3

number-by : (r : ℕ) → r < 4 → number (by_number r) ≡ r
unfolding number by_number
number-by zero h = refl
number-by (suc zero) h = refl
number-by (suc (suc zero)) h = refl
number-by (suc (suc (suc zero))) h = refl
number-by (suc (suc (suc (suc r)))) h = absurd (omega arith)

pub same_objects : (a b : ℕ) → has_same_objects a b ≡ true → objects_of a ≡ objects_of b
unfolding by_number
same_objects a b e = ap by_number (eqb-true (a % 4) (b % 4) e)

pub other_objects : (a b : ℕ) → has_same_objects a b ≡ false → objects_of a ≡ objects_of b → ⊥
unfolding by_number
other_objects a b e same =
    let first = number-by (a % 4) (omega arith) in
    let second = number-by (b % 4) (omega arith) in
    eqb-false (a % 4) (b % 4) e (sym first ∙ ap number same ∙ second)

-- where a kind is for the objectives, they are its objects
pub for_objectives : (kind : ℕ) → is_for_objectives kind ≡ true → objects_of kind ≡ Objectives
unfolding by_number
for_objectives kind e = ap by_number (eqb-true (kind % 4) 2 e)

pub for_others : (kind : ℕ) → is_for_objectives kind ≡ false → objects_of kind ≡ Objectives → ⊥
for_others kind e same = other_objects kind 2 e same
