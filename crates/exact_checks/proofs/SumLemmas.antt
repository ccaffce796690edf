-- Running sums after a write, and which of them are touched.
use Rattle.std.proofs.Common.{◌≡◌, ◌≢◌, ℕ, zero, suc, ◌<◌, ◌∙◌, sym, ap, refl, subst, arith, ⊎_elim, List, [], ◌∷◌, ◌++◌, length, get_or, slice_set, Result, Ok, Err, IfOk}
use Rattle.std.specs.List.{Contains}
use Rattle.std.specs.List.Sorted.{IsPermutation}
use Rattle.std.proofs.lemmas.Bool.{cases_eq}
use Rattle.std.proofs.lemmas.List.{get_or_default, length-set}
use Rattle.std.proofs.lemmas.List.Elements.{Contains-append_left, Contains-append_right, Contains-append_cases}
use Rattle.std.proofs.lemmas.List.Sorted.{Contains-permutation, IsPermutation-sym}
use Rattle.exact_checks.specs.declared.sums.RunningSum.{RunningSum}
use Rattle.exact_checks.specs.declared.sums.RunningSum.TheVariants.{Untouched, Short, Exact, TooWide}
use Rattle.exact_checks.specs.Sums.{AreTouched, sum_at}
use Rattle.linear_program.proofs.PlaceLemmas.{one_only}

-- ---- sums
pub sum_there : (ss : List RunningSum) (i : ℕ) (s : RunningSum) → i < length ss → s ≡ get_or ss i s → sum_at ss i ≡ s
sum_there ss i s h e = get_or_default ss i Untouched s h ∙ sym e

pub sum_set_same : (ss : List RunningSum) (i : ℕ) (s : RunningSum) → i < length ss → sum_at (slice_set ss i s) i ≡ s
sum_set_same [] i s h = absurd (omega arith)
sum_set_same (x ∷ ss) zero s h = refl
sum_set_same (x ∷ ss) (suc i) s h = sum_set_same ss i s (omega arith)

pub sum_set_other : (ss : List RunningSum) (i : ℕ) (s : RunningSum) (j : ℕ) → j ≢ i → sum_at (slice_set ss i s) j ≡ sum_at ss j
sum_set_other (x ∷ ss) zero s zero n = absurd (n refl)
sum_set_other (x ∷ ss) (suc i) s (suc j) n = sum_set_other ss i s j (λ e. n (ap suc e))
sum_set_other ss i s j n = refl

pub untouched_or_not : (s : RunningSum) → (s ≢ Untouched → ⊥) → s ≡ Untouched
untouched_or_not Untouched n = refl
untouched_or_not (Short l) n = absurd (n (λ e. cc))
untouched_or_not (Exact f) n = absurd (n (λ e. cc))
untouched_or_not TooWide n = absurd (n (λ e. cc))

-- ---- marks
module _ (ss : List RunningSum) (i : ℕ) (s : RunningSum) (within : i < length ss) where
  pub kept_marks : (touched : List ℕ) → AreTouched ss touched → Contains touched i → AreTouched (slice_set ss i s) touched
  kept_marks touched m mark =
      record {
        among = λ j n. ⊎_elim (λ (e : j ≡ i). subst (Contains touched) (sym e) mark) (λ (apart : j ≢ i). m.among j (λ z. n (sum_set_other ss i s j apart ∙ z))) (cases_eq j i);
        there = λ j c. (let h = m.there j c in omega (arith, length-set ss i s));
      }

  -- a touched sum is set to 0
  pub one_less : (touched rest : List ℕ) → touched ≡ rest ++ i ∷ [] → s ≡ Untouched → AreTouched ss touched → AreTouched (slice_set ss i s) rest
  one_less touched rest e z m =
      record {
        among = λ j n.
            let apart : j ≢ i = λ same. n (ap (sum_at (slice_set ss i s)) same ∙ sum_set_same ss i s within ∙ z) in
            ⊎_elim (λ (c : Contains rest j). c) (λ (o : Contains (i ∷ []) j). absurd (apart (one_only i j o)))
            (Contains-append_cases rest (i ∷ []) j (subst (λ l. Contains l j) e (m.among j (λ w. n (sum_set_other ss i s j apart ∙ w)))));
        there = λ j c. (let h = m.there j (subst (λ l. Contains l j) (sym e) (Contains-append_left rest (i ∷ []) j c)) in omega (arith, length-set ss i s));
      }

pub marked : (touched : List ℕ) (i : ℕ) → Contains (touched ++ i ∷ []) i
marked touched i = Contains-append_right touched (i ∷ []) i (0, omega arith, refl)

pub new_mark : (ss : List RunningSum) (i : ℕ) (touched : List ℕ) → i < length ss → AreTouched ss touched → AreTouched ss (touched ++ i ∷ [])
new_mark ss i touched within m =
    record {
      among = λ j n. Contains-append_left touched (i ∷ []) j (m.among j n);
      there = λ j c. ⊎_elim (m.there j) (λ (o : Contains (i ∷ []) j). subst (λ q. q < length ss) (sym (one_only i j o)) within) (Contains-append_cases touched (i ∷ []) j c);
    }

pub touched_within : (ss : List RunningSum) (touched rest : List ℕ) (i : ℕ) → touched ≡ rest ++ i ∷ [] → AreTouched ss touched → i < length ss
touched_within ss touched rest i e m = m.there i (subst (λ l. Contains l i) (sym e) (marked rest i))

pub untouched_zero : (ss : List RunningSum) (touched : List ℕ) → touched ≡ [] → AreTouched ss touched → (j : ℕ) → sum_at ss j ≡ Untouched
untouched_zero ss touched e m j = untouched_or_not (sum_at ss j) (λ n. let c = subst (λ l. Contains l j) e (m.among j n) in (let within = c.1 in omega arith))

pub zero_more : (ss : List RunningSum) → ((j : ℕ) → sum_at ss j ≡ Untouched) → (j : ℕ) → sum_at (ss ++ Untouched ∷ []) j ≡ Untouched
zero_more [] z zero = refl
zero_more [] z (suc j) = refl
zero_more (x ∷ ss) z zero = z 0
zero_more (x ∷ ss) z (suc j) = zero_more ss (λ i. z (suc i)) j

pub kept_in_order : (ss : List RunningSum) (touched ordered : List ℕ) → IsPermutation touched ordered → AreTouched ss touched → AreTouched ss ordered
kept_in_order ss touched ordered moved m =
    record {
      among = λ j n. Contains-permutation touched ordered j moved (m.among j n);
      there = λ j c. m.there j (Contains-permutation ordered touched j (IsPermutation-sym touched ordered moved) c);
    }

-- ---- what a call says

pub if_put : {A E : Type 0} {P Q : A → Type 0} (r : Result A E) → IfOk r P → ((a : A) → P a → Q a) → IfOk r Q
if_put (Ok a) p f = f a p
if_put (Err e) p f = tt
