-- Runs and first faults over the pairs of a list stand for those over all indices, where 0 does
-- nothing.
use Rattle.std.proofs.Common.{◌≡◌, ◌≢◌, ℕ, zero, suc, ◌+◌, ◌<◌, ◌≤◌, ◌∙◌, sym, ap, ap₂, subst, refl, arith, ⊎_elim, List, [], ◌∷◌, length, drop, get_or, Option, Some, None}
use Rattle.std.specs.Prelude.{if◌then◌else◌, option_and_then}
use Rattle.std.specs.Option.{option_or}
use Rattle.std.proofs.lemmas.Bool.{cases_lt, eq-eqb, ne_eqb}
use Rattle.exact_numbers.specs.Rational.{ℚ, zero_ℚ}
use Rattle.linear_program.specs.Linear.{value_at}
use Rattle.certificates.specs.Checked.{run}
use Rattle.certificates.specs.Verdict.{first_fault}
use Rattle.linear_program.proofs.Elements.{elements_at}
use Rattle.linear_program.specs.Numbers.{Pair, number_of, spread, number_value}
use Rattle.linear_program.proofs.ListLemmas.{rest_of}
use Rattle.exact_checks.specs.Leaves.{AreIndices, run_pairs}
use Rattle.exact_numbers.proofs.OptionLemmas.{or_assoc, or_none}

-- ---- the numbers of pairs
pub spread_at : (m : ℕ) (ps : List Pair) (i : ℕ) → i < m → value_at (spread m ps) i ≡ number_of ps i zero_ℚ
unfolding spread
spread_at m ps i l = let same : 0 + i ≡ i = omega arith in elements_at (λ k. number_of ps k zero_ℚ) 0 m i zero_ℚ l ∙ ap (λ k. number_of ps k zero_ℚ) same

pub here_number : (p : Pair) (ps : List Pair) (x : ℚ) → number_of (p ∷ ps) p.0 x ≡ number_of ps p.0 (number_value p.1)
unfolding number_of
here_number p ps x = ap (λ b. number_of ps p.0 (if b then number_value p.1 else x)) (eq-eqb p.0 p.0 refl)

pub other_number : (p : Pair) (ps : List Pair) (i : ℕ) (x : ℚ) → p.0 ≢ i → number_of (p ∷ ps) i x ≡ number_of ps i x
unfolding number_of
other_number p ps i x n = ap (λ b. number_of ps i (if b then number_value p.1 else x)) (ne_eqb p.0 i n)

pub before_number : (from n : ℕ) (ps : List Pair) (i : ℕ) (x : ℚ) → AreIndices from n ps → i < from → number_of ps i x ≡ x
unfolding number_of AreIndices
before_number from n [] i x h l = refl
before_number from n (p ∷ ps) i x h l = other_number p ps i x (λ e. omega (arith, h.0, e)) ∙ before_number (suc p.0) n ps i x h.2 (omega (arith, h.0))

-- ---- the pairs that are left
module _ (n : ℕ) (ps : List Pair) (k from : ℕ) (fine : AreIndices from n (drop k ps)) (p : Pair) (l : k < length ps) (is : p ≡ get_or ps k p) where
  fine_here : AreIndices from n (p ∷ drop (k + 1) ps)
  fine_here = subst (AreIndices from n) (rest_of ps k p l is) fine

  pub pairs_next : AreIndices (suc p.0) n (drop (k + 1) ps)
  unfolding AreIndices
  pairs_next = fine_here.2

  pub pair_within : p.0 < n
  unfolding AreIndices
  pair_within = fine_here.1

-- ---- runs
abbrev pub by_number : (ℚ → ℕ → ℚ → Option ℚ) → (ℕ → ℚ) → ℚ → ℕ → Option ℚ
by_number step y s i = step s i (y i)

pub run_pairs_none : (step : ℚ → ℕ → ℚ → Option ℚ) (ps : List Pair) → run_pairs step None ps ≡ None
run_pairs_none step [] = refl
run_pairs_none step (p ∷ ps) = run_pairs_none step ps

-- 0 changes no sum of this kind, and each step leads to a sum of this kind
pub record IsStillAtZero (step : ℚ → ℕ → ℚ → Option ℚ) (good : ℚ → Type 0) : Type 0 where
  pub still : (s : ℚ) (i : ℕ) → good s → step s i zero_ℚ ≡ Some s
  pub kept : (s r : ℚ) (i : ℕ) (v : ℚ) → good s → step s i v ≡ Some r → good r

module _ (step : ℚ → ℕ → ℚ → Option ℚ) (good : ℚ → Type 0) (at_zero : IsStillAtZero step good) (y : ℕ → ℚ) (start : ℚ) where
  abbrev pub IsGood : Option ℚ → Type 0
  IsGood o = (s : ℚ) → o ≡ Some s → good s

  pub reached : ℕ → Option ℚ
  reached n = run (by_number step y) start n

  one_more : (i : ℕ) → reached (suc i) ≡ option_and_then (λ s. step s i (y i)) (reached i)
  unfolding run reached
  one_more i = refl

  still_one : (i : ℕ) (o : Option ℚ) → IsGood o → y i ≡ zero_ℚ → option_and_then (λ s. step s i (y i)) o ≡ o
  still_one i None g e = refl
  still_one i (Some s) g e = ap (step s i) e ∙ at_zero.still s i (g s refl)

  -- indices with the number 0 change nothing
  stays : (from to : ℕ) → from ≤ to → ((i : ℕ) → from ≤ i → i < to → y i ≡ zero_ℚ) → IsGood (reached from) → reached to ≡ reached from
  stays from zero l h g = (let same : 0 ≡ from = omega arith in ap reached same)
  stays from (suc to) l h g =
      ⊎_elim
      (λ (a : from < suc to).
      let before = stays from to (omega arith) (λ i p q. h i p (omega arith)) g in
      one_more to ∙ still_one to (reached to) (λ s e. g s (sym before ∙ e)) (h to (omega arith) (omega arith)) ∙ before)
      (λ (b : suc to ≤ from). let same : suc to ≡ from = omega arith in ap reached same)
      (cases_lt from (suc to))

  good_step : (i : ℕ) (v : ℚ) (o : Option ℚ) → IsGood o → IsGood (option_and_then (λ s. step s i v) o)
  good_step i v None g s e = absurd (cc)
  good_step i v (Some t) g s e = at_zero.kept t s i v (g t refl) e

  pub paired : (from n : ℕ) (ps : List Pair) → AreIndices from n ps → from ≤ n
      → ((i : ℕ) → from ≤ i → i < n → y i ≡ number_of ps i zero_ℚ) → IsGood (reached from)
      → reached n ≡ run_pairs step (reached from) ps
  unfolding AreIndices number_of
  paired from n [] ok l same g = stays from n l same g
  paired from n (p ∷ ps) ok l same g =
      let at : y p.0 ≡ number_value p.1 = same p.0 ok.0 ok.1 ∙ here_number p ps zero_ℚ ∙ before_number (suc p.0) n ps p.0 (number_value p.1) ok.2 (omega arith) in
      let left = stays from p.0 ok.0 (λ i a b. same i a (omega (arith, ok.1)) ∙ other_number p ps i zero_ℚ (λ x. omega (arith, x)) ∙ before_number (suc p.0) n ps i zero_ℚ ok.2 (omega arith)) g in
      let moved : reached (suc p.0) ≡ option_and_then (λ s. step s p.0 (number_value p.1)) (reached from) =
      one_more p.0 ∙ ap₂ (λ v o. option_and_then (λ s. step s p.0 v) o) at left in
      paired (suc p.0) n ps ok.2 (omega (arith, ok.1)) (λ i a b. same i (omega (arith, ok.0)) b ∙ other_number p ps i zero_ℚ (λ x. omega (arith, x)))
      (λ s e. good_step p.0 (number_value p.1) (reached from) g s (sym moved ∙ e))
      ∙ ap (λ o. run_pairs step o ps) moved

  -- from the start, over all numbers of a list
  pub all_paired : (n : ℕ) (ps : List Pair) → AreIndices 0 n ps → ((i : ℕ) → i < n → y i ≡ number_of ps i zero_ℚ) → good start → run (by_number step y) start n ≡ run_pairs step (Some start) ps
  unfolding reached run
  all_paired n ps ok same g = paired 0 n ps ok (omega arith) (λ i a b. same i b) (λ s e. subst good (let is : start ≡ s = cc in is) g)

-- ---- first faults
-- the first fault of pairs
abbrev pub first_in : {V : Type 0} → (ℕ → ℚ → Option V) → List Pair → Option V
first_in act [] = None
first_in act (p ∷ ps) = option_or (act p.0 (number_value p.1)) (first_in act ps)

module _ {V : Type 0} (act : ℕ → ℚ → Option V) (still : (i : ℕ) → act i zero_ℚ ≡ None) (y : ℕ → ℚ) where
  abbrev pub fault_of : ℕ → Option V
  fault_of i = act i (y i)

  none_between : (from to : ℕ) → from ≤ to → ((i : ℕ) → from ≤ i → i < to → y i ≡ zero_ℚ) → first_fault fault_of to ≡ first_fault fault_of from
  unfolding first_fault
  none_between from zero l h = (let same : 0 ≡ from = omega arith in ap (first_fault fault_of) same)
  none_between from (suc to) l h =
      ⊎_elim
      (λ (a : from < suc to).
      ap (option_or (first_fault fault_of to)) (ap (act to) (h to (omega arith) (omega arith)) ∙ still to)
      ∙ or_none (first_fault fault_of to) ∙ none_between from to (omega arith) (λ i p q. h i p (omega arith)))
      (λ (b : suc to ≤ from). let same : suc to ≡ from = omega arith in ap (first_fault fault_of) same)
      (cases_lt from (suc to))

  first_paired : (from n : ℕ) (ps : List Pair) → AreIndices from n ps → from ≤ n
      → ((i : ℕ) → from ≤ i → i < n → y i ≡ number_of ps i zero_ℚ)
      → first_fault fault_of n ≡ option_or (first_fault fault_of from) (first_in act ps)
  unfolding AreIndices number_of first_fault
  first_paired from n [] ok l same = none_between from n l same ∙ sym (or_none (first_fault fault_of from))
  first_paired from n (p ∷ ps) ok l same =
      let at : y p.0 ≡ number_value p.1 = same p.0 ok.0 ok.1 ∙ here_number p ps zero_ℚ ∙ before_number (suc p.0) n ps p.0 (number_value p.1) ok.2 (omega arith) in
      let left = none_between from p.0 ok.0 (λ i a b. same i a (omega (arith, ok.1)) ∙ other_number p ps i zero_ℚ (λ x. omega (arith, x)) ∙ before_number (suc p.0) n ps i zero_ℚ ok.2 (omega arith)) in
      first_paired (suc p.0) n ps ok.2 (omega (arith, ok.1)) (λ i a b. same i (omega (arith, ok.0)) b ∙ other_number p ps i zero_ℚ (λ x. omega (arith, x)))
      ∙ ap₂ (λ o v. option_or (option_or o (act p.0 v)) (first_in act ps)) left at
      ∙ or_assoc (first_fault fault_of from) (act p.0 (number_value p.1)) (first_in act ps)

  pub all_first : (n : ℕ) (ps : List Pair) → AreIndices 0 n ps → ((i : ℕ) → i < n → y i ≡ number_of ps i zero_ℚ) → first_fault fault_of n ≡ first_in act ps
  unfolding first_fault
  all_first n ps ok same = first_paired 0 n ps ok (omega arith) (λ i a b. same i b)
