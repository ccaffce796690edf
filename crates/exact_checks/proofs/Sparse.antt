-- A run over the terms of a list is a run over every index.
use Rattle.std.proofs.Common.{◌≡◌, ◌≢◌, ℕ, zero, suc, ◌+◌, ◌<◌, ◌≤◌, ◌-◌, ◌∙◌, ap, subst, refl, arith, List, [], ◌∷◌, drop, length, get_or, Option, Some, None}
use Rattle.std.specs.Prelude.{if◌then◌else◌, option_and_then}
use Rattle.std.proofs.lemmas.Bool.{ne_eqb}
use Rattle.std.proofs.lemmas.List.{drop_all}
use Rattle.exact_numbers.specs.Rational.{ℚ, zero_ℚ}
use Rattle.exact_numbers.proofs.RationalLaws.{zero-is_zero, not-is_zero}
use Rattle.exact_numbers.specs.Values.{frac_value}
use Rattle.certificates.specs.Checked.{run}
use Rattle.exact_numbers.specs.Functions.{is_zero}
use Rattle.linear_program.specs.Coefs.{Term, found, value_or_zero, coef_in}
use Rattle.linear_program.proofs.PlaceTerms.{coef_there}
use Rattle.linear_program.proofs.ListLemmas.{rest_of}
use Rattle.exact_checks.specs.Terms.{AreTerms}

-- a step for the factor at an index, where it is not 0
abbrev pub dense : (ℚ → ℕ → ℚ → Option ℚ) → (ℕ → ℚ) → ℚ → ℕ → Option ℚ
dense step g s j = if is_zero (g j) then Some s else step s j (g j)

pub and_then_same : (o : Option ℚ) → option_and_then (λ (s : ℚ). Some s) o ≡ o
and_then_same None = refl
and_then_same (Some s) = refl

-- a step for each term
abbrev pub run_terms : (ℚ → ℕ → ℚ → Option ℚ) → Option ℚ → List Term → Option ℚ
run_terms step o [] = o
run_terms step o (t ∷ ts) = run_terms step (option_and_then (λ s. step s t.0 (frac_value t.1)) o) ts

pub elsewhere : (t : Term) (ts : List Term) (j : ℕ) → j ≢ t.0 → coef_in (t ∷ ts) j ≡ coef_in ts j
elsewhere t ts j h = ap (λ b. value_or_zero (if b then Some t.1 else found ts j)) (ne_eqb j t.0 h)

pub before : (from n : ℕ) (ts : List Term) (j : ℕ) → AreTerms from n ts → j < from → coef_in ts j ≡ zero_ℚ
unfolding AreTerms
before from n [] j h l = refl
before from n (t ∷ ts) j h l = elsewhere t ts j (λ e. omega (arith, h.0, e)) ∙ before (suc t.0) n ts j h.3 (omega (arith, h.0))

module _ (step : ℚ → ℕ → ℚ → Option ℚ) (g : ℕ → ℚ) (start : ℚ) where
  -- indices with the factor 0 change nothing
  skip : (from more : ℕ) → ((j : ℕ) → from ≤ j → j < from + more → g j ≡ zero_ℚ) → run (dense step g) start (from + more) ≡ run (dense step g) start from
  unfolding run
  skip from zero h = let e : from + 0 ≡ from = omega arith in ap (run (dense step g) start) e
  skip from (suc more) h =
      let e : from + suc more ≡ suc (from + more) = omega arith in
      ap (run (dense step g) start) e
      ∙ one (run (dense step g) start (from + more))
      ∙ skip from more (λ j a b. h j a (omega arith))
    where
      one : (o : Option ℚ) → option_and_then (λ s. dense step g s (from + more)) o ≡ o
      one None = refl
      one (Some s) = ap (λ b. if b then Some s else step s (from + more) (g (from + more))) (zero-is_zero (g (from + more)) (h (from + more) (omega arith) (omega arith)))

  -- from one index to a later one
  skip_to : (from to : ℕ) → from ≤ to → ((j : ℕ) → from ≤ j → j < to → g j ≡ zero_ℚ) → run (dense step g) start to ≡ run (dense step g) start from
  skip_to from to l h =
      let e : to ≡ from + (to - from) = omega arith in
      ap (run (dense step g) start) e ∙ skip from (to - from) (λ j a b. h j a (omega arith))

  pub sparse : (from n : ℕ) (ts : List Term) → AreTerms from n ts → from ≤ n
      → ((j : ℕ) → from ≤ j → j < n → g j ≡ coef_in ts j) → run (dense step g) start n
      ≡ run_terms step (run (dense step g) start from) ts
  unfolding run AreTerms
  sparse from n [] ok l same = skip_to from n l same
  sparse from n (t ∷ ts) ok l same =
      let at : g t.0 ≡ frac_value t.1 = same t.0 ok.0 ok.1 ∙ coef_there t ts in
      let left = skip_to from t.0 ok.0 (λ j a b. same j a (omega (arith, ok.1)) ∙ elsewhere t ts j (λ x. omega (arith, x)) ∙ before (suc t.0) n ts j ok.3 (omega arith)) in
      sparse (suc t.0) n ts ok.3 (omega (arith, ok.1)) (λ j a b. same j (omega (arith, ok.0)) b ∙ elsewhere t ts j (λ x. omega (arith, x)))
      ∙ ap (λ o. run_terms step o ts)
      (taken (run (dense step g) start t.0) at
      ∙ ap (option_and_then (λ s. step s t.0 (frac_value t.1))) left)
    where
      taken : (o : Option ℚ) → g t.0 ≡ frac_value t.1 → option_and_then (λ s. dense step g s t.0) o ≡ option_and_then (λ s. step s t.0 (frac_value t.1)) o
      taken None at = refl
      taken (Some s) at =
          ap (λ a. if is_zero a then Some s else step s t.0 a) at
          ∙ ap (λ b. if b then Some s else step s t.0 (frac_value t.1)) (not-is_zero (frac_value t.1) ok.2)

-- ---- a loop over terms: where it stands after k of them, with s so far, on the way to the answer
run_none : (step : ℚ → ℕ → ℚ → Option ℚ) (ts : List Term) → run_terms step None ts ≡ None
run_none step [] = refl
run_none step (t ∷ ts) = run_none step ts

pub record OnTheWay (step : ℚ → ℕ → ℚ → Option ℚ) (n : ℕ) (answer : Option ℚ) (ts : List Term) (k : ℕ) (s : ℚ) : Type 0 where
  pub rest : answer ≡ run_terms step (Some s) (drop k ts)
  pub from : ℕ
  pub fine : AreTerms from n (drop k ts)

module _ (step : ℚ → ℕ → ℚ → Option ℚ) (n : ℕ) where
  pub way_begins : (g : ℕ → ℚ) (s : ℚ) (ts : List Term) → AreTerms 0 n ts → ((j : ℕ) → j < n → g j ≡ coef_in ts j) → OnTheWay step n (run (dense step g) s n) ts 0 s
  unfolding run
  way_begins g s ts ok same = record { rest = sparse step g s 0 n ts ok (omega arith) (λ j a b. same j b); from = 0; fine = ok }

  module _ (answer : Option ℚ) (ts : List Term) (k : ℕ) (s : ℚ) (on : OnTheWay step n answer ts k s) where
    pub way_ends : length ts ≤ k → answer ≡ Some s
    way_ends l = on.rest ∙ ap (run_terms step (Some s)) (drop_all k ts l)

    module _ (t : Term) (l : k < length ts) (is : t ≡ get_or ts k t) where
      fine_next : AreTerms on.from n (t ∷ drop (k + 1) ts)
      fine_next = subst (AreTerms on.from n) (rest_of ts k t l is) on.fine

      pub way_index : t.0 < n
      unfolding AreTerms
      way_index = fine_next.1

      rest_next : answer ≡ run_terms step (step s t.0 (frac_value t.1)) (drop (k + 1) ts)
      rest_next = on.rest ∙ ap (run_terms step (Some s)) (rest_of ts k t l is)

      pub way_goes_on : (r : ℚ) → step s t.0 (frac_value t.1) ≡ Some r → OnTheWay step n answer ts (k + 1) r
      unfolding AreTerms
      way_goes_on r h = record { rest = rest_next ∙ ap (λ o. run_terms step o (drop (k + 1) ts)) h; from = suc t.0; fine = fine_next.3 }

      pub way_stops : step s t.0 (frac_value t.1) ≡ None → answer ≡ None
      way_stops h = rest_next ∙ ap (λ o. run_terms step o (drop (k + 1) ts)) h ∙ run_none step (drop (k + 1) ts)
