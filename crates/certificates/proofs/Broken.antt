-- A point that is not feasible breaks some row or some bound, or some whole variable is not whole there.
use Rattle.std.proofs.Common.{◌≡◌, ◌∙◌, inl, inr, ◌⊎◌, ℕ, zero, suc, ◌<◌, sym, subst, refl, arith, Option, Some, None, List}
use Rattle.std.proofs.lemmas.Bool.{cases_lt}
use Rattle.std.proofs.lemmas.Option.{same_Some}
use Rattle.exact_numbers.specs.Rational.{ℚ, ◌≤ℚ◌, ◌<ℚ◌}
use Rattle.exact_numbers.proofs.RationalLaws.{le_or_lt, not_both}
use Rattle.linear_program.specs.Linear.{Interval, Linear, IsInside, IsRelaxed as IsRelaxedProgram, RowHolds, row_at, row_count, value_at, variable_count}
use Rattle.linear_program.proofs.Sides.{AtLeast, AtMost}
use Rattle.certificates.specs.Certificate.{whole_fault}
use Rattle.certificates.specs.Means.{Means}
use Rattle.certificates.specs.Points.{bounds_of}
use Rattle.certificates.specs.Problem.{Problem, IsBroken, IsFeasible, IsNotWhole, IsRelaxed}
use Rattle.certificates.specs.Says.{IsRowBroken, IsBoundBroken as IsBoundBrokenProgram}
use Rattle.certificates.proofs.Feasible.{all_rows}
use Rattle.certificates.proofs.Shown.{not_whole_says, whole_all}

-- ---- each side is met or not
above : (o : Option ℚ) (x : ℚ) → AtLeast o x ⊎ (¬ AtLeast o x)
above None x = inl tt
above (Some l) x = by (le_or_lt l x)
  where
    by : (l ≤ℚ x) ⊎ (x <ℚ l) → (l ≤ℚ x) ⊎ (¬ (l ≤ℚ x))
    by (inl h) = inl h
    by (inr h) = inr (λ g. not_both l x g h)

below : (o : Option ℚ) (x : ℚ) → AtMost o x ⊎ (¬ AtMost o x)
below None x = inl tt
below (Some u) x = by (le_or_lt x u)
  where
    by : (x ≤ℚ u) ⊎ (u <ℚ x) → (x ≤ℚ u) ⊎ (¬ (x ≤ℚ u))
    by (inl h) = inl h
    by (inr h) = inr (λ g. not_both x u g h)

pub inside_or_not : (s : Interval) (x : ℚ) → IsInside s x ⊎ (¬ IsInside s x)
inside_or_not s x = by (above s.lower x) (below s.upper x)
  where
    by : AtLeast s.lower x ⊎ (¬ AtLeast s.lower x) → AtMost s.upper x ⊎ (¬ AtMost s.upper x) → IsInside s x ⊎ (¬ IsInside s x)
    by (inl a) (inl b) = inl (record { above = a; below = b })
    by (inl a) (inr b) = inr (λ h. b h.below)
    by (inr a) b = inr (λ h. a h.above)

-- all of the first n, or one that is not
all_or_one : (P : ℕ → Type 0) → ((i : ℕ) → P i ⊎ (¬ P i)) → (n : ℕ) → ((i : ℕ) → i < n → P i) ⊎ ((i : ℕ) × (i < n) × (¬ P i))
all_or_one P dec zero = inl (λ i h. absurd (omega arith))
all_or_one P dec (suc n) = by (all_or_one P dec n) (dec n)
  where
    by : ((i : ℕ) → i < n → P i) ⊎ ((i : ℕ) × (i < n) × (¬ P i)) → P n ⊎ (¬ P n) → ((i : ℕ) → i < suc n → P i) ⊎ ((i : ℕ) × (i < suc n) × (¬ P i))
    by (inr found) d = inr (found.0, omega (arith, found.1), found.2)
    by (inl all) (inr no_last) = inr (n, omega arith, no_last)
    by (inl all) (inl last) = inl (λ i h. elim (cases_lt i n) [ inl l ↦ all i l | inr g ↦ subst P (omega (arith, h, g)) last ])

-- ---- a linear program
module _ (f : Linear) (xs : List ℚ) where
  abbrev IsMet : ℕ → Type 0
  IsMet i = RowHolds (variable_count f) xs (row_at f i)

  abbrev IsBetween : ℕ → Type 0
  IsBetween j = IsInside (bounds_of f j) (value_at xs j)

  abbrev pub IsProgramBroken : Type 0
  IsProgramBroken = ((i : ℕ) × IsRowBroken f xs i) ⊎ ((j : ℕ) × IsBoundBrokenProgram f xs j)

  pub relaxed_or_broken : IsRelaxedProgram f xs ⊎ IsProgramBroken
  relaxed_or_broken = by (all_or_one IsMet (λ i. inside_or_not _ _) (row_count f)) (all_or_one IsBetween (λ j. inside_or_not _ _) (variable_count f))
    where
      by : ((i : ℕ) → i < row_count f → IsMet i) ⊎ ((i : ℕ) × (i < row_count f) × (¬ IsMet i))
          → ((j : ℕ) → j < variable_count f → IsBetween j) ⊎ ((j : ℕ) × (j < variable_count f) × (¬ IsBetween j))
          → IsRelaxedProgram f xs ⊎ IsProgramBroken
      by (inr row) b = inr (inl (row.0, record { within = row.1; broken = row.2 }))
      by (inl rows) (inr bound) = inr (inr (bound.0, record { within = bound.1; broken = bound.2 }))
      by (inl rows) (inl bounds) = inl (record { rows = all_rows f (RowHolds (variable_count f) xs) rows; bounds = bounds })

-- ---- a problem that it means
module _ (f : Linear) (p : Problem) (means : Means f p) (xs : List ℚ) where
  pub broken_of : (¬ IsRelaxed p xs) → IsBroken p xs
  broken_of no_point = by (relaxed_or_broken f xs)
    where
      by : IsRelaxedProgram f xs ⊎ IsProgramBroken f xs → IsBroken p xs
      by (inl ok) = absurd (no_point ((means.relaxed xs).1 ok))
      by (inr (inl row)) = inl (row.0, (means.rows xs row.0).1 row.1)
      by (inr (inr bound)) = inr (bound.0, (means.bounds xs bound.0).1 bound.1)

  pub failed_of : (¬ IsFeasible p xs) → IsBroken p xs ⊎ ((j : ℕ) × IsNotWhole p xs j)
  failed_of no_point = by (whole_fault f (value_at xs)) refl
    where
      by : (o : Option ℕ) → whole_fault f (value_at xs) ≡ o → IsBroken p xs ⊎ ((j : ℕ) × IsNotWhole p xs j)
      by None e = inl (broken_of (λ ok. no_point ((means.feasible xs).1 (record { relaxed = (means.relaxed xs).0 ok; whole = whole_all f xs e }))))
      by (Some j) e = inr (j, (means.whole xs j).1 (rw e at (not_whole_says f xs)))

-- ---- any problem: a point that fails is not feasible
pub not_relaxed : (p : Problem) (xs : List ℚ) → IsBroken p xs → ¬ IsRelaxed p xs
not_relaxed p xs (inl (i, row)) ok =
    let m = ok.met i row.within in
    row.broken (subst (IsInside (p.side i)) (same_Some m.0 row.value (sym m.1 ∙ row.has)) m.2)
not_relaxed p xs (inr (j, bound)) ok = bound.broken (ok.bounds j bound.within)

pub not_feasible : (p : Problem) (xs : List ℚ) → IsBroken p xs ⊎ ((j : ℕ) × IsNotWhole p xs j) → ¬ IsFeasible p xs
not_feasible p xs (inl h) ok = not_relaxed p xs h ok.relaxed
not_feasible p xs (inr (j, h)) ok = h.broken (ok.whole j h.within h.asked)
