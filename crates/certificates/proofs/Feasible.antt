-- A point without faults is relaxed feasible.
use Rattle.std.proofs.Common.{◌≡◌, ℕ, sym, subst, refl, List, All, ◌<◌, get_or, Bool, true, false, Option, Some, None}
use Rattle.std.proofs.lemmas.List.{get_or_default}
use Rattle.std.specs.Prelude.{if◌then◌else◌}
use Rattle.exact_numbers.specs.Rational.{ℚ}
use Rattle.linear_program.specs.Linear.{Interval, Row, Linear, IsInside, IsRelaxed, RowHolds, value_at, variable_count, no_row, row_count, row_at}
use Rattle.linear_program.proofs.Sides.{AtLeast, AtMost}
use Rattle.certificates.specs.Points.{bounds_of}
use Rattle.certificates.specs.Verdict.{row_broken, bound_broken, too_wide, at_row, sides_fit, is_inside, is_not_below}
use Rattle.certificates.specs.Verdict.{is_not_above, first_fault, row_fault, row_check, bound_fault, run_form}
use Rattle.certificates.specs.Verdict.{point_fault}
use Rattle.exact_numbers.proofs.Tests.{option_or-none}
use Rattle.std.proofs.lemmas.Bool.{and_parts}
use Rattle.certificates.proofs.Checks.{at_most_yes, if_none, no_fault}
use Rattle.certificates.proofs.Weak.{form_some}

pub inside_yes : (v : ℚ) (i : Interval) → is_inside v i ≡ true → IsInside i v
inside_yes v i h =
    let both = and_parts (is_not_below i.lower v) (is_not_above i.upper v) h in
    record { above = low i.lower both.0; below = high i.upper both.1 }
  where
    low : (o : Option ℚ) → is_not_below o v ≡ true → AtLeast o v
    low None e = tt
    low (Some s) e = at_most_yes s v e

    high : (o : Option ℚ) → is_not_above o v ≡ true → AtMost o v
    high None e = tt
    high (Some s) e = at_most_yes v s e

row_inside : (i : ℕ) (s : Interval) (o : Option ℚ) → row_check i s o ≡ None → (r : ℚ) × (o ≡ Some r) × IsInside s r
row_inside i s None h = absurd (cc)
row_inside i s (Some v) h = (v, refl, inside_yes v s (by (sides_fit s) (is_inside v s) h))
  where
    by : (a b : Bool) → (if a then (if b then None else Some (row_broken i)) else Some (too_wide (at_row i))) ≡ None → b ≡ true
    by true b h = if_none b (row_broken i) h
    by false b h = absurd (cc)

-- the rows of a program, one by one
pub all_rows : (f : Linear) (P : Row → Type 0) → ((i : ℕ) → i < row_count f → P (get_or f.rows i no_row)) → All P f.rows
all_rows f P h i d l = subst P (get_or_default f.rows i no_row d l) (h i l)

-- no fault at a row, or at a bound
module _ (f : Linear) (xs : List ℚ) where
  pub row_met : (i : ℕ) → row_fault f (value_at xs) i ≡ None → RowHolds (variable_count f) xs (row_at f i)
  unfolding row_fault
  row_met i h =
      let w = row_inside i (row_at f i).side (run_form (variable_count f) (row_at f i).body (value_at xs)) h in
      subst (λ z. IsInside (row_at f i).side z) (sym (form_some (variable_count f) (row_at f i).body xs w.0 w.1)) w.2

  pub bound_met : (j : ℕ) → bound_fault f (value_at xs) j ≡ None → IsInside (bounds_of f j) (value_at xs j)
  unfolding bound_fault
  bound_met j h = inside_yes (value_at xs j) (bounds_of f j) (if_none (is_inside (value_at xs j) (bounds_of f j)) (bound_broken j) h)

-- none at a row and none at a bound
pub relaxed_of : (f : Linear) (xs : List ℚ) → first_fault (row_fault f (value_at xs)) (row_count f) ≡ None → ((j : ℕ) → j < variable_count f → bound_fault f (value_at xs) j ≡ None) → IsRelaxed f xs
relaxed_of f xs h k =
    record {
      rows = all_rows f (RowHolds (variable_count f) xs) (λ i l. row_met f xs i (no_fault (row_fault f (value_at xs)) (row_count f) h i l));
      bounds = λ j l. bound_met f xs j (k j l);
    }

pub relaxed_at : (f : Linear) (xs : List ℚ) → point_fault f (value_at xs) ≡ None → IsRelaxed f xs
relaxed_at f xs h =
    let both = option_or-none (first_fault (row_fault f (value_at xs)) (row_count f)) (first_fault (bound_fault f (value_at xs)) (variable_count f)) h in
    relaxed_of f xs both.0 (no_fault (bound_fault f (value_at xs)) (variable_count f) both.1)
