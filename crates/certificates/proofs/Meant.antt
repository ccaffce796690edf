-- A linear program means the problem that it states.
use Rattle.std.proofs.Common.{◌↔◌, ℕ, sym, subst, refl, List}
use Rattle.std.proofs.lemmas.Option.{same_Some}
use Rattle.exact_numbers.specs.Rational.{ℚ}
use Rattle.linear_program.specs.Linear.{Linear, IsInside, IsRelaxed as IsRelaxedProgram, RowHolds, no_row, row_at, variable_count}
use Rattle.certificates.specs.Means.{Means, problem_in}
use Rattle.certificates.specs.Problem.{IsConstraintBroken, IsRelaxed}
use Rattle.certificates.specs.Says.{IsRowBroken}
use Rattle.certificates.proofs.Feasible.{all_rows}

module _ (f : Linear) where
  relaxed : (xs : List ℚ) → IsRelaxed (problem_in f) xs ↔ IsRelaxedProgram f xs
  relaxed xs = (
    λ h.
        record {
          rows = all_rows f (RowHolds (variable_count f) xs) (λ i l. let m = h.met i l in subst (IsInside (row_at f i).side) (sym (same_Some _ m.0 m.1)) m.2);
          bounds = h.bounds;
        },
    λ h. record { met = λ i l. (_, refl, h.rows i no_row l); bounds = h.bounds },
  )

  rows : (xs : List ℚ) (i : ℕ) → IsConstraintBroken (problem_in f) xs i ↔ IsRowBroken f xs i
  rows xs i = (
    λ h. record { within = h.within; broken = λ ok. h.broken (subst (IsInside (row_at f i).side) (same_Some _ h.value h.has) ok) },
    λ h. record { within = h.within; value = _; has = refl; broken = h.broken },
  )

  pub meant : Means f (problem_in f)
  meant =
      record {
        constraints = refl;
        variables = refl;
        feasible = λ xs. (λ h. record { relaxed = (relaxed xs).0 h.relaxed; whole = h.whole }, λ h. record { relaxed = (relaxed xs).1 h.relaxed; whole = h.whole });
        relaxed = relaxed;
        rows = rows;
        bounds = λ xs j. (λ h. record { within = h.within; broken = h.broken }, λ h. record { within = h.within; broken = h.broken });
        whole = λ xs j. (λ h. record { within = h.within; asked = h.asked; broken = h.broken }, λ h. record { within = h.within; asked = h.asked; broken = h.broken });
        bodies = λ xs i l. (_, refl);
        there = refl;
        sense = refl;
        value = λ xs. refl;
      }
