-- The sides of variables, listed one by one.
use Rattle.std.proofs.Common.{◌≡◌, ℕ, zero, suc, ◌+◌, ◌<◌, ◌≤◌, ◌∙◌, sym, ap, ap₂, subst, refl, arith, List, [], ◌∷◌, ◌++◌, length, length-append, reverse, ⊎_elim, Option, None, Some}
use Rattle.std.specs.Prelude.{slice_get}
use Rattle.exact_checks.specs.declared.form.Row.{Row}
use Rattle.std.specs.Option.{option_map_or}
use Rattle.std.proofs.Math.Path.{fun_ext}
use Rattle.std.proofs.lemmas.Bool.{cases_lt}
use Rattle.std.proofs.lemmas.List.{get_or_past}
use Rattle.std.proofs.lemmas.Option.{slice_get_past}
use Rattle.exact_numbers.specs.Rational.{ℚ}
use Rattle.linear_program.specs.Linear.{Interval, Linear, Variable, no_variable, variable_count}
use Rattle.certificates.specs.Points.{bounds_of}
use Rattle.exact_numbers.specs.declared.dec.Dec.{Dec}
use Rattle.linear_program.specs.declared.interval.Interval.{Interval as Sides}
use Rattle.linear_program.specs.Intervals.{interval_of}
use Rattle.exact_checks.specs.Lists.{bounds_in, side_listed}
use Rattle.exact_checks.specs.Terms.{side_value}
use Rattle.certificates.specs.Parts.{whole_part}
use Rattle.certificate_judge.specs.InsidePaths.{IsAt, IsPath, IsUnder, sides_of}
use Rattle.certificate_judge.specs.declared.path.Path.{Path}

-- a list with one side more
side_before : (xs : List (Option Dec)) (o : Option Dec) (j : ℕ) → j < length xs → side_listed (xs ++ o ∷ []) j ≡ side_listed xs j
unfolding side_listed
side_before [] o j h = absurd (omega arith)
side_before (x ∷ xs) o zero h = refl
side_before (x ∷ xs) o (suc j) h = side_before xs o j (omega arith)

side_last : (xs : List (Option Dec)) (o : Option Dec) (j : ℕ) → j ≡ length xs → side_listed (xs ++ o ∷ []) j ≡ side_value o
unfolding side_listed
side_last [] o zero h = refl
side_last [] o (suc j) h = absurd (omega arith)
side_last (x ∷ xs) o zero h = absurd (omega arith)
side_last (x ∷ xs) o (suc j) h = side_last xs o j (omega arith)

-- one side of each of the first n variables
pub record AreSides (side : ℕ → Option ℚ) (sides : List (Option Dec)) (n : ℕ) : Type 0 where
  pub count : length sides ≡ n
  pub values : (j : ℕ) → j < n → side_listed sides j ≡ side j

no_sides : (side : ℕ → Option ℚ) (sides : List (Option Dec)) → sides ≡ [] → AreSides side sides 0
no_sides side sides e = record { count = ap length e; values = λ j l. absurd (omega arith) }

one_side : (side : ℕ → Option ℚ) (sides new : List (Option Dec)) (n : ℕ) (o : Option Dec) → AreSides side sides n → new ≡ sides ++ o ∷ [] → side_value o ≡ side n → AreSides side new (n + 1)
one_side side sides new n o a e is =
    let longer : length new ≡ length sides + 1 = ap length e ∙ length-append sides (o ∷ []) in
    record {
      count = omega (arith, longer, a.count);
      values = λ j l.
          ap (λ xs. side_listed xs j) e
          ∙ ⊎_elim
          (λ (b : j < n). side_before sides o j (omega (arith, b, a.count)) ∙ a.values j b)
          (λ (b : n ≤ j). let last : j ≡ n = omega arith in side_last sides o j (last ∙ sym a.count) ∙ is ∙ ap side (sym last))
          (cases_lt j n);
    }

module _ (f : Linear) where
  abbrev lower_of : ℕ → Option ℚ
  lower_of j = (bounds_of f j).lower

  abbrev upper_of : ℕ → Option ℚ
  upper_of j = (bounds_of f j).upper

  abbrev pub AreLowerSoFar : List (Option Dec) → ℕ → Type 0
  AreLowerSoFar sides n = AreSides lower_of sides n

  abbrev pub AreUpperSoFar : List (Option Dec) → ℕ → Type 0
  AreUpperSoFar sides n = AreSides upper_of sides n

  pub no_lower : (sides : List (Option Dec)) → sides ≡ [] → AreLowerSoFar sides 0
  no_lower sides e = no_sides lower_of sides e

  pub no_upper : (sides : List (Option Dec)) → sides ≡ [] → AreUpperSoFar sides 0
  no_upper sides e = no_sides upper_of sides e

  pub one_lower : (sides new : List (Option Dec)) (n : ℕ) (s : Sides) → AreLowerSoFar sides n → new ≡ sides ++ s.lo ∷ [] → interval_of s ≡ bounds_of f n → AreLowerSoFar new (n + 1)
  one_lower sides new n s a e is = one_side lower_of sides new n s.lo a e (ap (λ (i : Interval). i.lower) is)

  pub one_upper : (sides new : List (Option Dec)) (n : ℕ) (s : Sides) → AreUpperSoFar sides n → new ≡ sides ++ s.hi ∷ [] → interval_of s ≡ bounds_of f n → AreUpperSoFar new (n + 1)
  one_upper sides new n s a e is = one_side upper_of sides new n s.hi a e (ap (λ (i : Interval). i.upper) is)

  -- two such lists say the bounds of the program, also past the last variable
  past : (lo hi : List (Option Dec)) → AreLowerSoFar lo (variable_count f) → AreUpperSoFar hi (variable_count f) → (j : ℕ) → variable_count f ≤ j → bounds_in lo hi j ≡ bounds_of f j
  unfolding side_listed
  past lo hi a b j l =
      ap₂ (λ u v. record { lower = option_map_or side_value u None; upper = option_map_or side_value v None })
      (slice_get_past lo j (subst (λ n. n ≤ j) (sym a.count) l))
      (slice_get_past hi j (subst (λ n. n ≤ j) (sym b.count) l))
      ∙ ap (λ (x : Variable). x.bound) (sym (get_or_past f.variables j no_variable l))

  sides_are_bounds : (lo hi : List (Option Dec)) → AreLowerSoFar lo (variable_count f) → AreUpperSoFar hi (variable_count f) → bounds_in lo hi ≡ bounds_of f
  sides_are_bounds lo hi a b = fun_ext (λ j. ⊎_elim (λ (l : j < variable_count f). ap₂
      (λ u v. record { lower = u; upper = v }) (a.values j l) (b.values j l)) (past lo hi a b j)
      (cases_lt j (variable_count f)))

  module _ (p : Path) (n : ℕ) (all : n ≡ variable_count f) (lower : AreLowerSoFar p.lo.items n)
      (upper : AreUpperSoFar p.hi.items n) (no_rows : p.added.items ≡ []) (no_lemmas : p.lemmas.items ≡ [])
      (no_steps : p.steps.items ≡ []) where
    pub path_begins : IsPath (variable_count f) p
    path_begins =
        record {
          lowers = lower.count ∙ all;
          uppers = upper.count ∙ all;
          steps = λ k d l. absurd (omega (arith, ap length no_steps));
          added = λ i r e. absurd (no_element i r (subst (λ rs. slice_get rs i ≡ Some r) no_rows e));
          lemmas = λ k d l. absurd (omega (arith, ap length no_lemmas));
        }
      where
        no_element : (i : ℕ) (r : Row) → slice_get {X = Row} [] i ≡ Some r → ⊥
        no_element i r e = cc

    pub at_begins : (v : ℚ) → IsAt (whole_part f v) [] p
    unfolding IsUnder
    at_begins v =
        subst (λ steps. IsUnder (whole_part f v) [] steps (sides_of p)) (sym (ap reverse no_steps))
        (sides_are_bounds p.lo.items p.hi.items (subst (AreLowerSoFar p.lo.items) all lower) (subst (AreUpperSoFar p.hi.items) all upper), no_rows, no_lemmas)

pub ruleset beginnings = (no_lower, no_upper, one_lower, one_upper, path_begins)
