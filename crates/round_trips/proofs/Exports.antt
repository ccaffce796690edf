-- The numbers of the program that a linear program is exported as are decimals.
use Rattle.std.proofs.Common.{◌≡◌, if◌then◌else◌, ◌≢◌, ◌∙◌, ⊎_elim, ℕ, zero, suc, ◌<◌, ◌≤◌, ◌^◌, Bool, true, false}
use Rattle.std.proofs.Common.{cond, nat_eq, List, [], ◌∷◌, ◌++◌, get_or, Option, Some, None, pos, IsTrue, refl, sym, ap}
use Rattle.std.proofs.Common.{subst, arith}
use Rattle.std.specs.Prelude.{All, is_some, ◌||◌}
use Rattle.std.proofs.Math.ListN.{get_or-append}
use Rattle.std.proofs.lemmas.Bool.{cases_lt, eq-eqb}
use Rattle.std.proofs.lemmas.List.{length-append}
use Rattle.std.proofs.lemmas.List.Elements.{All-head, All-tail}
use Rattle.exact_numbers.specs.Rational.{ℚ, zero_ℚ, one_ℚ, whole, neg_ℚ, ◌-ℚ◌, ◌*ℚ◌, is_zero}
use Rattle.exact_numbers.proofs.RationalLaws.{*ℚ_zero, *ℚ_one, *ℚ-neg, +ℚ-neg, -ℚ_lem}
use Rattle.exact_numbers.proofs.Ring.{ring, v, num, ◌⊖◌, ◌⊗◌, opp}
use Rattle.exact_numbers.specs.Values.{FitsDec}
use Rattle.linear_program.specs.Linear.{Form, Row, no_row}
use Rattle.mps_model.specs.declared.kinds.RowKind.TheVariants.{N}
use Rattle.scaled_program.specs.Fits.{IfBoth, IfSide, RangeFits, RowFits, ScaledFits, SideFits}
use Rattle.scaled_program.specs.Factor.{coefficients_below, objective_numbers}
use Rattle.scaled_program.specs.Program.{exported_rows, nonzero, range_of, scaled_row, scaled_side, tie, z_form, z_variable, is_exported}
use Rattle.scaled_program.specs.ExportedProgram.{kind_of_row, rhs_of, two_sided}
use Rattle.exact_numbers.proofs.Fitting.{neg_fits, one_fits, whole_fits, zero_fits}
use Rattle.round_trips.specs.Exportable.{HasDecimalBounds}
use Rattle.round_trips.proofs.ProgramParts.{exported_all}
use Rattle.round_trips.proofs.Whole.{IfFits, IsWritten}

-- ---- numbers

nonzero_fits : (x : ℚ) → FitsDec x → IfFits (nonzero x)
nonzero_fits x h = by (is_zero x)
  where
    by : (b : Bool) → IfFits (if b then None else Some x)
    by true = tt
    by false = h

there_fits : (x : ℚ) → IfSide (λ r. FitsDec x) (nonzero x) → IfFits (nonzero x)
there_fits x h = by (is_zero x) h
  where
    by : (b : Bool) → IfSide (λ r. FitsDec x) (if b then None else Some x) → IfFits (if b then None else Some x)
    by true g = tt
    by false g = g

below_fits : (P : ℚ → Type 0) (c : ℕ → ℚ) (n : ℕ) → All P (coefficients_below c n) → (j : ℕ) → j < n → P (c j)
below_fits P c zero h j l = absurd (omega (arith, l))
below_fits P c (suc n) h j l =
    ⊎_elim
    (λ (e : j < n). below_fits P c n (λ i d lt. subst P (get_or-append (coefficients_below c n) (c n ∷ []) d i lt) (h i d (omega (arith, lt, length-append (coefficients_below c n) (c n ∷ []))))) j e)
    (λ (e : n ≤ j). let same : n ≡ j = omega (arith, e, l) in subst (λ i. P (c i)) same (last (coefficients_below c n) (c n) h))
    (cases_lt j n)
  where
    last : (xs : List ℚ) (x : ℚ) → All P (xs ++ x ∷ []) → P x
    last [] x g = All-head P x [] g
    last (y ∷ xs) x g = last xs x (All-tail P y (xs ++ x ∷ []) g)

-- ---- rows

scaled_fits : (k : ℕ) (constant : ℚ) (o : Option ℚ) → IfSide (SideFits k constant) o → IfSide FitsDec (scaled_side (whole (pos k)) constant o)
scaled_fits k constant None h = tt
scaled_fits k constant (Some s) h = h.scaled.dec

right_fits : (l u : Option ℚ) → IfSide FitsDec l → IfSide FitsDec u → IfFits (nonzero (rhs_of l u))
right_fits None None hl hu = nonzero_fits zero_ℚ zero_fits
right_fits None (Some u) hl hu = nonzero_fits u hu
right_fits (Some l) u hl hu = nonzero_fits l hl

range_fits : (l u : Option ℚ) → IfBoth (λ l u. FitsDec (u -ℚ l)) l u → IfFits (range_of l u)
range_fits None u h = tt
range_fits (Some l) None h = tt
range_fits (Some l) (Some u) h = there_fits (u -ℚ l) h

both_fit : (l u : Option ℚ) → IfBoth RangeFits l u → IfBoth (λ l u. FitsDec (u -ℚ l)) l u
both_fit None u h = tt
both_fit (Some l) None h = tt
both_fit (Some l) (Some u) h = by (nonzero (u -ℚ l)) h
  where
    by : (o : Option ℚ) → IfSide (λ r. RangeFits l u) o → IfSide (λ r. FitsDec (u -ℚ l)) o
    by None g = tt
    by (Some r) g = g.dec

two_not_none : (o : Option ℚ) → two_sided o ≢ N
two_not_none None same = absurd cc
two_not_none (Some r) same = absurd cc

sides_kept : (k constant : ℚ) (l u : Option ℚ) → IsTrue (is_some l || is_some u) → kind_of_row (scaled_side k constant l) (scaled_side k constant u) ≢ N
sides_kept k constant None None h e = absurd cc
sides_kept k constant None (Some u) h e = absurd cc
sides_kept k constant (Some l) None h e = absurd cc
sides_kept k constant (Some l) (Some u) h e = two_not_none (nonzero ((k *ℚ (u -ℚ constant)) -ℚ (k *ℚ (l -ℚ constant)))) e

-- a row with its factor
row_written : (n m k : ℕ) (r : Row) → ((j : ℕ) → n ≤ j → r.body.coefficient j ≡ zero_ℚ) → IsTrue (is_exported r) → RowFits n r k → IsWritten m (scaled_row k r)
row_written n m k r past exported fits =
    let q = whole (pos k) in
    let lower = scaled_fits k r.body.constant r.side.lower fits.lower in
    let upper = scaled_fits k r.body.constant r.side.upper fits.upper in
    let low = scaled_side q r.body.constant r.side.lower in
    let high = scaled_side q r.body.constant r.side.upper in
    record {
      coefficients = λ j lt. ⊎_elim
          (λ (e : j < n). nonzero_fits (q *ℚ r.body.coefficient j) (below_fits (ScaledFits k) r.body.coefficient n fits.coefficients j e).dec)
          (λ (e : n ≤ j). nonzero_fits (q *ℚ r.body.coefficient j) (subst FitsDec (sym (ap (λ (x : ℚ). q *ℚ x) (past j e) ∙ *ℚ_zero q)) zero_fits))
          (cases_lt j n);
      right = right_fits low high lower upper;
      range = range_fits low high (both_fit low high fits.range);
      sided = sides_kept q r.body.constant r.side.lower r.side.upper exported;
    }

-- all rows
pub rows_written : (n m : ℕ) (factor : ℕ → ℕ) (rs : List Row) → All (λ r. (j : ℕ) → n ≤ j → r.body.coefficient j ≡ zero_ℚ) rs
    → ((j : ℕ) → IsTrue (is_exported (get_or rs j no_row)) → RowFits n (get_or rs j no_row) (factor j)) → All (IsWritten m) (exported_rows factor 0 rs)
rows_written n m factor rs past fits = exported_all (IsWritten m) factor 0 rs (λ j k e lt is. let same : j ≡ k = omega (arith, e) in
    row_written n m (factor k) (get_or rs j no_row) (past j no_row lt) is (subst (λ i. RowFits n (get_or rs j no_row) (factor i)) same (fits j is)))

-- ---- a tied objective

-- the tie, times g
tie_side : (g : ℕ) (c : ℚ) → whole (pos g) *ℚ (zero_ℚ -ℚ c) ≡ neg_ℚ (whole (pos g) *ℚ c)
tie_side g c = ring (whole (pos g) ∷ c ∷ []) (v 0 ⊗ (num (pos 0) ⊖ v 1)) (opp (v 0 ⊗ v 1)) refl

tie_one : (g : ℕ) → whole (pos g) *ℚ neg_ℚ one_ℚ ≡ neg_ℚ (whole (pos g))
tie_one g = *ℚ-neg (whole (pos g)) one_ℚ ∙ ap neg_ℚ (*ℚ_one (whole (pos g)))

same_less : (x : ℚ) → x -ℚ x ≡ zero_ℚ
same_less x = -ℚ_lem x x ∙ +ℚ-neg x

pub tie_written : (n g : ℕ) (objective : Form) → g < 2 ^ 127 → All (ScaledFits g) (objective_numbers n objective) → IsWritten (suc n) (scaled_row g (tie n objective))
tie_written n g objective few parts =
    let q = whole (pos g) in
    let side : FitsDec (q *ℚ (zero_ℚ -ℚ objective.constant)) =
    subst FitsDec (sym (tie_side g objective.constant)) (neg_fits (q *ℚ objective.constant)
    (All-head (ScaledFits g) objective.constant (coefficients_below objective.coefficient n) parts).dec) in
    let costs = All-tail (ScaledFits g) objective.constant (coefficients_below objective.coefficient n) parts in
    let s = q *ℚ (zero_ℚ -ℚ objective.constant) in
    record {
      coefficients = λ j lt. at j lt (nat_eq j n) refl costs;
      right = nonzero_fits s side;
      range = nonzero_fits (s -ℚ s) (subst FitsDec (sym (same_less s)) zero_fits);
      sided = two_not_none (nonzero (s -ℚ s));
    }
  where
    at : (j : ℕ) → j < suc n → (b : Bool) → nat_eq j n ≡ b → All (ScaledFits g)
        (coefficients_below objective.coefficient n) → IfFits
        (nonzero (whole (pos g) *ℚ cond b (neg_ℚ one_ℚ) (objective.coefficient j)))
    at j lt true e costs = nonzero_fits (whole (pos g) *ℚ neg_ℚ one_ℚ) (subst FitsDec (sym (tie_one g)) (neg_fits (whole (pos g)) (whole_fits (pos g) few)))
    at j lt false e costs =
        let other : j ≢ n = λ same. absurd (let is = eq-eqb j n same in cc) in
        nonzero_fits (whole (pos g) *ℚ objective.coefficient j) (below_fits (ScaledFits g) objective.coefficient n costs j (omega (arith, lt, other))).dec

pub z_costs : (n j : ℕ) → IfFits (nonzero ((z_form n).coefficient j))
z_costs n j = by (nat_eq j n)
  where
    by : (b : Bool) → IfFits (nonzero (cond b one_ℚ zero_ℚ))
    by true = nonzero_fits one_ℚ one_fits
    by false = nonzero_fits zero_ℚ zero_fits

pub z_constant : IfFits (nonzero (neg_ℚ zero_ℚ))
z_constant = nonzero_fits (neg_ℚ zero_ℚ) (neg_fits zero_ℚ zero_fits)

-- ---- a decimal objective

pub costs_fit : (n : ℕ) (objective : Form) → All FitsDec (objective_numbers n objective) → (j : ℕ) → j < n → IfFits (nonzero (objective.coefficient j))
costs_fit n objective h j lt = nonzero_fits (objective.coefficient j)
    (below_fits FitsDec objective.coefficient n (All-tail FitsDec objective.constant
    (coefficients_below objective.coefficient n) h) j lt)

pub constant_fits : (n : ℕ) (objective : Form) → All FitsDec (objective_numbers n objective) → IfFits (nonzero (neg_ℚ objective.constant))
constant_fits n objective h = nonzero_fits (neg_ℚ objective.constant) (neg_fits objective.constant (All-head FitsDec objective.constant (coefficients_below objective.coefficient n) h))

-- ---- bounds

pub z_decimal : HasDecimalBounds z_variable
z_decimal = record { lower = tt; upper = tt }
