-- The sides that a program's rows and columns have.
use Rattle.std.proofs.Common.{◌≡◌, ℕ, zero, suc, ◌+◌, ◌<◌, ◌∙◌, sym, ap, refl, arith, Bool, true, false, cond, nat_eq}
use Rattle.std.proofs.Common.{List, [], ◌∷◌, ◌++◌, length, get_or, Option, Some, None, pos, int_lt, ◌≤ℤ◌, ◌⊎◌, ⊎_elim}
use Rattle.std.proofs.Common.{◌||◌, ◌&&◌}
use Rattle.std.proofs.lemmas.Bool.{eq-eqb, ne_eqb}
use Rattle.exact_numbers.specs.Rational.{ℚ, zero_ℚ, ◌+ℚ◌, ◌-ℚ◌, neg_ℚ, ◌≤ℚ◌}
use Rattle.exact_numbers.proofs.RationalLaws.{difference_above, zero_value}
use Rattle.exact_numbers.proofs.Values.{own_value, le_value}
use Rattle.std.proofs.lemmas.Int.{ints}
use Rattle.linear_program.specs.Linear.{Interval, AreOrdered, Variable}
use Rattle.mps_model.specs.declared.kinds.BoundKind.{BoundKind}
use Rattle.mps_model.specs.Mps.{row_sides, is_negative, size_of, Bound, sets, first_sides, sides_set, interval_set, has_whole_record}
use Rattle.mps_model.specs.declared.kinds.BoundKind.TheVariants.{Lo, Up, Fx, Fr, Mi, Pl}
use Rattle.scaled_program.specs.Program.{nonzero, range_of}
use Rattle.scaled_program.proofs.Sides.{difference_zero, nonzero_cases, there_and_back}
use Rattle.scaled_program.specs.ExportedProgram.{rhs_of, kind_of_row, two_sided, column_bounds, fixed_or_both, bound_record, bounds_of}

abbrev sides : Option ℚ → Option ℚ → Interval
sides l u = record { lower = l; upper = u }

-- a number at least 0 is its own size
above_not_negative : (x : ℚ) → zero_ℚ ≤ℚ x → is_negative x ≡ false
above_not_negative x h = by (is_negative x) refl (le_value (zero_value x.bottom x.above) (own_value x) h)
  where
    by : (b : Bool) → int_lt x.top (pos 0) ≡ b → pos 0 ≤ℤ x.top → int_lt x.top (pos 0) ≡ false
    by true e l = absurd (omega (arith, ints))
    by false e l = e

pub size_above : (x : ℚ) → zero_ℚ ≤ℚ x → size_of x ≡ x
size_above x h = ap (λ b. cond b (neg_ℚ x) x) (above_not_negative x h)

-- a row's kind, right side and range say its sides
pub row_sides_back : (l u : Option ℚ) → AreOrdered l u → row_sides (kind_of_row l u) (rhs_of l u) (range_of l u) ≡ sides l u
row_sides_back None None h = refl
row_sides_back None (Some u) h = refl
row_sides_back (Some l) None h = refl
row_sides_back (Some l) (Some u) h =
    ⊎_elim
    (λ (z : (nonzero (u -ℚ l) ≡ None) × (u -ℚ l ≡ zero_ℚ)). ap (λ o. row_sides (two_sided o) l o) z.0 ∙ ap (λ v. sides (Some l) (Some v)) (difference_zero l u z.1))
    (λ (s : nonzero (u -ℚ l) ≡ Some (u -ℚ l)). ap (λ o. row_sides (two_sided o) l o) s
    ∙ ap (λ v. sides (Some l) (Some v)) (ap (λ v. l +ℚ v) (size_above (u -ℚ l) (difference_above l u h))
    ∙ there_and_back l u))
    (nonzero_cases (u -ℚ l))

-- ---- columns
-- a record of another column sets nothing, and one of the column itself comes first
skip : (p j : ℕ) (kind : BoundKind) (v : ℚ) (rest : List (Bound ℚ)) → nat_eq j p ≡ false → sides_set p (bound_record kind j v ∷ rest) ≡ sides_set p rest
unfolding sides_set
skip p j kind v rest e = ap (λ b. cond b (first_sides (sets kind v) (sides_set p rest)) (sides_set p rest)) e

keep : (j : ℕ) (kind : BoundKind) (v : ℚ) (rest : List (Bound ℚ)) → sides_set j (bound_record kind j v ∷ rest) ≡ first_sides (sets kind v) (sides_set j rest)
unfolding sides_set
keep j kind v rest = ap (λ b. cond b (first_sides (sets kind v) (sides_set j rest)) (sides_set j rest)) (eq-eqb j j refl)

-- the records of column j say nothing of column p
skip_all : (p j : ℕ) (l u : Option ℚ) (rest : List (Bound ℚ)) → nat_eq j p ≡ false → sides_set p (column_bounds j l u ++ rest) ≡ sides_set p rest
skip_all p j None None rest e = skip p j Fr zero_ℚ rest e
skip_all p j None (Some u) rest e = skip p j Mi zero_ℚ (bound_record Up j u ∷ rest) e ∙ skip p j Up u rest e
skip_all p j (Some l) None rest e = skip p j Lo l (bound_record Pl j zero_ℚ ∷ rest) e ∙ skip p j Pl zero_ℚ rest e
skip_all p j (Some l) (Some u) rest e = by_range (nonzero (u -ℚ l))
  where
    by_range : (o : Option ℚ) → sides_set p (fixed_or_both j l u o ++ rest) ≡ sides_set p rest
    by_range None = skip p j Fx l rest e
    by_range (Some r) = skip p j Lo l (bound_record Up j u ∷ rest) e ∙ skip p j Up u rest e

-- they set both of its own sides
two_kept : (j : ℕ) (k n : BoundKind) (v w : ℚ) (rest : List (Bound ℚ))
    → sides_set j (bound_record k j v ∷ bound_record n j w ∷ rest)
    ≡ first_sides (sets k v) (first_sides (sets n w) (sides_set j rest))
two_kept j k n v w rest = keep j k v (bound_record n j w ∷ rest) ∙ ap (first_sides (sets k v)) (keep j n w rest)

own_sides : (j : ℕ) (l u : Option ℚ) (rest : List (Bound ℚ)) → interval_set (sides_set j (column_bounds j l u ++ rest)) ≡ sides l u
own_sides j None None rest = ap interval_set (keep j Fr zero_ℚ rest)
own_sides j None (Some u) rest = ap interval_set (two_kept j Mi Up zero_ℚ u rest)
own_sides j (Some l) None rest = ap interval_set (two_kept j Lo Pl l zero_ℚ rest)
own_sides j (Some l) (Some u) rest =
    ⊎_elim
    (λ (z : (nonzero (u -ℚ l) ≡ None) × (u -ℚ l ≡ zero_ℚ)). ap
    (λ o. interval_set (sides_set j (fixed_or_both j l u o ++ rest))) z.0 ∙ ap interval_set (keep j Fx l rest)
    ∙ ap (λ v. sides (Some l) (Some v)) (difference_zero l u z.1))
    (λ (s : nonzero (u -ℚ l) ≡ Some (u -ℚ l)). ap (λ o. interval_set (sides_set j (fixed_or_both j l u o ++ rest))) s ∙ ap interval_set (two_kept j Lo Up l u rest))
    (nonzero_cases (u -ℚ l))

pub column_sides_back : (vs : List Variable) (p j k : ℕ) (d : Variable) → p ≡ j + k → k < length vs → interval_set (sides_set p (bounds_of j vs)) ≡ (get_or vs k d).bound
unfolding bounds_of
column_sides_back [] p j k d e h = absurd (omega arith)
column_sides_back (v ∷ vs) p j zero d e h =
    let same : j ≡ p = omega arith in
    ap (λ i. interval_set (sides_set i (column_bounds j v.bound.lower v.bound.upper ++ bounds_of (suc j) vs))) (sym same)
    ∙ own_sides j v.bound.lower v.bound.upper (bounds_of (suc j) vs)
column_sides_back (v ∷ vs) p j (suc k) d e h =
    ap interval_set (skip_all p j v.bound.lower v.bound.upper (bounds_of (suc j) vs) (ne_eqb j p (λ same. omega arith)))
    ∙ column_sides_back vs p (suc j) k d (omega arith) (omega arith)

-- no record makes a column whole
never : (b c : Bool) → ((b && false) || c) ≡ c
never true c = refl
never false c = refl

skip_whole : (p j : ℕ) (l u : Option ℚ) (rest : List (Bound ℚ)) → has_whole_record p (column_bounds j l u ++ rest) ≡ has_whole_record p rest
unfolding has_whole_record
skip_whole p j None None rest = never (nat_eq j p) (has_whole_record p rest)
skip_whole p j None (Some u) rest = never (nat_eq j p) _ ∙ never (nat_eq j p) _
skip_whole p j (Some l) None rest = never (nat_eq j p) _ ∙ never (nat_eq j p) _
skip_whole p j (Some l) (Some u) rest = by_range (nonzero (u -ℚ l))
  where
    by_range : (o : Option ℚ) → has_whole_record p (fixed_or_both j l u o ++ rest) ≡ has_whole_record p rest
    by_range None = never (nat_eq j p) _
    by_range (Some r) = never (nat_eq j p) _ ∙ never (nat_eq j p) _

pub never_whole : (p j : ℕ) (vs : List Variable) → has_whole_record p (bounds_of j vs) ≡ false
unfolding has_whole_record bounds_of
never_whole p j [] = refl
never_whole p j (v ∷ vs) = skip_whole p j v.bound.lower v.bound.upper (bounds_of (suc j) vs) ∙ never_whole p (suc j) vs
