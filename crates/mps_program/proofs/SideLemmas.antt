-- The sides of rows and columns are decimals.
use Rattle.std.proofs.Common.{◌≡◌, ℕ, ◌∙◌, sym, ap, ap₂, refl, subst, Bool, true, false, ◌&&◌, cond, nat_eq, List, [], ◌∷◌, map, Option, Some, None, MatchOption}
use Rattle.std.proofs.lemmas.Bool.{cond_both, not-false, and_parts}
use Rattle.std.specs.Option.{option_map}
use Rattle.std.specs.Prelude.{option_and_then}
use Rattle.exact_numbers.specs.Rational.{ℚ, zero_ℚ, ◌+ℚ◌, decimal_value}
use Rattle.exact_numbers.specs.Fits.{fits, sum_fits}
use Rattle.exact_numbers.proofs.RationalLaws.{ -ℚ_lem}
use Rattle.linear_program.specs.Linear.{Interval}
use Rattle.exact_numbers.specs.Values.{dec_value, decimal_of, FitsDec, fits_dec}
use Rattle.exact_numbers.specs.declared.dec.Dec.{Dec}
use Rattle.exact_numbers.proofs.Fitting.{dec_fits, one_fits, zero_fits}
use Rattle.exact_numbers.proofs.Spelling.{decimal_of-decimal, fits_dec_in, fits_dec_out}
use Rattle.linear_program.specs.declared.interval.Interval.{Interval as Sides}
use Rattle.mps_model.specs.declared.kinds.RowKind.{RowKind}
use Rattle.mps_model.specs.declared.kinds.RowKind.TheVariants.{N, L, G, E}
use Rattle.mps_model.specs.declared.kinds.BoundKind.{BoundKind}
use Rattle.mps_model.specs.declared.kinds.BoundKind.TheVariants.{Lo, Up, Fx, Bv, Li, Ui}
use Rattle.mps_model.specs.Mps.{Entry, Bound, entry_with, bound_with, at_row, or_zero, row_sides, is_negative, size_of}
use Rattle.mps_model.specs.Mps.{Side, Unset, Open, At, SetSides, sets, first_side, sides_set, lower_side, upper_side}
use Rattle.mps_model.specs.Mps.{interval_set}
use Rattle.linear_program.specs.Intervals.{interval_of}
use Rattle.exact_numbers.specs.Numbers.{dec_from}
use Rattle.exact_numbers.proofs.NumberLemmas.{dec_from-value, dec_from-fits}
use Rattle.mps_program.specs.Decimals.{sides_from}
use Rattle.mps_program.specs.Faults.{range_step, is_in_reach, is_range_wide}

-- ---- values of decimals
pub spelled_value : (x : ℚ) → FitsDec x → decimal_value (decimal_of x).mantissa (decimal_of x).exponent ≡ x
spelled_value x f =
    ap (λ d. decimal_value d.mantissa d.exponent) (ap decimal_of (sym f.same) ∙ decimal_of-decimal f.m f.e f.dec) ∙ f.same

value_back : (o : Option Dec) (x : ℚ) → FitsDec x → MatchOption o (fits_dec x ≡ false) (λ d. (fits_dec x ≡ true) × (dec_value d ≡ x)) → option_map dec_value o ≡ Some x
value_back None x f e = let t = fits_dec_in x f in cc
value_back (Some d) x f e = ap Some e.1

pub from_value : (x : ℚ) → FitsDec x → option_map dec_value (dec_from x) ≡ Some x
from_value x f = value_back (dec_from x) x f (dec_from-fits x)

-- ---- sides
abbrev pub IsDecimalSide : Option ℚ → Type 0
IsDecimalSide None = Unit {0}
IsDecimalSide (Some x) = FitsDec x

pub record AreDecimalSides (s : Interval) : Type 0 where
  pub lower : IsDecimalSide s.lower
  pub upper : IsDecimalSide s.upper

side_back : (o : Option ℚ) → IsDecimalSide o → option_map dec_value (option_and_then dec_from o) ≡ o
side_back None f = refl
side_back (Some x) f = from_value x f

pub sides_back : (s : Interval) → AreDecimalSides s → interval_of (sides_from s) ≡ s
sides_back s f = ap₂ (λ l u. record { lower = l; upper = u }) (side_back s.lower f.lower) (side_back s.upper f.upper)

own_side : (o : Option Dec) → option_and_then dec_from (option_map dec_value o) ≡ o
own_side None = refl
own_side (Some d) = dec_from-value (dec_value d) d refl

-- the sides of a file are those of their interval
pub own_sides : (s : Sides) → sides_from (interval_of s) ≡ s
own_sides s = ap₂ (λ l u. record { lo = l; hi = u }) (own_side s.lo) (own_side s.hi)

pub sides_of : (s : Sides) (i : Interval) → interval_of s ≡ i → s ≡ sides_from i
sides_of s i e = sym (own_sides s) ∙ ap sides_from e

either_side : (b : Bool) (o u : Option ℚ) → IsDecimalSide o → IsDecimalSide u → IsDecimalSide (cond b o u)
either_side true o u f g = f
either_side false o u f g = g

-- ---- rows
at_row_fits : (i : ℕ) (es : List (Entry Dec)) → IsDecimalSide (at_row i (map (entry_with dec_value) es))
unfolding at_row
at_row_fits i [] = tt
at_row_fits i (e ∷ es) = either_side (nat_eq e.row i) (Some (dec_value e.value)) (at_row i (map (entry_with dec_value) es)) (dec_fits e.value) (at_row_fits i es)

or_zero_fits : (o : Option ℚ) → IsDecimalSide o → FitsDec (or_zero o)
or_zero_fits None f = zero_fits
or_zero_fits (Some x) f = f

pub rhs_fits : (i : ℕ) (es : List (Entry Dec)) → FitsDec (or_zero (at_row i (map (entry_with dec_value) es)))
rhs_fits i es = or_zero_fits (at_row i (map (entry_with dec_value) es)) (at_row_fits i es)

sum_in : (kind : RowKind) (b r : ℚ) → is_range_wide kind b (Some r) ≡ false → FitsDec (b +ℚ range_step kind r)
sum_in kind b r e = fits_dec_out (b +ℚ range_step kind r) (and_parts (fits b && fits r && sum_fits b (range_step kind r)) (fits_dec (b +ℚ range_step kind r)) (not-false (is_in_reach kind b r) e)).1

pub row_fits : (kind : RowKind) (b : ℚ) (range : Option ℚ) → FitsDec b → is_range_wide kind b range ≡ false → AreDecimalSides (row_sides kind b range)
row_fits N b range f e = record { lower = tt; upper = tt }
row_fits L b None f e = record { lower = tt; upper = f }
row_fits L b (Some r) f e = record { lower = subst FitsDec (sym (-ℚ_lem b (size_of r))) (sum_in L b r e); upper = f }
row_fits G b None f e = record { lower = f; upper = tt }
row_fits G b (Some r) f e = record { lower = f; upper = sum_in G b r e }
row_fits E b None f e = record { lower = f; upper = f }
row_fits E b (Some r) f e = by_sign (is_negative r)
  where
    by_sign : (n : Bool) → AreDecimalSides (cond n (record { lower = Some (b +ℚ r); upper = Some b }) (record { lower = Some b; upper = Some (b +ℚ r) }))
    by_sign true = record { lower = sum_in E b r e; upper = f }
    by_sign false = record { lower = f; upper = sum_in E b r e }

-- ---- columns
abbrev IsDecimalSet : Side → Type 0
IsDecimalSet (At x) = FitsDec x
IsDecimalSet side = Unit {0}

record AreDecimalSet (s : SetSides) : Type 0 where
  lower : IsDecimalSet s.lower
  upper : IsDecimalSet s.upper

sets_fit : (k : BoundKind) (x : ℚ) → FitsDec x → AreDecimalSet (sets k x)
sets_fit Lo x f = record { lower = f; upper = tt }
sets_fit Li x f = record { lower = f; upper = tt }
sets_fit Up x f = record { lower = tt; upper = f }
sets_fit Ui x f = record { lower = tt; upper = f }
sets_fit Fx x f = record { lower = f; upper = f }
sets_fit Bv x f = record { lower = zero_fits; upper = one_fits }
sets_fit k x f = record { lower = tt; upper = tt }

first_fits : (s t : Side) → IsDecimalSet s → IsDecimalSet t → IsDecimalSet (first_side s t)
first_fits Unset t f g = g
first_fits s t f g = f

set_fit : (j : ℕ) (bs : List (Bound Dec)) → AreDecimalSet (sides_set j (map (bound_with dec_value) bs))
unfolding sides_set
set_fit j [] = record { lower = tt; upper = tt }
set_fit j (b ∷ bs) =
    let this = sets_fit b.kind (dec_value b.value) (dec_fits b.value) in
    let rest = set_fit j bs in
    cond_both (nat_eq b.column j) _ _ AreDecimalSet (λ e. record { lower = first_fits _ _ this.lower rest.lower; upper = first_fits _ _ this.upper rest.upper }) (λ e. rest)

lower_fits : (s t : Side) → IsDecimalSet s → IsDecimalSide (lower_side s t)
lower_fits Unset (At u) f = either_side (is_negative u) None (Some zero_ℚ) tt zero_fits
lower_fits Unset t f = zero_fits
lower_fits Open t f = tt
lower_fits (At x) t f = f

upper_fits : (s : Side) → IsDecimalSet s → IsDecimalSide (upper_side s)
upper_fits (At x) f = f
upper_fits s f = tt

pub column_fits : (j : ℕ) (bs : List (Bound Dec)) → AreDecimalSides (interval_set (sides_set j (map (bound_with dec_value) bs)))
column_fits j bs = let set = set_fit j bs in record { lower = lower_fits _ _ set.lower; upper = upper_fits _ set.upper }
