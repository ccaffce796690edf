-- The other side of a row with a range.
use Rattle.std.proofs.Common.{◌≡◌, ◌↔◌, ◌∙◌, sym, ap, ap₂, refl, subst, arith, pos, int_lt, ◌<ℤ◌, Bool, true, false, IsTrue, ◌&&◌, cond, Option, Some, None, MatchOption}
use Rattle.exact_numbers.specs.Rational.{ℚ, zero_ℚ, ◌+ℚ◌, ◌<ℚ◌}
use Rattle.exact_numbers.specs.Fits.{fits, sum_fits}
use Rattle.exact_numbers.proofs.RationalLaws.{zero_value, -ℚ_lem}
use Rattle.exact_numbers.proofs.Values.{own_value, lt_value, value_lt}
use Rattle.std.proofs.lemmas.Int.{ints}
use Rattle.std.proofs.lemmas.Bool.{false_from_ne_true}
use Rattle.linear_program.specs.Linear.{Interval}
use Rattle.exact_numbers.specs.declared.dec.Dec.{Dec}
use Rattle.exact_numbers.specs.Values.{dec_value, FitsDec, fits_dec}
use Rattle.exact_numbers.proofs.Spelling.{fits_dec_in, fits_dec_out}
use Rattle.mps_model.specs.declared.kinds.RowKind.{RowKind}
use Rattle.mps_model.specs.declared.kinds.RowKind.TheVariants.{L, E}
use Rattle.mps_model.specs.Mps.{row_sides, is_negative, size_of, Unset, At, lower_side}
use Rattle.mps_program.specs.Faults.{range_step, is_in_reach}
use Rattle.exact_numbers.proofs.Fitting.{dec_fits}

-- where all but the last test pass, the sum is in reach exactly where it is a decimal
reach_is : (kind : RowKind) (b w : ℚ) → fits b ≡ true → fits w ≡ true → sum_fits b (range_step kind w) ≡ true → is_in_reach kind b w ≡ fits_dec (b +ℚ range_step kind w)
reach_is kind b w p q s = λ i. p i && q i && s i && fits_dec (b +ℚ range_step kind w)

as_decimal : (r : Option Dec) (kind : RowKind) (b w z : ℚ) → is_in_reach kind b w ≡ fits_dec (b +ℚ range_step kind w)
    → z ≡ b +ℚ range_step kind w → MatchOption r (FitsDec z → ⊥) (λ d. dec_value d ≡ z)
    → MatchOption r (is_in_reach kind b w ≡ false) (λ d. (is_in_reach kind b w ≡ true)
    × (dec_value d ≡ b +ℚ range_step kind w))
as_decimal None kind b w z e same h = e ∙ false_from_ne_true (fits_dec (b +ℚ range_step kind w)) (λ t. h (subst FitsDec (sym same) (fits_dec_out (b +ℚ range_step kind w) t)))
as_decimal (Some d) kind b w z e same h = (e ∙ fits_dec_in (b +ℚ range_step kind w) (subst FitsDec (h ∙ same) (dec_fits d)), h ∙ same)

pub reached : (r : Option Dec) (kind : RowKind) (b w side width step sum : ℚ) → ((fits b ≡ true) × (side ≡ b))
    → ((fits w ≡ true) × (width ≡ w)) → step ≡ range_step kind width
    → ((sum_fits side step ≡ true) × (sum ≡ side +ℚ step)) → MatchOption r (FitsDec sum → ⊥) (λ d. dec_value d ≡ sum)
    → MatchOption r (is_in_reach kind b w ≡ false) (λ d. (is_in_reach kind b w ≡ true)
    × (dec_value d ≡ b +ℚ range_step kind w))
reached r kind b w side width step sum p q s t h =
    let same_step = s ∙ ap (range_step kind) q.1 in
    as_decimal r kind b w sum (reach_is kind b w p.0 q.0 (sym (ap₂ sum_fits p.1 same_step) ∙ t.0)) (t.1 ∙ ap₂ ◌+ℚ◌ p.1 same_step) h

-- ---- the sign of a range
pub negative_in : (x : ℚ) → x <ℚ zero_ℚ → is_negative x ≡ true
negative_in x h = by (is_negative x) refl (lt_value (own_value x) (zero_value x.bottom x.above) h)
  where
    by : (b : Bool) → int_lt x.top (pos 0) ≡ b → x.top <ℤ pos 0 → int_lt x.top (pos 0) ≡ true
    by true e l = e
    by false e l = absurd (omega (arith, ints))

pub negative_out : (x : ℚ) → (x <ℚ zero_ℚ → ⊥) → is_negative x ≡ false
negative_out x h = false_from_ne_true (is_negative x) (λ e. h (value_lt (own_value x) (zero_value x.bottom x.above) (omega (arith, ints))))

pub sign_of : (b : Bool) (x : ℚ) → IsTrue b ↔ (x <ℚ zero_ℚ) → is_negative x ≡ b
sign_of true x h = negative_in x (h.0 refl)
sign_of false x h = negative_out x (λ l. let r = h.1 l in cc)

-- ---- both sides
abbrev pub sides : ℚ → ℚ → Interval
sides l u = record { lower = Some l; upper = Some u }

pub lower_kind : (kind : RowKind) (b o r : ℚ) → kind ≡ L → o ≡ b +ℚ range_step kind r → sides o b ≡ row_sides kind b (Some r)
lower_kind kind b o r k e = subst (λ t. o ≡ b +ℚ range_step t r → sides o b ≡ row_sides t b (Some r)) (sym k) (λ h. ap (λ l. sides l b) (h ∙ sym (-ℚ_lem b (size_of r)))) e

pub equal_kind : (kind : RowKind) (b o r : ℚ) (n : Bool) → kind ≡ E → o ≡ b +ℚ range_step kind r → is_negative r ≡ n → cond n (sides o b) (sides b o) ≡ row_sides kind b (Some r)
equal_kind kind b o r n k e s = subst (λ t. o ≡ b +ℚ range_step t r → cond n (sides o b) (sides b o) ≡ row_sides t b (Some r)) (sym k) (λ h i. cond (sym s i) (sides (h i) b) (sides b (h i))) e

-- the usual lower side, where an upper side is set
pub usual_is : (x : ℚ) (n : Bool) → is_negative x ≡ n → cond n None (Some zero_ℚ) ≡ lower_side Unset (At x)
usual_is x n s = ap (λ b. cond b None (Some zero_ℚ)) (sym s)
