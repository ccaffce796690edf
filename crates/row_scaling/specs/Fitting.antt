-- Which numbers of a row fit, by its terms and its sides.
use Rattle.std.specs.Prelude.{◌≡◌, IsTrue, List, [], ◌∷◌, map, Option, Some, None}
use Rattle.std.specs.Option.{option_map}
use Rattle.exact_numbers.specs.Fits.{fits, sum_fits}
use Rattle.exact_numbers.specs.Rational.{ℚ, neg_ℚ, ◌-ℚ◌, ◌*ℚ◌}
use Rattle.exact_numbers.specs.declared.frac.Frac.{Frac}
use Rattle.exact_numbers.specs.Values.{dec_value, frac_value, FitsDec}
use Rattle.scaled_program.specs.Fits.{IfSide, IfBoth, RangeFits}
use Rattle.linear_program.specs.Coefs.{Term}
use Rattle.exact_numbers.specs.declared.dec.Dec.{Dec}
use Rattle.scaled_program.specs.Program.{range_of}
use Rattle.row_scaling.specs.Rows.{TermOf, side_value}

-- the coefficients of terms, in order
abbrev pub coefficients_in : List Term → List ℚ
coefficients_in ts = map (λ t. frac_value t.1) ts

-- the value of a side
abbrev pub frac_side : Option Frac → Option ℚ
frac_side s = option_map frac_value s

-- the side alone, where there is one
abbrev pub listed : Option ℚ → List ℚ
listed None = []
listed (Some s) = s ∷ []

-- a side less the constant
abbrev pub less_side : ℚ → Option ℚ → Option ℚ
less_side constant s = option_map (λ x. x -ℚ constant) s

-- a side times q
abbrev pub times_side : ℚ → Option ℚ → Option ℚ
times_side q s = option_map (λ x. q *ℚ x) s

-- a side fits, and so does what is left of it without the constant
pub record LessFits (constant s : ℚ) : Type 0 where
  pub side : IsTrue (fits s)
  pub less : IsTrue (sum_fits s (neg_ℚ constant))

-- q times x fits a fraction
abbrev pub ProductFits : ℚ → ℚ → Type 0
ProductFits q x = IsTrue (fits (q *ℚ x))

-- q times x fits, as a fraction and as a decimal
pub record NumberFits (q x : ℚ) : Type 0 where
  pub frac : ProductFits q x
  pub dec : FitsDec (q *ℚ x)

-- both sides times q fit, and so does their difference
pub record AreSidesFit (q : ℚ) (l u : Option ℚ) : Type 0 where
  pub lower : IfSide (NumberFits q) l
  pub upper : IfSide (NumberFits q) u
  pub range : IfBoth RangeFits (times_side q l) (times_side q u)

-- a number fits a fraction
abbrev pub HasFraction : ℚ → Type 0
HasFraction x = IsTrue (fits x)

-- the difference of two sides, where both are there and differ; it fits
abbrev pub IsRangeOf : Option ℚ → Option ℚ → Option Dec → Type 0
IsRangeOf l u r = IfBoth RangeFits l u × (side_value r ≡ range_of l u)

-- both sides fit, and so does their difference
pub record ArePlain (l u : Option ℚ) (range : Option Dec) : Type 0 where
  pub lower : IfSide HasFraction l
  pub upper : IfSide HasFraction u
  pub range_is : IsRangeOf l u range

-- a term times q
pub record IsTermTimes (q : ℚ) (t : Term) (u : TermOf) : Type 0 where
  pub variable : u.0 ≡ t.0
  pub fits : NumberFits q (frac_value t.1)
  pub value : dec_value u.1 ≡ q *ℚ frac_value t.1

-- each term times q
abbrev pub AreTermsTimes : ℚ → List Term → List TermOf → Type 0
AreTermsTimes q [] [] = Unit {0}
AreTermsTimes q [] (u ∷ us) = ⊥
AreTermsTimes q (t ∷ ts) [] = ⊥
AreTermsTimes q (t ∷ ts) (u ∷ us) = IsTermTimes q t u × AreTermsTimes q ts us
